-- The kind of a pattern whose text is an expression.
use Rattle.pg_grammar.specs.declared.syntax.Syntax.{Syntax}
use Rattle.pg_grammar.specs.declared.syntax.Syntax.TheVariants as S
use Rattle.pg_grammar.specs.declared.pattern_list.Kind.{Kind}
use Rattle.pg_grammar.specs.declared.pattern_list.Kind.TheVariants as K

-- the kind that is written in a syntax
abbrev pub kind_of : Syntax → Kind
kind_of S.Basic = K.Basic
kind_of S.Extended = K.Extended
