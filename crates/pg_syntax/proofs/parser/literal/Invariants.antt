use Rattle.std.proofs.Common.{take}
use Rattle.pg_grammar.specs.Grammar.{Literal}
use Rattle.pg_pattern.specs.Trees.{pattern}
use Rattle.pg_syntax.proofs.parser.literal.Given as goal

abbrev pub invariant-loop-at : goal.invariant-loop-at
invariant-loop-at g l = Literal l.fold (take l.at l.text) (pattern l.tree)
