use Rattle.std.proofs.Common.{subst, sym, refl}
use Rattle.pg_grammar.specs.Results.{IsSpelled}
use Rattle.pg_syntax.specs.Expressions.{kind_of}
use Rattle.pg_pattern.proofs.PatternLemmas.{pattern-empty}
use Rattle.pg_syntax.proofs.TokenLoop.{empty_spelled, empty_text, long_text}
use Rattle.pg_syntax.proofs.parser.parse.Goals as goal

pub returns-then-len-gt-LONGEST-clause-refused : goal.returns-then-len-gt-LONGEST-clause-refused
returns-then-len-gt-LONGEST-clause-refused g c =
    let source = c.args.source in long_text source.syntax source.fold source.text.now c.if-len-gt-LONGEST.true

pub returns-then-len-eq0-clause-spelled : goal.returns-then-len-eq0-clause-spelled
returns-then-len-eq0-clause-spelled g c =
    let source = c.args.source in
    subst (IsSpelled (kind_of source.syntax) source.fold source.text.now) (sym (pattern-empty _ refl))
    (empty_spelled _ _ source.text.now (empty_text source.text.now c.if-len-eq0.true))
