use Rattle.std.proofs.Common.{sym, ap}
use Rattle.pg_grammar.specs.FaultTexts.{kind_text}
use Rattle.pg_grammar.proofs.fault.FaultKind.text.Goals as goal

pub returns-in-BadRange : goal.returns-in-BadRange
returns-in-BadRange c = ap kind_text (sym c.in-BadRange.is)
