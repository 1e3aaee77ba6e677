use Rattle.std.proofs.Common.{ap, sym, ◌∙◌, option_map}
use Rattle.pg_bytes.specs.ByteSets.{bytes}
use Rattle.pg_syntax.specs.BracketViews.{element}
use Rattle.pg_syntax.proofs.BracketAt.{none_left, no_symbol}
use Rattle.pg_syntax.proofs.element.Element.range_fault.Goals as goal

pub returns-then-is_none : goal.returns-then-is_none
returns-then-is_none c = λ text bracket from rest a b r. c.fault.ensures text bracket from
    (sym c.member.ensures ∙ ap (option_map bytes) (none_left c.member.result c.if-is_none.ensures)) a

pub returns-then-is_none-2 : goal.returns-then-is_none-2
returns-then-is_none-2 c = λ text bracket from rest a b r. c.fault-then-is_none-2.ensures text bracket rest
    (no_symbol (element c.args.last) c.in-Enclosed.mark c.in-Enclosed.content.now (ap element c.in-Enclosed.is)
    c.if-mark-eq46.true (sym c.only_byte.ensures ∙ none_left c.only_byte.result c.if-is_none-2.ensures)) b
