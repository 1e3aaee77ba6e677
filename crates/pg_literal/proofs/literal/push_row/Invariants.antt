use Rattle.std.proofs.Common.{map, take, reverse}
use Rattle.pg_pattern.specs.Strings.{items_of}
use Rattle.pg_literal.proofs.LiteralLemmas.{ArePushed}
use Rattle.pg_literal.proofs.literal.push_row.Given as goal

abbrev pub invariant-loop-backwards : goal.invariant-loop-backwards
invariant-loop-backwards g l =
    ArePushed (map reverse (map items_of (take l.backwards-index l.backwards-items))) l.is_enough l.is_head
    l.fn.literals.items l.literals.items
