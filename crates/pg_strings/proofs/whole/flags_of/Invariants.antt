use Rattle.std.proofs.Common.{◌≡◌, length, map, take}
use Rattle.std.specs.List.{All}
use Rattle.pg_pattern.specs.Strings.{items_of}
use Rattle.pg_strings.specs.Whole.{IsFlaggedAt}
use Rattle.pg_strings.proofs.whole.flags_of.Given as goal

abbrev pub invariant-loop-place : goal.invariant-loop-place
invariant-loop-place g l = record {
  all : length l.flags.items ≡ 131072;
  flagged : All (IsFlaggedAt l.lengths l.flags.items) (take l.place (map items_of l.strings));
}
