use Rattle.std.proofs.Common.{take, map}
use Rattle.pg_pattern.specs.Strings.{items_of}
use Rattle.pg_strings.specs.Whole.{HasChainsOf}
use Rattle.pg_strings.proofs.whole.WholeStrings.new.Given as goal

abbrev pub invariant-loop-place : goal.invariant-loop-place
invariant-loop-place g l =
    HasChainsOf l.whole (take l.place (map items_of l.strings))
