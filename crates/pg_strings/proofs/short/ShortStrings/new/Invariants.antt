use Rattle.std.proofs.Common.{map, take}
use Rattle.pg_pattern.specs.Strings.{items_of}
use Rattle.pg_strings.specs.Short.{AreTables}
use Rattle.pg_strings.proofs.short.ShortStrings.new.Given as goal

abbrev pub invariant-loop-place : goal.invariant-loop-place
invariant-loop-place g l =
    AreTables l.short.singles.items l.short.pairs.items (take l.place (map items_of l.strings))
