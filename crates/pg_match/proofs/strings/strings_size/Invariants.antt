use Rattle.std.proofs.Common.{◌≡◌, ◌+◌, ◌-◌, Bool, min, take, sum_by}
use Rattle.pg_match.specs.Sizes.{size_of}
use Rattle.pg_match.specs.Strings.{string_patterns}
use Rattle.pg_match.proofs.strings.strings_size.Given as goal

abbrev pub invariant-loop-i : goal.invariant-loop-i
invariant-loop-i l = (fold : Bool)
    → l.total ≡ min (sum_by size_of (take l.i (string_patterns fold l.strings)) + (l.i - 1)) 65537
