use Rattle.std.proofs.Common.{◌≤◌, length}
use Rattle.std.specs.List.{AllWithin}
use Rattle.pg_match.proofs.strings.longest.Given as goal

abbrev pub invariant-loop-string : goal.invariant-loop-string
invariant-loop-string l = AllWithin (λ string. length string.now ≤ l.most) l.strings 0 l.string-index
