use Rattle.std.proofs.Common.{◌≡◌, ◌+◌, length}
use Rattle.pg_bytes.specs.ByteSets.{bytes}
use Rattle.pg_glob.specs.Brackets.{members_at, members_behind}
use Rattle.pg_glob.proofs.bracket.members.Given as goal

abbrev pub invariant-loop-byte : goal.invariant-loop-byte
invariant-loop-byte l = record {
  reads : members_behind 0 (bytes l.set) l.length l.left ≡ members_at l.fn.text;
  within : l.length + length l.left ≡ length l.fn.text;
}

abbrev pub decreases-loop-byte : goal.decreases-loop-byte
decreases-loop-byte l = length l.left
