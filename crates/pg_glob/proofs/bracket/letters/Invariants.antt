use Rattle.std.proofs.Common.{◌≡◌, ◌+◌, length}
use Rattle.pg_glob.specs.Brackets.{count_of_letters}
use Rattle.pg_glob.proofs.bracket.letters.Given as goal

abbrev pub invariant-loop-byte : goal.invariant-loop-byte
invariant-loop-byte l = record {
  count : l.count + count_of_letters l.left ≡ count_of_letters l.fn.text;
  within : l.count + length l.left ≡ length l.fn.text;
}

abbrev pub decreases-loop-byte : goal.decreases-loop-byte
decreases-loop-byte l = length l.left
