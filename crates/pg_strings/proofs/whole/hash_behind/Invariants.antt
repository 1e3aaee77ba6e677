use Rattle.std.proofs.Common.{◌≡◌, drop}
use Rattle.pg_strings.specs.Whole.{hash_behind}
use Rattle.pg_strings.proofs.whole.hash_behind.Given as goal

abbrev pub invariant-loop-byte : goal.invariant-loop-byte
invariant-loop-byte l = hash_behind l.hash (drop l.byte-index l.text) ≡ hash_behind l.before l.text
