use Rattle.std.proofs.Common.{◌≡◌, ◌<◌, ℕ, true}
use Rattle.pg_bytes.specs.ByteSets.{bytes}
use Rattle.pg_literal.proofs.row.first_byte.Given as goal

abbrev pub invariant-loop-byte : goal.invariant-loop-byte
invariant-loop-byte l = (c : ℕ) → c < l.byte → bytes l.set c ≡ true → ⊥
