use Rattle.std.proofs.Common.{◌≡◌, ◌<◌, ℕ}
use Rattle.pg_bytes.specs.ByteSets.{bytes}
use Rattle.pg_literal.specs.Rows.{byte_as_searched}
use Rattle.pg_literal.proofs.row.has_all_cases.Given as goal

abbrev pub invariant-loop-byte : goal.invariant-loop-byte
invariant-loop-byte l = (c : ℕ) → c < l.byte → bytes l.set c ≡ bytes l.set (byte_as_searched l.fold c)
