use Rattle.std.proofs.Common.{◌≡◌, ◌<◌, ◌↔◌, ℕ, true}
use Rattle.pg_bytes.specs.ByteSets.{bytes}
use Rattle.pg_literal.specs.Rows.{byte_as_searched}
use Rattle.pg_literal.proofs.row.only_byte.Given as goal

abbrev pub invariant-loop-other : goal.invariant-loop-other
invariant-loop-other l =
    (c : ℕ) → c < l.other → (bytes l.set c ≡ true) ↔ (byte_as_searched l.fold c ≡ l.byte)
