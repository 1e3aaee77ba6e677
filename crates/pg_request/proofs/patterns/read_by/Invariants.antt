use Rattle.std.proofs.Common.{◌≡◌, ◌∷◌, ◌-◌, ◌^◌, ◌<◌, ℕ, List, length, true}
use Rattle.pg_base.specs.Entries.{Left}
use Rattle.pg_files.specs.Given.{FileOutcome, File, is_reading}
use Rattle.pg_request.proofs.patterns.read_by.Given as goal

abbrev pub invariant-loop-count : goal.invariant-loop-count
invariant-loop-count g l = record {
  room : 0 < length l.buffer;
  reading : is_reading (g.S.Store.past l.store) ≡ true;
  given : (path : List ℕ) (past : List FileOutcome)
      → g.S.Store.past l.fn.store ≡ File path l.fn.bytes.items Left ∷ past →
      g.S.Store.past l.store ≡ File path l.bytes.items Left ∷ past;
}

abbrev pub decreases-loop-count : goal.decreases-loop-count
decreases-loop-count g l = 2 ^ 63 - length l.bytes.items
