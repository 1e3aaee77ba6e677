-- Why a piece isn't taken, and what a file's numbers are then.
use Rattle.std.proofs.Common.{◌≡◌, ℕ, ◌+◌, ◌-◌, ◌<◌, ◌≤◌, ◌^◌, ◌↔◌, List, length, take, drop, length-drop, arith}
use Rattle.std.proofs.Common.{Result, Ok, Err}
use Rattle.std.proofs.lemmas.List.{length-take-le}
use Rattle.std.specs.Prelude.{IsErrOf, IsErrAnd}
use Rattle.pg_blocks.specs.declared.cutter.CutFault.{CutFault}
use Rattle.pg_blocks.specs.declared.cutter.CutFault.TheVariants.{OutOfMemory, LineTooLong, FileTooLong}

-- the faults are three, and none is there where a piece is taken
pub file_not_line : {T : Type 0} → ◌≡◌ {A = Result T CutFault} (Err FileTooLong) (Err LineTooLong) → ⊥
file_not_line e = cc

pub line_not_file : {T : Type 0} → ◌≡◌ {A = Result T CutFault} (Err LineTooLong) (Err FileTooLong) → ⊥
line_not_file e = cc

pub taken_not_refused : {T : Type 0} {x : T} {f : CutFault} → ◌≡◌ {A = Result T CutFault} (Ok x) (Err f) → ⊥
taken_not_refused e = cc

pub memory_not_file : {T : Type 0} {r : Result T CutFault} {f : CutFault} → r ≡ Err f → f ≡ OutOfMemory
    → r ≡ Err FileTooLong → ⊥
memory_not_file is out e = cc

pub memory_not_line : {T : Type 0} {r : Result T CutFault} {f : CutFault} → r ≡ Err f → f ≡ OutOfMemory
    → r ≡ Err LineTooLong → ⊥
memory_not_line is out e = cc

-- a fault that is handed on is told alike
pub fault_told : {T U P : Type 0} {fault : CutFault} (r : Result U CutFault) (e : CutFault) → IsErrAnd r (λ x. x ≡ e)
    → ◌≡◌ {A = Result T CutFault} (Err e) (Err fault) ↔ P → IsErrOf r fault ↔ P
fault_told (Ok x) e h told = absurd h
fault_told {T} {U} {P} {fault} (Err x) e h told = (
  λ is.
      let same : ◌≡◌ {A = Result T CutFault} (Err e) (Err fault) = cc in
      told.0 same,
  λ p.
      let same : ◌≡◌ {A = Result T CutFault} (Err e) (Err fault) = told.1 p in
      cc,
)

-- and one that a test found not to come isn't told
pub none_told : {T U P : Type 0} {x : T} {fault : CutFault} (r : Result U CutFault)
    → ◌≡◌ {A = Result T CutFault} (Ok x) (Err fault) ↔ P → (IsErrOf r fault → ⊥) → IsErrOf r fault ↔ P
none_told r told never = (λ is. absurd (never is), λ p. absurd (taken_not_refused (told.1 p)))

-- where the file would be too long
pub file_over : {total past size count : ℕ} → total ≡ past → size ≡ count → 2 ^ 62 - total < count
    → 2 ^ 62 < past + size
file_over total size over = omega arith

-- where it isn't
pub file_fits : {total past size count : ℕ} → total ≡ past → size ≡ count → total ≤ 2 ^ 62
    → count ≤ 2 ^ 62 - total → past + size ≤ 2 ^ 62
file_fits total size few fits = omega arith

pub not_over : {n : ℕ} → n ≤ 2 ^ 62 → 2 ^ 62 < n → ⊥
not_over fits over = omega arith

pub total_fits : {total count : ℕ} → total ≤ 2 ^ 62 → count ≤ 2 ^ 62 - total → total + count ≤ 2 ^ 62
total_fits few fits = omega arith

pub room_fits : (total count : ℕ) (room : List ℕ) → count ≤ length room
    → total + length (take count room) ≤ 2 ^ 62 → total + count ≤ 2 ^ 62
room_fits total count room within fits = omega (arith, length-take-le count room within, fits)

-- the numbers of a piece's blocks
pub numbers_fit : (number filled count : ℕ) {total : ℕ} → number + filled ≤ total → total + count ≤ 2 ^ 62
    → number + count < 2 ^ 63
numbers_fit number filled count numbers fits = omega arith

pub numbers_more : (number filled blocks left count : ℕ) {total : ℕ} → number + filled ≤ total
    → blocks + left ≤ filled + count → (number + blocks) + left ≤ total + count
numbers_more number filled blocks left count numbers more = omega arith

-- a piece of the room
pub piece_within : {filled count : ℕ} (bytes : List ℕ) → filled ≤ length bytes → count ≤ length (drop filled bytes)
    → filled + count ≤ length bytes
piece_within {filled} bytes within fits = omega (arith, length-drop filled bytes)

pub further : (n m : ℕ) → n ≤ n + m
further n m = omega arith
