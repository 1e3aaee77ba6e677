-- How the sequencer of a test stands.
use Rattle.std.specs.Prelude.{◌≡◌, ℕ, ◌+◌, ◌*◌, ◌≤◌, true, false, List, length}
use Rattle.std.specs.List.{AllByRecursion}
use Rattle.pg_blocks.specs.Blocks.{EndsWith, joined}
use Rattle.pg_selection.specs.Search.{terminator}
use Rattle.pg_plan.specs.Plan.{is_open, opened, last_blocks}
use Rattle.pg_plan.specs.History.{Past, plan}
use Rattle.pg_seq.specs.Standing.{IsAfter}
use Rattle.pg_seq.specs.declared.assembler.Assembler.{Assembler}

-- the bytes of a block: lines with their newlines, of at most 100 bytes together
pub record IsBlock (bytes : List ℕ) : Type 0 where
  pub short : length bytes ≤ 100
  pub ends : EndsWith 10 bytes

-- Lines end with newlines, no file is open, and so many were opened.
pub record IsBetween {A : Type 0} (s : Assembler A) (files : ℕ) : Type 0 where
  pub past : Past
  pub stands : IsAfter s past
  pub closed : is_open (plan past) ≡ false
  pub number : opened (plan past) ≡ files
  pub ends : terminator past.query ≡ 10

-- Lines end with newlines, the file of this number is open, and so many blocks of it were announced, each of at most
-- 100 bytes.
pub record IsReading {A : Type 0} (s : Assembler A) (file count : ℕ) : Type 0 where
  pub past : Past
  pub stands : IsAfter s past
  pub running : is_open (plan past) ≡ true
  pub last : opened (plan past) ≡ file + 1
  pub ends : terminator past.query ≡ 10
  pub number : length (last_blocks (plan past)) ≡ count
  pub seam : AllByRecursion (λ b. EndsWith 10 b.bytes) (last_blocks (plan past))
  pub size : length (joined (last_blocks (plan past))) ≤ 100 * count
