-- The plan of a run: the files and blocks that were announced. The newest step stands first.
use Rattle.std.specs.Prelude.{◌≡◌, ◌≢◌, ℕ, ◌+◌, ◌-◌, ◌<◌, ◌≤◌, ◌^◌, Bool, true, false, if◌then◌else◌, List, [], ◌∷◌}
use Rattle.std.specs.Prelude.{◌++◌, length}
use Rattle.std.specs.List.{AllByRecursion}
use Rattle.pg_blocks.specs.Blocks.{BlockData, joined, EndsWith}
use Rattle.pg_blocks.specs.Lines.{lines}
use Rattle.pg_base.specs.Entries.{Entry, Missed, Read, Running, Ended, Failed}

-- what is told of files: one opens, its next block is announced, it ends, and a name gives no file
pub data Step : Type 0 where
  Opens : (name : List ℕ) → Step
  Announces : (block : BlockData) → Step
  Ends : (failed : Bool) → Step
  Misses : (name : List ℕ) → Step

-- a file is open
abbrev pub is_open : List Step → Bool
is_open [] = false
is_open (Opens name ∷ plan) = true
is_open (Announces block ∷ plan) = is_open plan
is_open (Ends failed ∷ plan) = false
is_open (Misses name ∷ plan) = is_open plan

-- how many files were opened
abbrev pub opened : List Step → ℕ
opened [] = 0
opened (Opens name ∷ plan) = opened plan + 1
opened (Announces block ∷ plan) = opened plan
opened (Ends failed ∷ plan) = opened plan
opened (Misses name ∷ plan) = opened plan

-- the blocks of the file that was opened last, in their order
abbrev pub last_blocks : List Step → List BlockData
last_blocks [] = []
last_blocks (Opens name ∷ plan) = []
last_blocks (Announces block ∷ plan) = last_blocks plan ++ block ∷ []
last_blocks (Ends failed ∷ plan) = last_blocks plan
last_blocks (Misses name ∷ plan) = last_blocks plan

-- all blocks, in their order
abbrev pub announced : List Step → List BlockData
announced [] = []
announced (Opens name ∷ plan) = announced plan
announced (Announces block ∷ plan) = announced plan ++ block ∷ []
announced (Ends failed ∷ plan) = announced plan
announced (Misses name ∷ plan) = announced plan

-- the block is the open file's next: its number is the count of those before it, which end with the terminator
pub record IsNextOfFile (end : ℕ) (plan : List Step) (block : BlockData) : Type 0 where
  pub running : is_open plan ≡ true
  pub file : block.file + 1 ≡ opened plan
  pub number : block.number ≡ length (last_blocks plan)
  pub some : block.bytes ≢ []
  pub seam : AllByRecursion (λ b. EndsWith end b.bytes) (last_blocks plan)

-- lines of at most 2^30 bytes, and a file of at most 2^62
pub record IsSmall (end : ℕ) (plan : List Step) (block : BlockData) : Type 0 where
  pub short : AllByRecursion (λ l. length l ≤ 2 ^ 30) (lines end block.bytes)
  pub small : length (joined (last_blocks plan)) + length block.bytes ≤ 2 ^ 62

-- the step has its place: a file opens or a name is missed where none is open, a file ends where one is, and a block is
-- the open file's next
abbrev pub HasPlace : ℕ → List Step → Step → Type 0
HasPlace end plan (Opens name) = is_open plan ≡ false
HasPlace end plan (Announces block) = IsNextOfFile end plan block
HasPlace end plan (Ends failed) = is_open plan ≡ true
HasPlace end plan (Misses name) = is_open plan ≡ false

-- the step leaves the plan within its limits: fewer than 2^32 files, and no line or file that is too long
abbrev pub IsWithinLimits : ℕ → List Step → Step → Type 0
IsWithinLimits end plan (Opens name) = opened plan < 2 ^ 32 - 1
IsWithinLimits end plan (Announces block) = IsSmall end plan block
IsWithinLimits end plan (Ends failed) = Unit {0}
IsWithinLimits end plan (Misses name) = Unit {0}

-- the step may follow on the plan
abbrev pub MayFollow : ℕ → List Step → Step → Type 0
MayFollow end plan step = HasPlace end plan step × IsWithinLimits end plan step

-- each step has its place
abbrev pub IsShaped : ℕ → List Step → Type 0
IsShaped end [] = Unit {0}
IsShaped end (step ∷ plan) = HasPlace end plan step × IsShaped end plan

-- each step may follow on those before it
abbrev pub IsPlan : ℕ → List Step → Type 0
IsPlan end [] = Unit {0}
IsPlan end (step ∷ plan) = MayFollow end plan step × IsPlan end plan

abbrev pub with_bytes : List ℕ → List Entry → List Entry
with_bytes more [] = []
with_bytes more (Missed name ∷ entries) = Missed name ∷ entries
with_bytes more (Read name bytes ending ∷ entries) = Read name (bytes ++ more) ending ∷ entries

abbrev pub with_end : Bool → List Entry → List Entry
with_end failed [] = []
with_end failed (Missed name ∷ entries) = Missed name ∷ entries
with_end failed (Read name bytes ending ∷ entries) = Read name bytes (if failed then Failed else Ended) ∷ entries

-- the files of a plan: each has the joined bytes of its blocks
abbrev pub entries_of : List Step → List Entry
entries_of [] = []
entries_of (Opens name ∷ plan) = Read name [] Running ∷ entries_of plan
entries_of (Announces block ∷ plan) = with_bytes block.bytes (entries_of plan)
entries_of (Ends failed ∷ plan) = with_end failed (entries_of plan)
entries_of (Misses name ∷ plan) = Missed name ∷ entries_of plan

-- A list of files that the plan begins: some plan that goes on from it and leaves no file open has these files.
-- Limits have no part in this, so that it also speaks of files that are too long.
abbrev pub Begins : ℕ → List Step → List Entry → Type 0
Begins end plan entries = (more : List Step) × IsShaped end (more ++ plan) × (is_open (more ++ plan) ≡ false)
    × (entries_of (more ++ plan) ≡ entries)
