-- Blocks of a file, and how a file is cut into them.
use Rattle.std.specs.Prelude.{◌≡◌, ◌≢◌, ℕ, ◌+◌, ◌<◌, ◌≤◌, ◌⊎◌, List, [], ◌∷◌, ◌++◌, length, take}
use Rattle.std.specs.List.{AllByRecursion, flat_map}

-- a block as plain data: its file's number, its own number in the file, its bytes
pub record BlockData : Type 0 where
  pub file : ℕ
  pub number : ℕ
  pub bytes : List ℕ

-- the bytes of blocks, one after another
abbrev pub joined : List BlockData → List ℕ
joined blocks = flat_map (λ b. b.bytes) blocks

abbrev pub EndsWith : ℕ → List ℕ → Type 0
EndsWith end bytes = (front : List ℕ) × (bytes ≡ front ++ end ∷ [])

-- the blocks have the file's number, and are numbered from this number on
abbrev pub AreNumbered : ℕ → ℕ → List BlockData → Type 0
AreNumbered file number [] = Unit {0}
AreNumbered file number (b ∷ blocks) = (b.file ≡ file) × (b.number ≡ number) × AreNumbered file (number + 1) blocks

-- all blocks but the last end with the terminator
abbrev pub AllButLastEnd : ℕ → List BlockData → Type 0
AllButLastEnd end [] = Unit {0}
AllButLastEnd end (b ∷ []) = Unit {0}
AllButLastEnd end (b ∷ c ∷ blocks) = EndsWith end b.bytes × AllButLastEnd end (c ∷ blocks)

-- any cutting of a file into blocks: they make up its bytes, none is empty, and all but the last end with the
-- terminator
pub record IsCutting (end : ℕ) (bytes : List ℕ) (blocks : List BlockData) : Type 0 where
  pub whole : joined blocks ≡ bytes
  pub some : AllByRecursion (λ b. b.bytes ≢ []) blocks
  pub ends : AllButLastEnd end blocks

-- a finished block: the shortest beginning of what follows that has at least `size` bytes and ends with the terminator
pub record IsFinished (end size : ℕ) (bytes : List ℕ) : Type 0 where
  pub long : size ≤ length bytes
  pub ends : EndsWith end bytes
  pub shortest : (n : ℕ) → size ≤ n → n < length bytes → EndsWith end (take n bytes) → ⊥

-- no beginning has at least `size` bytes and ends with the terminator
abbrev pub IsUnfinished : ℕ → ℕ → List ℕ → Type 0
IsUnfinished end size bytes = (n : ℕ) → size ≤ n → n ≤ length bytes → EndsWith end (take n bytes) → ⊥

-- the finished blocks of the bytes, and what stands behind them
pub record Cuts (end size : ℕ) (bytes : List ℕ) (blocks : List BlockData) (rest : List ℕ) : Type 0 where
  pub whole : bytes ≡ joined blocks ++ rest
  pub finished : AllByRecursion (λ b. IsFinished end size b.bytes) blocks
  pub unfinished : IsUnfinished end size rest

-- the last block is what is left behind the finished ones, if it isn't empty
pub record EndsUnfinished (end size : ℕ) (bytes : List ℕ) (blocks : List BlockData) : Type 0 where
  pub front : List BlockData
  pub last : BlockData
  pub joins : blocks ≡ front ++ last ∷ []
  pub cuts : Cuts end size bytes front last.bytes
  pub some : last.bytes ≢ []

-- the cut of a whole file by a size
abbrev pub IsCut : ℕ → ℕ → List ℕ → List BlockData → Type 0
IsCut end size bytes blocks = Cuts end size bytes blocks [] ⊎ EndsUnfinished end size bytes blocks

-- The early blocks come first, whole lines each, and the others are cut in this way from the bytes behind them. Where
-- none is early, all are.
pub record CutsBehind (early : List BlockData) (end : ℕ) (bytes : List ℕ) (blocks : List BlockData)
    (IsCutSo : List ℕ → List BlockData → Type 0) : Type 0 where
  pub later : List BlockData
  pub rest : List ℕ
  pub blocks_are : blocks ≡ early ++ later
  pub bytes_are : bytes ≡ joined early ++ rest
  pub lines : AllByRecursion (λ b. EndsWith end b.bytes) early
  pub cut : IsCutSo rest later
