-- The results of the blocks of a round. Blocks are numbered from 0.
use Rattle.std.specs.Prelude.{◌≡◌, ◌⊎◌, ℕ, ◌<◌, List, [], ◌∷◌, length, slice_get, Some}

-- of blocks of any type, by what is the result of one
module _ {B F : Type 0} (finds : B → F → Type 0) where
  -- the result of the block of this number
  abbrev pub IsBlockResult : List B → ℕ → F → Type 0
  IsBlockResult blocks n r = (block : B) × (slice_get blocks n ≡ Some block) × finds block r

  -- the results of the blocks of these numbers, in their order
  abbrev pub AreResultsOf : List B → List ℕ → List F → Type 0
  AreResultsOf blocks [] [] = Unit {0}
  AreResultsOf blocks (n ∷ ns) (r ∷ rs) = IsBlockResult blocks n r × AreResultsOf blocks ns rs
  AreResultsOf blocks _ _ = ⊥

  -- some of these is the result of the block of this number
  abbrev pub HasResultOf : List B → ℕ → List F → Type 0
  HasResultOf blocks n [] = ⊥
  HasResultOf blocks n (r ∷ rs) = IsBlockResult blocks n r ⊎ HasResultOf blocks n rs

  -- the result of each block is among these
  abbrev pub HasAll : List B → List F → Type 0
  HasAll blocks rs = (n : ℕ) → n < length blocks → HasResultOf blocks n rs
