-- Merges of lists: what is taken from a tray of what several threads put.
use Rattle.std.specs.Prelude.{◌≡◌, ℕ, ◌==◌, List, [], ◌∷◌, ◌++◌, map, slice_index_or, if◌then◌else◌}

module _ {T : Type 0} where
  -- of values, each given to the list of a number, those that are given to the list k, in their order
  abbrev pub given_to : ℕ → List (ℕ × T) → List T
  given_to k [] = []
  given_to k (g ∷ given) = if g.0 == k then g.1 ∷ given_to k given else given_to k given

  -- Each member of the whole can be given to one of the lists, so that what is given to a list is that list, in its
  -- order.
  pub record IsMerge (lists : List (List T)) (whole : List T) : Type 0 where
    pub given : List (ℕ × T)
    pub is_whole : map (λ g. g.1) given ≡ whole
    pub are_lists : (k : ℕ) → given_to k given ≡ slice_index_or lists k []

  -- some merge of the lists begins with these members
  abbrev pub BeginsMerge : List (List T) → List T → Type 0
  BeginsMerge lists front = (rest : List T) × IsMerge lists (front ++ rest)
