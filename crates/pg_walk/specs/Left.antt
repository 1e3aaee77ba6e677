-- What a walk that gives one item after the other has left.
use Rattle.std.specs.Prelude.{ℕ, ◌≡◌, Bool, List, [], ◌∷◌, ◌++◌, map, reverse, Option, Some, None}
use Rattle.std.specs.String.{string_bytes}
use Rattle.std.specs.List.{All}
use Rattle.pg_walk.specs.Answers.{Path, Answers}
use Rattle.pg_walk.specs.Scopes.{Scope, Sights, sights}
use Rattle.pg_walk.specs.Items.{Found}
use Rattle.pg_walk.specs.Places.{Names}
use Rattle.pg_walk.specs.Walks.{names_cmp, ItemsOf, FilesOf}
use Rattle.pg_walk.specs.Within.{BelongTo, FollowOperands, IsWithin}
use Rattle.pg_walk.specs.Descent.{EntryGives, OperandGives}
use Rattle.pg_walk.specs.declared.walker.WaitingPath.{WaitingPath}
use Rattle.pg_walk.specs.declared.walker.WaitingPath.TheVariants as V

-- a path whose turn is still to come: an operand, or an entry of this depth
pub data Spot : Type 0 where
  Operand : Path → Spot
  Entry : Path → ℕ → Spot

abbrev pub spot_of : {A : Type 0} → WaitingPath A → Spot
spot_of (V.Operand path) = Operand (string_bytes path)
spot_of (V.Entry path depth) = Entry (string_bytes path) depth

-- the last of them is the next
abbrev pub spots_in : {A : Type 0} → List (WaitingPath A) → List Spot
spots_in waiting = reverse (map spot_of waiting)

-- what a waiting path gives with all that is below it, by the tree's answers
abbrev pub spot_gives : Sights → Bool → Spot → Names → Found → Type 0
spot_gives a recursive (Operand path) = OperandGives a recursive path
spot_gives a recursive (Entry path depth) = EntryGives a depth path

-- the paths give these items, one after the other, each with all that is below it
abbrev pub AreLeft : Sights → Bool → List Spot → List Found → Type 0
AreLeft a recursive [] items = items ≡ []
AreLeft a recursive (spot ∷ spots) items =
    (here : List Found) × (more : List Found) × ItemsOf names_cmp (spot_gives a recursive spot) here
    × AreLeft a recursive spots more × (items ≡ here ++ more)

-- what a waiting path may give, whatever the tree answers
abbrev pub MayGive : Scope → Spot → List Found → Type 0
MayGive scope (Operand path) items = BelongTo scope path items
MayGive scope (Entry path depth) items = All (IsWithin path) items

-- the paths may give these items, one after the other
abbrev pub MayBeLeft : Scope → List Spot → List Found → Type 0
MayBeLeft scope [] items = items ≡ []
MayBeLeft scope (spot ∷ spots) items =
    (here : List Found) × (more : List Found) × MayGive scope spot here × MayBeLeft scope spots more
    × (items ≡ here ++ more)

abbrev pub shown : Option Found → List Found
shown None = []
shown (Some i) = i ∷ []

-- A place gave an item or none at once, and the rest of what it gives is left: whatever is left now, behind that item,
-- is what the place gives and then what was left without it.
abbrev pub Unfolds : Sights → Bool → (Names → Found → Type 0) → Option Found → (old new : List Spot) → Type 0
Unfolds a recursive gives item old new =
    (rest : List Found) → AreLeft a recursive new rest →
    (here : List Found) × (more : List Found) × ItemsOf names_cmp gives here
    × AreLeft a recursive old more × (shown item ++ rest ≡ here ++ more)

-- A place may have given an item or none at once, with the rest of what it gives left: whatever may be left now, behind
-- that item, is what the place may give and then what might be left without it.
abbrev pub UnfoldsWithin : Scope → (List Found → Type 0) → Option Found → (old new : List Spot) → Type 0
UnfoldsWithin scope may item old new =
    (rest : List Found) → MayBeLeft scope new rest →
    (here : List Found) × (more : List Found) × may here × MayBeLeft scope old more
    × (shown item ++ rest ≡ here ++ more)

-- All items of a walk. Where the tree tells its answers they are what the walk gives, and of any tree they follow the
-- operands.
pub record IsWalk (tells : Type 0) (a : Answers) (operands : List Path) (scope : Scope) (items : List Found)
    : Type 0 where
  pub gives : tells → FilesOf (sights scope a) operands scope.recursive items
  pub follows : FollowOperands scope operands items

-- The first items of a walk: more go on from them.
pub record BeginsWalk (tells : Type 0) (a : Answers) (operands : List Path) (scope : Scope) (items : List Found)
    : Type 0 where
  pub gives : tells → (rest : List Found) × FilesOf (sights scope a) operands scope.recursive (items ++ rest)
  pub follows : (rest : List Found) × FollowOperands scope operands (items ++ rest)

-- A walk over operands has given these items, and these paths wait: with whatever they give, it is all that the walk
-- gives.
pub record HasGiven (tells : Type 0) (a : Answers) (operands : List Path) (scope : Scope) (items : List Found)
    (spots : List Spot) : Type 0 where
  pub gives : tells → (rest : List Found) → AreLeft (sights scope a) scope.recursive spots rest →
      FilesOf (sights scope a) operands scope.recursive (items ++ rest)
  pub follows : (rest : List Found) → MayBeLeft scope spots rest →
      FollowOperands scope operands (items ++ rest)
