-- Where the items of a walk lie, whatever the tree answers.
use Rattle.std.specs.Prelude.{◌≡◌, ◌⊎◌, true, false, List, [], ◌∷◌, ◌++◌, map}
use Rattle.std.specs.List.{All}
use Rattle.pg_walk.specs.Answers.{Path}
use Rattle.pg_walk.specs.Items.{Found, File, path_in}
use Rattle.pg_walk.specs.Scopes.{Scope, may_leave_out}
use Rattle.pg_walk.specs.Places.{Names, path_to, is_standard_input}

-- the item's path is this one, or goes on from it by names
abbrev pub IsWithin : Path → Found → Type 0
IsWithin path item = (names : Names) × (path_in item ≡ path_to path names)

-- What an operand gives: `-` standard input; any other, where the walk isn't recursive, one item at its own path, or
-- none if it may be left out; and where it is, items at that path and below it.
pub record BelongTo (scope : Scope) (operand : Path) (items : List Found) : Type 0 where
  pub standard : is_standard_input operand ≡ true → items ≡ File operand ∷ []
  pub flat : scope.recursive ≡ false →
      (map path_in items ≡ operand ∷ []) ⊎ ((items ≡ []) × (may_leave_out scope operand ≡ true))
  pub within : All (IsWithin operand) items

-- the items of each operand, in the operands' order, and no others
abbrev pub FollowOperands : Scope → List Path → List Found → Type 0
FollowOperands scope [] items = items ≡ []
FollowOperands scope (operand ∷ operands) items =
    (own : List Found) × (later : List Found) × (items ≡ own ++ later) × BelongTo scope operand own
    × FollowOperands scope operands later
