-- Where the items of a walk lie. For the functions of `walker`.
use Rattle.std.proofs.Common.{ℕ, ◌≡◌, true, false, List, [], ◌∷◌, ◌++◌, map, Option, Some, None, refl, sym, inl, inr}
use Rattle.std.proofs.Common.{ap, ◌∙◌, append_assoc}
use Rattle.std.proofs.lemmas.Bool.{false≢true}
use Rattle.std.proofs.lemmas.List.Elements.{All-append, All-cons, All-nil}
use Rattle.std.specs.List.{All}
use Rattle.pg_walk.specs.Answers.{Path}
use Rattle.pg_walk.specs.Items.{Found, File, path_in}
use Rattle.pg_walk.specs.Scopes.{Scope, may_leave_out}
use Rattle.pg_walk.specs.Places.{child, is_standard_input}
use Rattle.pg_walk.specs.Within.{IsWithin, BelongTo, FollowOperands}
use Rattle.pg_walk.specs.Left.{Spot, Operand, Entry, MayBeLeft, UnfoldsWithin, shown}

pub only : (path : Path) (item : Found) → path_in item ≡ path → All (IsWithin path) (item ∷ [])
only path item at = All-cons (IsWithin path) item [] ([], at) (All-nil (IsWithin path))

-- what lies at or below an entry lies below its directory
lies_below : (path name : Path) (items : List Found) → All (IsWithin (child path name)) items
    → All (IsWithin path) items
lies_below path name items within i item at = let w = within i item at in (name ∷ w.0, w.1)

-- an operand's only item is at its path
belong_one : (scope : Scope) (operand : Path) (item : Found) → path_in item ≡ operand
    → (is_standard_input operand ≡ true → item ≡ File operand) → BelongTo scope operand (item ∷ [])
belong_one scope operand item at standard = record {
  standard = λ e. ap (λ i. i ∷ []) (standard e);
  flat = λ e. inl (ap (λ p. p ∷ []) at);
  within = only operand item at;
}

-- an operand that is left out
belong_none : (scope : Scope) (operand : Path) → is_standard_input operand ≡ false → may_leave_out scope operand ≡ true
    → BelongTo scope operand []
belong_none scope operand named out = record {
  standard = λ e. absurd (false≢true (sym named ∙ e));
  flat = λ e. inr (refl, out);
  within = All-nil (IsWithin operand);
}

-- a directory that is visited
belong_visited : (scope : Scope) (operand : Path) → is_standard_input operand ≡ false → scope.recursive ≡ true
    → (items : List Found) → All (IsWithin operand) items → BelongTo scope operand items
belong_visited scope operand named visited items within = record {
  standard = λ e. absurd (false≢true (sym named ∙ e));
  flat = λ e. absurd (false≢true (sym e ∙ visited));
  within = within;
}

-- a place with nothing below it
pub leaf_within : (s : Scope) (may : List Found → Type 0) (o : Option Found) (spots : List Spot) → may (shown o)
    → UnfoldsWithin s may o spots spots
leaf_within s may o spots h rest left = (shown o, rest, h, left, refl)

pub unfolds_within_as : (s : Scope) (may might : List Found → Type 0) (o : Option Found) (old new : List Spot)
    → ((items : List Found) → may items → might items) → UnfoldsWithin s may o old new → UnfoldsWithin s might o old new
unfolds_within_as s may might o old new to h rest left =
    let u = h rest left in
    (u.0, u.1, to u.0 u.2, u.3, u.4)

-- an item at the path, or none
pub entry_leaf_within : (s : Scope) (path : Path) (item : Found) (spots : List Spot) → path_in item ≡ path
    → UnfoldsWithin s (All (IsWithin path)) (Some item) spots spots
entry_leaf_within s path item spots at = leaf_within s (All (IsWithin path)) (Some item) spots (only path item at)

pub entry_none_within : (s : Scope) (path : Path) (spots : List Spot)
    → UnfoldsWithin s (All (IsWithin path)) None spots spots
entry_none_within s path spots = leaf_within s (All (IsWithin path)) None spots (All-nil (IsWithin path))

-- an operand's one item
pub operand_leaf_within : (s : Scope) (path : Path) (item : Found) (spots : List Spot) → path_in item ≡ path
    → (is_standard_input path ≡ true → item ≡ File path) → UnfoldsWithin s (BelongTo s path) (Some item) spots spots
operand_leaf_within s path item spots at standard =
    leaf_within s (BelongTo s path) (Some item) spots (belong_one s path item at standard)

-- an operand that is left out
pub operand_none_within : (s : Scope) (path : Path) (spots : List Spot) → is_standard_input path ≡ false
    → may_leave_out s path ≡ true → UnfoldsWithin s (BelongTo s path) None spots spots
operand_none_within s path spots named out =
    leaf_within s (BelongTo s path) None spots (belong_none s path named out)

-- an operand that is visited
pub operand_inside_within : (s : Scope) (path : Path) (o : Option Found) (old new : List Spot)
    → is_standard_input path ≡ false → s.recursive ≡ true → UnfoldsWithin s (All (IsWithin path)) o old new
    → UnfoldsWithin s (BelongTo s path) o old new
operand_inside_within s path o old new named visited =
    unfolds_within_as s (All (IsWithin path)) (BelongTo s path) o old new (belong_visited s path named visited)

below_within : (s : Scope) (depth : ℕ) (path : Path) (xs : List Path) (spots : List Spot) (rest : List Found)
    → MayBeLeft s (map (λ x. Entry (child path x) depth) xs ++ spots) rest
    → (here : List Found) × (more : List Found) × All (IsWithin path) here × MayBeLeft s spots more
    × (rest ≡ here ++ more)
below_within s depth path [] spots rest left = ([], rest, All-nil (IsWithin path), left, refl)
below_within s depth path (x ∷ xs) spots rest left =
    let u = below_within s depth path xs spots left.1 left.3 in (
      left.0 ++ u.0,
      u.1,
      All-append (IsWithin path) left.0 u.0 (lies_below path x left.0 left.2) u.2,
      u.3,
      left.4 ∙ (ap (λ t. left.0 ++ t) u.4 ∙ sym (append_assoc left.0 u.0 u.1)),
    )

-- a directory whose entries are left
pub inside_within : (s : Scope) (depth : ℕ) (path : Path) (xs : List Path) (o : Option Found) (spots : List Spot)
    → All (IsWithin path) (shown o)
    → UnfoldsWithin s (All (IsWithin path)) o spots (map (λ x. Entry (child path x) depth) xs ++ spots)
inside_within s depth path xs o spots h rest left =
    let u = below_within s depth path xs spots rest left in (
      shown o ++ u.0,
      u.1,
      All-append (IsWithin path) (shown o) u.0 h u.2,
      u.3,
      ap (λ t. shown o ++ t) u.4 ∙ sym (append_assoc (shown o) u.0 u.1),
    )

-- what may be left at first follows the operands
pub whole_within : (s : Scope) (ops : List Path) (items : List Found)
    → MayBeLeft s (map (λ path. Operand path) ops) items → FollowOperands s ops items
whole_within s [] items left = left
whole_within s (o ∷ ops) items left = (left.0, left.1, left.4, left.2, whole_within s ops left.1 left.3)

-- something may be left
pub some_within : (s : Scope) (spots : List Spot) → (items : List Found) × MayBeLeft s spots items
some_within s [] = ([], refl)
some_within s (Operand path ∷ spots) =
    let more = some_within s spots in
    (File path ∷ more.0, (File path ∷ [], more.0, belong_one s path (File path) refl (λ e. refl), more.1, refl))
some_within s (Entry path depth ∷ spots) =
    let more = some_within s spots in
    (more.0, ([], more.0, All-nil (IsWithin path), more.1, refl))
