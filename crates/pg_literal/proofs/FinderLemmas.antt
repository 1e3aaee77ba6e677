-- Where rows of sets stand, set by set.
use Rattle.std.proofs.Common.{◌≡◌, ℕ, zero, suc, ◌+◌, ◌-◌, inl, inr, ◌<◌, ◌≤◌, ◌||◌, ◌&&◌, ◌==◌, Bool, true, false}
use Rattle.std.proofs.Common.{true≢false, not, List, [], ◌∷◌, Option, Some, None, IfSome, IsTrue}
use Rattle.std.proofs.Common.{◌++◌, length, take, drop, get_or, map, reverse, refl, sym, ap, ap₂, ◌∙◌, subst, arith}
use Rattle.std.specs.List.{Contains}
use Rattle.std.proofs.lemmas.List.{length-map, get_or-map, get_or-drop, map-append, reverse-append, take_more}
use Rattle.std.proofs.lemmas.Bool.{cases_lt, eq-eqb, false≢true, ne_eqb}
use Rattle.memchr.specs.Find.{Nowhere}
use Rattle.std.proofs.lemmas.List.Elements.{All-map}
use Rattle.std.proofs.lemmas.Option.{slice_get-get_or, get_or_from_slice_get}
use Rattle.pg_bytes.specs.ByteSets.{bytes}
use Rattle.pg_bytes.specs.Sets.{Bytes, complement, empty, one, union}
use Rattle.pg_bytes.specs.declared.byte_set.ByteSet.{ByteSet}
use Rattle.pg_pattern.specs.Patterns.{Pattern}
use Rattle.pg_pattern.specs.declared.bounds.Bounds.{Bounds}
use Rattle.pg_pattern.specs.Hits.{HasHit}
use Rattle.pg_pattern.specs.declared.bounds.Bounds.TheVariants.{Any}
use Rattle.pg_literal.specs.CoveredSets.{IsOnlyByte}
use Rattle.pg_literal.specs.declared.covered.OnlyByte.{OnlyByte}
use Rattle.pg_literal.specs.declared.row_finder.RowFinder.{RowFinder}
use Rattle.pg_literal.specs.Needed.{without, IsEnoughRow, IsNeeded, NeedsRow, IsSureRow}
use Rattle.pg_literal.specs.Rows.{row_along, StandsAt}
use Rattle.pg_literal.proofs.LiteralLemmas.{alone_matched}
use Rattle.pg_literal.proofs.RowLemmas.{stands_within}

-- where a row stands, each of its sets has the byte at its place
pub each_stands : (line : List ℕ) (row : List Bytes) (i k : ℕ) → k < length row → StandsAt line row i
    → (i + k < length line) × (get_or row k empty (get_or line (i + k) 0) ≡ true)
each_stands line [] i k less o = absurd (omega arith)
each_stands line (set ∷ row) i zero less o =
    let behind = stands_within line row (i + 1) o.1 in
    let at : i + 0 ≡ i = omega arith in
    let byte = get_or_from_slice_get line i o.0.0 0 o.0.1 in
    (omega arith, ap set (ap (λ n. get_or line n 0) at ∙ byte) ∙ o.0.2)
each_stands line (set ∷ row) i (suc k) less o =
    let h = each_stands line row (i + 1) k (omega arith) o.1 in
    let at : i + 1 + k ≡ i + suc k = omega arith in
    (omega (arith, h.0), subst (λ n. get_or row k empty (get_or line n 0) ≡ true) at h.1)

-- and the other way round
pub stands_each : (line : List ℕ) (row : List Bytes) (i : ℕ) → i + length row ≤ length line
    → ((k : ℕ) → k < length row → get_or row k empty (get_or line (i + k) 0) ≡ true) → StandsAt line row i
stands_each line [] i fits each = omega arith
stands_each line (set ∷ row) i fits each =
    let at : i + 0 ≡ i = omega arith in (
      (
        get_or line i 0,
        slice_get-get_or line i 0 (omega arith),
        subst (λ n. set (get_or line n 0) ≡ true) at (each 0 (omega arith)),
      ),
      stands_each line row (i + 1) (omega arith) (λ k less.
          let next : i + suc k ≡ i + 1 + k = omega arith in
          subst (λ n. get_or row k empty (get_or line n 0) ≡ true) next (each (suc k) (omega arith))),
    )

-- a set of the row, as it was read
pub set_read : (sets : List ByteSet) (k : ℕ) (set : ByteSet) → k < length sets → set ≡ get_or sets k set
    → get_or (row_along sets) k empty ≡ bytes set
set_read sets k set less is = get_or-map bytes sets k set empty less ∙ ap bytes (sym is)

-- as long as the line is the place and the row
pub stands_fits : (line : List ℕ) (row : List Bytes) (i : ℕ) → StandsAt line row i → i + length row ≤ length line
stands_fits line [] i o = omega arith
stands_fits line (set ∷ row) i o = let behind = stands_fits line row (i + 1) o.1 in omega arith

-- a byte that isn't the one left out stays in the set
stays : (set : Bytes) (end b : ℕ) → (b ≡ end → ⊥) → set b ≡ true → without end set b ≡ true
stays set end b other in_set =
    ap (λ t. not t && set b) (ne_eqb b end other) ∙ in_set

-- in a line without the byte that ends lines the row also stands without it
pub stands_without : (line : List ℕ) (row : List Bytes) (end i : ℕ) → (Contains line end → ⊥) → StandsAt line row i
    → StandsAt line (map (without end) row) i
stands_without line [] end i alone o = o
stands_without line (set ∷ row) end i alone o =
    let b = o.0.0 in
    let behind = stands_within line row (i + 1) o.1 in (
      (
        b,
        o.0.1,
        stays set end b (λ same. alone (i, omega arith, get_or_from_slice_get line i b end o.0.1 ∙ same)) o.0.2,
      ),
      stands_without line row end (i + 1) alone o.1,
    )

-- a row that stands without it stands with it
pub stands_with : (line : List ℕ) (row : List Bytes) (end i : ℕ) → StandsAt line (map (without end) row) i
    → StandsAt line row i
stands_with line [] end i o = o
stands_with line (set ∷ row) end i o =
    ((o.0.0, o.0.1, second_true (not (o.0.0 == end)) (set o.0.0) o.0.2), stands_with line row end (i + 1) o.1)
  where
    second_true : (a b : Bool) → (a && b) ≡ true → b ≡ true
    second_true true b is = is
    second_true false b is = absurd (false≢true is)

-- a sure row of the only pattern is enough where any match counts
pub enough_row : (p : Pattern) (bounds : Bounds) (end : ℕ) (row sets : List Bytes) → bounds ≡ Any → IsSureRow p row
    → sets ≡ map (without end) row → IsEnoughRow (p ∷ []) bounds sets
enough_row p bounds end row sets any sure is line i o =
    subst (λ b. HasHit (p ∷ []) b line) (sym any)
    (sure line i (stands_with line row end i (subst (λ r. StandsAt line r i) is o)))

-- no set has it then
left_out : (set : Bytes) (end : ℕ) → without end set end ≡ true → ⊥
left_out set end is = true≢false (sym is ∙ ap (λ t. not t && set end) (eq-eqb end end refl))

-- what is seen of sets that are turned round
pub map_reverse : {X Y : Type 0} (f : X → Y) (xs : List X) → map f (reverse xs) ≡ reverse (map f xs)
map_reverse f [] = refl
map_reverse f (x ∷ xs) =
    ap (map f) (reverse-append (x ∷ []) xs)
    ∙ (map-append f (reverse xs) (x ∷ [])
    ∙ (ap (λ ys. ys ++ f x ∷ []) (map_reverse f xs) ∙ sym (reverse-append (f x ∷ []) (map f xs))))

-- one more set of a row that lies backwards, without the byte that ends lines
pub without_more : (end k : ℕ) (row sets new : List ByteSet) (d made : ByteSet) → k < length row
    → bytes made ≡ without end (bytes (get_or row k d)) → new ≡ sets ++ made ∷ []
    → map bytes sets ≡ map (without end) (map bytes (take k row))
    → map bytes new ≡ map (without end) (map bytes (take (k + 1) row))
without_more end k row sets new d made less is pushed before =
    let set = get_or row k d in
    ap (map bytes) pushed
    ∙ (map-append bytes sets (made ∷ [])
    ∙ (ap₂ (λ xs s. xs ++ s ∷ []) before is
    ∙ (sym (map-append (without end) (map bytes (take k row)) (bytes set ∷ []))
    ∙ ap (map (without end)) (sym (map-append bytes (take k row) (set ∷ []))
    ∙ ap (map bytes) (sym (take_more row k d less))))))

-- the set without the byte that ends lines, as it is made
pub made_without : (set : ByteSet) (end : ℕ)
    → complement (union (complement (bytes set)) (one end)) ≡ without end (bytes set)
made_without set end = λ i b. each b i
  where
    cases : (few word same : Bool) → (few && not ((few && not (few && word)) || same)) ≡ (not same && (few && word))
    cases false word true = refl
    cases false word false = refl
    cases true true true = refl
    cases true true false = refl
    cases true false true = refl
    cases true false false = refl

    each : (b : ℕ) → complement (union (complement (bytes set)) (one end)) b ≡ without end (bytes set) b
    each b = cases _ _ (b == end)

-- a row of the only pattern is needed
pub needed_row : (p : Pattern) (bounds : Bounds) (end : ℕ) (row sets : List Bytes) → NeedsRow p row → 0 < length row
    → sets ≡ map (without end) row → IsNeeded (p ∷ []) bounds end sets
needed_row p bounds end row sets of some is = subst (IsNeeded (p ∷ []) bounds end) (sym is) (record {
  some = omega (arith, length-map row (without end));
  within = All-map (λ set. set end ≡ true → ⊥) (without end) row (λ k d less. left_out (get_or row k d) end);
  stands = λ line alone hit.
      let m = alone_matched p bounds line hit.0 hit.1 hit.2 in
      let within : hit.1 ≤ length line = hit.2.within in
      let o = of line hit.0 hit.1 within m in
      (o.0, stands_without line row end o.0 alone o.1);
})

-- a row that stands nowhere from a place up to another, nor at so many behind
pub nowhere_more : (line : List ℕ) (row : List Bytes) (from at passed : ℕ) → Nowhere (StandsAt line row) from at
    → ((k : ℕ) → k < passed → StandsAt line row (at + k) → ⊥) → Nowhere (StandsAt line row) from (at + passed)
nowhere_more line row from at passed before none k low high o = elim (cases_lt k at) [
  | inl less ↦ before k low less o
  | inr more ↦
      let same : k ≡ at + (k - at) = omega arith in none (k - at) (omega arith) (subst (StandsAt line row) same o)
]

-- where the only byte of a set doesn't stand, the row doesn't
pub only_elsewhere : (line : List ℕ) (row : List Bytes) (only : OnlyByte) (at k : ℕ) (rest : List ℕ)
    → IsOnlyByte row only → rest ≡ drop (at + only.offset) line
    → ((get_or rest k 0 == only.byte) ≡ true → ⊥) → StandsAt line row (at + k) → ⊥
only_elsewhere line row only at k rest is behind none o =
    let h = each_stands line row (at + k) only.offset is.within o in
    let place : at + k + only.offset ≡ at + only.offset + k = omega arith in
    let byte = is.none _ h.1 in
    let read : get_or rest k 0 ≡ only.byte =
    ap (λ xs. get_or xs k 0) behind ∙ (get_or-drop (at + only.offset) line k 0
    ∙ (ap (λ n. get_or line n 0) (sym place) ∙ byte)) in
    none (eq-eqb _ _ read)

module _ {A : Type 0} (P : List ByteSet → Type 0) (sets : List ByteSet) where
  -- what stands of some sets stands of a finder's that are the same
  pub of_finder : (found : Option (RowFinder A)) → IfSome found (λ finder. finder.sets.items ≡ sets) → P sets
      → IfSome found (λ finder. P finder.sets.items)
  of_finder None same is = tt
  of_finder (Some finder) same is = subst P (sym same) is

  -- the same of what a flag says
  pub flag_of_finder : (found : Option (RowFinder A)) (flag : Bool)
      → IfSome found (λ finder. finder.sets.items ≡ sets) → IfSome found (λ finder. finder.is_enough ≡ flag)
      → (IsTrue flag → P sets) → IfSome found (λ finder. IsTrue finder.is_enough → P finder.sets.items)
  flag_of_finder None flag same set says = tt
  flag_of_finder (Some finder) flag same set says = λ yes. subst P (sym same) (says (sym set ∙ yes))
