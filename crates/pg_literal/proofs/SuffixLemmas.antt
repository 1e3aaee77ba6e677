-- Rows of sets that stand at the line's end.
use Rattle.std.proofs.Common.{◌≡◌, ◌∙◌, ◌↔◌, ℕ, ◌+◌, ◌-◌, ◌<◌, ◌≤◌, List, [], ◌∷◌, ◌++◌, length, map}
use Rattle.std.proofs.Common.{reverse, take, drop, get_or, true, Some, refl, sym, ap, subst, arith, length-append}
use Rattle.std.specs.Prelude.{slice_get, IfOk, IfSome, None, Option, Result, Ok, Err}
use Rattle.std.proofs.lemmas.List.{map-append, reverse-append, length-map, length-reverse, take_more}
use Rattle.std.proofs.lemmas.List.{take-append-drop, length-drop}
use Rattle.pg_bytes.specs.ByteSets.{bytes}
use Rattle.pg_bytes.specs.Sets.{Bytes}
use Rattle.pg_bytes.specs.declared.byte_set.ByteSet.{ByteSet}
use Rattle.pg_pattern.specs.Patterns.{Pattern, Set, Cat, End}
use Rattle.pg_pattern.specs.Matches.{Match}
use Rattle.pg_pattern.specs.declared.bounds.Bounds.{Bounds}
use Rattle.pg_pattern.specs.declared.bounds.Bounds.TheVariants.{Any}
use Rattle.pg_literal.specs.Rows.{StandsAt, row_of}
use Rattle.pg_literal.specs.Suffixes.{IsSuffixAt, IsExactRow, IsSuffix, suffix_row}
use Rattle.pg_literal.specs.declared.suffix.LineSuffix.{LineSuffix}
use Rattle.pg_literal.proofs.LiteralLemmas.{alone_matched, in_one}
use Rattle.pg_literal.proofs.RowLemmas.{stands_append}

-- one more set, in front of a row
row_more : (sets : List ByteSet) (set : ByteSet) → row_of (sets ++ set ∷ []) ≡ bytes set ∷ row_of sets
row_more sets set =
    ap reverse (map-append bytes sets (set ∷ [])) ∙ reverse-append (map bytes sets) (bytes set ∷ [])

pub row_size : (sets : List ByteSet) → length (row_of sets) ≡ length sets
row_size sets = length-reverse (map bytes sets) ∙ length-map sets bytes

-- the whole pattern matches what a part in front does, and the row behind it
abbrev pub Leads : Pattern → Pattern → List ByteSet → Type 0
Leads whole p sets =
    (line : List ℕ) (i j : ℕ) → j ≤ length line
    → Match whole line i j ↔ ((k : ℕ) × Match p line i k × StandsAt line (row_of sets) k × (k + length sets ≡ j))

pub leads_first : (p : Pattern) → Leads p p []
leads_first p line i j within =
    let end : j + 0 ≡ j = omega arith in (
      λ m. (j, m, within, end),
      λ h.
          let same : h.0 ≡ j = omega (arith, h.3) in
          subst (Match p line i) same h.1,
    )

pub leads_more : (whole front : Pattern) (sets : List ByteSet) (set : ByteSet)
    → Leads whole (Cat front (Set (bytes set))) sets
    → Leads whole front (sets ++ set ∷ [])
leads_more whole front sets set leads line i j within =
    let so = leads line i j within in
    let row = row_more sets set in
    let size = length-append sets (set ∷ []) in (
      λ m.
          let h = so.0 m in
          let one = h.1.2 in
          let behind = subst (StandsAt line (row_of sets)) one.3 h.2 in (
            h.1.0,
            h.1.1,
            subst (λ r. StandsAt line r h.1.0) (sym row) ((one.0, one.1, one.2), behind),
            omega (arith, one.3, h.3, size),
          ),
      λ h.
          let at = subst (λ r. StandsAt line r h.0) row h.2 in
          so.1 (h.0 + 1, (h.0, h.1, (at.0.0, at.0.1, at.0.2, refl)), at.1, omega (arith, h.3, size)),
    )

pub leads_last : (whole : Pattern) (sets : List ByteSet) (set : ByteSet) → Leads whole (Set (bytes set)) sets
    → IsExactRow whole (row_of (sets ++ set ∷ []))
leads_last whole sets set leads =
    let row = row_more sets set in
    let size = row_size (sets ++ set ∷ []) ∙ length-append sets (set ∷ []) in
    record {
      some = omega (arith, size);
      spans = λ line i j within.
          let so = leads line i j within in (
            λ m.
                let h = so.0 m in
                let behind = subst (StandsAt line (row_of sets)) h.1.3 h.2 in (
                  subst (λ r. StandsAt line r i) (sym row) ((h.1.0, h.1.1, h.1.2), behind),
                  omega (arith, h.1.3, h.3, size),
                ),
            λ h.
                let at = subst (λ r. StandsAt line r i) row h.0 in
                so.1 (i + 1, (at.0.0, at.0.1, at.0.2, refl), at.1, omega (arith, h.1, size)),
          );
    }

-- the end of a line behind a row
pub suffix_of_row : (p front : Pattern) (row : List Bytes) → p ≡ Cat front End → IsExactRow front row
    → IsSuffix (p ∷ []) Any row
suffix_of_row p front row is r = record {
  some = r.some;
  hits = λ line i j. (
    λ hit.
        let m = subst (λ q. Match q line i j) is (alone_matched p Any line i j hit) in
        let span = (r.spans line i m.0 (omega (arith, m.2.0))).0 m.1 in
        ((span.0, span.1 ∙ m.2.0), m.2.1 ∙ m.2.0),
    λ h.
        let front_is = (r.spans line i (length line) (omega arith)).1 h.0 in
        let same = h.1 in
        record {
          ordered = omega (arith, h.0.1, same);
          within = omega (arith, same);
          begins = tt;
          ends = tt;
          matched = (p, in_one p, subst (λ q. Match q line i j) (sym is) (length line, front_is, (refl, same)));
        },
  );
}

-- the last sets stand at the line's end
pub ends_more : (line : List ℕ) (sets : List ByteSet) (d : ByteSet) (k b : ℕ) → k < length sets
    → k < length line → slice_get line (length line - 1 - k) ≡ Some b → bytes (get_or sets k d) b ≡ true
    → StandsAt line (row_of (take k sets)) (length line - k)
    → StandsAt line (row_of (take (k + 1) sets)) (length line - (k + 1))
ends_more line sets d k b less within at in_set behind =
    let row = ap row_of (take_more sets k d less) ∙ row_more (take k sets) (get_or sets k d) in
    let place : length line - 1 - k ≡ length line - (k + 1) = omega arith in
    let next : length line - k ≡ length line - (k + 1) + 1 = omega arith in
    subst (λ r. StandsAt line r (length line - (k + 1))) (sym row) (
      (b, subst (λ i. slice_get line i ≡ Some b) place at, in_set),
      subst (StandsAt line (row_of (take k sets))) next behind,
    )

-- where all sets stand, each does
pub ends_each : (line : List ℕ) (sets : List ByteSet) (d : ByteSet) (k i : ℕ) → k < length sets
    → IsSuffixAt line (row_of sets) i
    → (b : ℕ) × (slice_get line (length line - 1 - k) ≡ Some b) × (bytes (get_or sets k d) b ≡ true)
ends_each line sets d k i less ends =
    let set = get_or sets k d in
    let front = drop (k + 1) sets in
    let split : sets ≡ (take k sets ++ set ∷ []) ++ front =
    sym (take-append-drop (k + 1) sets) ∙ ap (λ xs. xs ++ front) (take_more sets k d less) in
    let row : row_of sets ≡ row_of front ++ (bytes set ∷ row_of (take k sets)) =
    ap row_of split
    ∙ (ap reverse (map-append bytes (take k sets ++ set ∷ []) front)
    ∙ (reverse-append (map bytes (take k sets ++ set ∷ [])) (map bytes front)
    ∙ ap (λ r. row_of front ++ r) (row_more (take k sets) set))) in
    let here = (stands_append line (row_of front) (bytes set ∷ row_of (take k sets)) i
    (subst (λ r. StandsAt line r i) row ends.0)).1 in
    let size = row_size front in
    let place : i + length (row_of front) ≡ length line - 1 - k = omega (
      arith,
      size,
      length-drop (k + 1) sets,
      row_size sets,
      ends.1,
    ) in
    (here.0.0, subst (λ n. slice_get line n ≡ Some here.0.0) place here.0.1, here.0.2)

-- a list of one
pub list_of_one : {X : Type 0} (xs : List X) (x : X) → length xs ≡ 1 → x ≡ get_or xs 0 x → xs ≡ x ∷ []
list_of_one [] x one is = absurd (omega (arith, one))
list_of_one (y ∷ []) x one is = ap (λ z. z ∷ []) (sym is)
list_of_one (y ∷ z ∷ xs) x one is = absurd (omega (arith, one))

-- the suffix of the only tree
pub only_suffix : {A E : Type 0} (found : Result (Option (LineSuffix A)) E) (trees : List Pattern) (p : Pattern)
    (bounds : Bounds) → trees ≡ p ∷ [] → bounds ≡ Any
    → IfOk found (λ o. IfSome o (λ s. (front : Pattern) × (p ≡ Cat front End) × IsExactRow front (suffix_row s)))
    → IfOk found (λ o. IfSome o (λ s. IsSuffix trees bounds (suffix_row s)))
only_suffix (Err e) trees p bounds one any h = tt
only_suffix (Ok None) trees p bounds one any h = tt
only_suffix (Ok (Some s)) trees p bounds one any h =
    subst (λ ts. IsSuffix ts bounds (suffix_row s)) (sym one)
    (subst (λ b. IsSuffix (p ∷ []) b (suffix_row s)) (sym any) (suffix_of_row p h.0 (suffix_row s) h.1 h.2))
