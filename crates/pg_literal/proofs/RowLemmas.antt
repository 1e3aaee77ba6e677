-- Rows of sets, and the texts that they are multiplied out into.
use Rattle.std.proofs.Common.{ℕ, zero, suc, ◌≡◌, ◌<◌, ◌≤◌, ◌+◌, ◌⊎◌, ◌↔◌, Bool, List, [], ◌∷◌, ◌++◌, length, get_or}
use Rattle.std.proofs.Common.{map, take}
use Rattle.std.proofs.Common.{Vec, cond, ◌&&◌, ◌==◌, reverse, true, false, Some, inl, inr, refl, sym, ap, ◌∙◌, subst}
use Rattle.std.proofs.Common.{arith}
use Rattle.std.specs.Prelude.{slice_get}
use Rattle.std.specs.List.{Any, Contains, flat_map}
use Rattle.std.proofs.lemmas.List.{reverse-append, reverse-reverse, map-append, append-nil, map_more, take_more}
use Rattle.std.proofs.lemmas.List.{take_all, length-map, get_or-map}
use Rattle.std.proofs.lemmas.Grind.{flat_map-append}
use Rattle.std.proofs.lemmas.List.Elements.{Contains-append_cases, Contains-append_left, Contains-append_right}
use Rattle.std.proofs.lemmas.Bool.{false≢true, cases_Bool, cases_lt}
use Rattle.std.proofs.lemmas.Bool.Decides.{nat_tests}
use Rattle.pg_bytes.specs.ByteSets.{bytes}
use Rattle.pg_bytes.specs.declared.byte_set.ByteSet.{ByteSet}
use Rattle.std.proofs.lemmas.Option.{slice_get-get_or, get_or_from_slice_get}
use Rattle.memchr.specs.Find.{OccursAt}
use Rattle.pg_bytes.specs.Sets.{Bytes, one}
use Rattle.pg_pattern.specs.Patterns.{folded}
use Rattle.pg_literal.proofs.FoldLemmas.{searched_byte, byte_of_searched, length_searched, searched_again}
use Rattle.pg_literal.proofs.FoldLemmas.{searched_one, searched_append, folded_alone, alone_once}
use Rattle.pg_literal.specs.Literals.{as_searched}
use Rattle.pg_literal.specs.Rows.{StandsAt, row_of, byte_as_searched, IsAlone, AreChoices, AreProduct}
use Rattle.pg_pattern.specs.Strings.{items_of}
use Rattle.pg_literal.specs.Known.{sets_of}

-- the empty text stands everywhere
pub occurs_nothing : (line : List ℕ) (i : ℕ) → i ≤ length line → OccursAt line [] i
occurs_nothing line i within = record { fits = omega arith; reads = λ j less. absurd (omega arith) }

-- a byte in front of a text
pub occurs_more : (line text : List ℕ) (b i : ℕ) → slice_get line i ≡ Some b → OccursAt line text (i + 1)
    → OccursAt line (b ∷ text) i
occurs_more line text b i is behind = record { fits = let fits = behind.fits in omega arith; reads = each }
  where
    each : (k : ℕ) → k < length (b ∷ text) → get_or line (i + k) 0 ≡ get_or (b ∷ text) k 0
    each zero less =
        let at : i + 0 ≡ i = omega arith in
        ap (λ n. get_or line n 0) at ∙ get_or_from_slice_get line i b 0 is
    each (suc k) less =
        let at : i + suc k ≡ i + 1 + k = omega arith in
        ap (λ n. get_or line n 0) at ∙ behind.reads k (omega (arith, less))

-- the first byte of a text
pub occurs_first : (line text : List ℕ) (b i : ℕ) → OccursAt line (b ∷ text) i → slice_get line i ≡ Some b
occurs_first line text b i o =
    let fits = o.fits in
    let at : i ≡ i + 0 = omega arith in
    slice_get-get_or line i 0 (omega arith) ∙ ap Some (ap (λ n. get_or line n 0) at ∙ o.reads 0 (omega arith))

-- the text behind its first byte
occurs_behind : (line text : List ℕ) (b i : ℕ) → OccursAt line (b ∷ text) i → OccursAt line text (i + 1)
occurs_behind line text b i o = record {
  fits = let fits = o.fits in omega arith;
  reads = λ k less.
      let at : i + 1 + k ≡ i + suc k = omega arith in
      ap (λ n. get_or line n 0) at ∙ o.reads (suc k) (omega arith);
}

-- a row stands within its line
pub stands_within : (line : List ℕ) (row : List Bytes) (i : ℕ) → StandsAt line row i → i ≤ length line
stands_within line [] i o = o
stands_within line (set ∷ row) i o =
    let behind = stands_within line row (i + 1) o.1 in
    omega arith

-- the two parts of a row
pub stands_append : (line : List ℕ) (xs ys : List Bytes) (i : ℕ) → StandsAt line (xs ++ ys) i
    → StandsAt line xs i × StandsAt line ys (i + length xs)
stands_append line [] ys i o =
    let at : i ≡ i + 0 = omega arith in
    (stands_within line ys i o, subst (StandsAt line ys) at o)
stands_append line (set ∷ xs) ys i o =
    let behind = stands_append line xs ys (i + 1) o.1 in
    let at : i + 1 + length xs ≡ i + suc (length xs) = omega arith in
    ((o.0, behind.0), subst (StandsAt line ys) at behind.1)

-- some element of a list, by recursion
abbrev Some' : {X : Type 0} → (X → Type 0) → List X → Type 0
Some' P [] = ⊥
Some' P (x ∷ xs) = P x ⊎ Some' P xs

from_any : {X : Type 0} (P : X → Type 0) (xs : List X) → Any P xs → Some' P xs
from_any P [] h = absurd (omega (arith, h.2))
from_any P (x ∷ xs) (zero, y, less, is, p) = inl (subst P (sym is) p)
from_any P (x ∷ xs) (suc k, y, less, is, p) = inr (from_any P xs (k, y, omega (arith, less), is, p))

to_any : {X : Type 0} (P : X → Type 0) (xs : List X) → Some' P xs → Any P xs
to_any P [] h = absurd h
to_any P (x ∷ xs) (inl p) = (0, x, omega arith, refl, p)
to_any P (x ∷ xs) (inr h) =
    let later = to_any P xs h in
    (suc later.0, later.1, omega (arith, later.2), later.3, later.4)

some_left : {X : Type 0} (P : X → Type 0) (xs ys : List X) → Some' P xs → Some' P (xs ++ ys)
some_left P [] ys h = absurd h
some_left P (x ∷ xs) ys (inl p) = inl p
some_left P (x ∷ xs) ys (inr h) = inr (some_left P xs ys h)

some_right : {X : Type 0} (P : X → Type 0) (xs ys : List X) → Some' P ys → Some' P (xs ++ ys)
some_right P [] ys h = h
some_right P (x ∷ xs) ys h = inr (some_right P xs ys h)

some_cases : {X : Type 0} (P : X → Type 0) (xs ys : List X) → Some' P (xs ++ ys) → Some' P xs ⊎ Some' P ys
some_cases P [] ys h = inr h
some_cases P (x ∷ xs) ys (inl p) = inl (inl p)
some_cases P (x ∷ xs) ys (inr h) = elim (some_cases P xs ys h) [ inl a ↦ inl (inr a) | inr b ↦ inr b ]

-- what holds of an element as it is seen
pub any-map : {X Y : Type 0} (P : Y → Type 0) (f : X → Y) (xs : List X) → Any (λ x. P (f x)) xs → Any P (map f xs)
any-map P f xs h = to_any P (map f xs) (go xs (from_any (λ x. P (f x)) xs h))
  where
    go : (xs : List _) → Some' (λ x. P (f x)) xs → Some' P (map f xs)
    go [] h = h
    go (x ∷ xs) (inl p) = inl p
    go (x ∷ xs) (inr h) = inr (go xs h)

pub any-unmap : {X Y : Type 0} (P : Y → Type 0) (f : X → Y) (xs : List X) → Any P (map f xs) → Any (λ x. P (f x)) xs
any-unmap P f xs h = to_any (λ x. P (f x)) xs (go xs (from_any P (map f xs) h))
  where
    go : (xs : List _) → Some' P (map f xs) → Some' (λ x. P (f x)) xs
    go [] h = h
    go (x ∷ xs) (inl p) = inl p
    go (x ∷ xs) (inr h) = inr (go xs h)

module _ {X Y : Type 0} (P : Y → Type 0) (f : X → List Y) where
  -- an element of one of some lists
  any_flat : (xs : List X) → Any (λ x. Any P (f x)) xs → Any P (flat_map f xs)
  any_flat xs h = to_any P (flat_map f xs) (go xs (from_any (λ x. Any P (f x)) xs h))
    where
      go : (xs : List X) → Some' (λ x. Any P (f x)) xs → Some' P (flat_map f xs)
      go [] h = absurd h
      go (x ∷ xs) (inl p) = some_left P (f x) (flat_map f xs) (from_any P (f x) p)
      go (x ∷ xs) (inr h) = some_right P (f x) (flat_map f xs) (go xs h)

  of_flat : (xs : List X) → Any P (flat_map f xs) → Any (λ x. Any P (f x)) xs
  of_flat xs h = to_any (λ x. Any P (f x)) xs (go xs (from_any P (flat_map f xs) h))
    where
      go : (xs : List X) → Some' P (flat_map f xs) → Some' (λ x. Any P (f x)) xs
      go [] h = absurd h
      go (x ∷ xs) h = elim (some_cases P (f x) (flat_map f xs) h) [
        | inl a ↦ inl (to_any P (f x) a)
        | inr b ↦ inr (go xs b)
      ]

-- the texts, each with each of the bytes behind it
abbrev pub longer_texts : List ℕ → List (List ℕ) → List (List ℕ)
longer_texts choices texts = flat_map (λ text. map (λ b. text ++ b ∷ []) choices) texts

module _ (fold : Bool) where
  -- the empty row
  pub product_none : AreProduct fold [] (map reverse ([] ∷ []))
  product_none line i =
      let size = length_searched fold line in (
        λ within. (0, [], omega arith, refl, occurs_nothing (as_searched fold line) i (omega (arith, size, within))),
        λ h. let fits = h.4.fits in omega (arith, size, fits),
      )

  module _ (set : Bytes) (choices : List ℕ) (are : AreChoices fold set choices) (row : List Bytes)
      (texts : List (List ℕ)) (product : AreProduct fold row (map reverse texts)) (line : List ℕ) (i : ℕ) where
    abbrev searched : List ℕ
    searched = as_searched fold line

    abbrev Stands : List ℕ → Type 0
    Stands text = OccursAt searched (reverse text) i

    -- a set in front of a row that becomes these texts
    stands_longer : StandsAt line (set ∷ row) i → Any (λ text. OccursAt searched text i)
        (map reverse (longer_texts choices texts))
    stands_longer o =
        let c = o.0.0 in
        let b = byte_as_searched fold c in
        let is = searched_byte fold line i c o.0.1 in
        let among = (are c).0 o.0.2 in
        let some = any-unmap (λ text. OccursAt searched text (i + 1)) reverse texts ((product line (i + 1)).0 o.1) in
        let text = some.1 in
        let here : Stands (text ++ b ∷ []) =
        subst (λ t. OccursAt searched t i) (sym {a = reverse (text ++ b ∷ [])} (reverse-append text (b ∷ [])))
        (occurs_more searched (reverse text) b i is some.4) in
        any-map (λ t. OccursAt searched t i) reverse (longer_texts choices texts)
        (any_flat Stands (λ t. map (λ b. t ++ b ∷ []) choices) texts (
          some.0,
          text,
          some.2,
          some.3,
          any-map Stands (λ b. text ++ b ∷ []) choices (among.0, b, among.1, among.2, here),
        ))

    -- and the other way round
    longer_stands : Any (λ text. OccursAt searched text i) (map reverse (longer_texts choices texts))
        → StandsAt line (set ∷ row) i
    longer_stands h =
        let among = of_flat Stands (λ t. map (λ b. t ++ b ∷ []) choices) texts
        (any-unmap (λ t. OccursAt searched t i) reverse (longer_texts choices texts) h) in
        let text = among.1 in
        let one = any-unmap Stands (λ b. text ++ b ∷ []) choices among.4 in
        let b = one.1 in
        let o = subst (λ t. OccursAt searched t i) (reverse-append text (b ∷ [])) one.4 in
        let byte = byte_of_searched fold line i b (occurs_first searched (reverse text) b i o) in
        let choice : Contains choices (byte_as_searched fold byte.0) =
        subst (Contains choices) (sym byte.2) (one.0, one.2, one.3) in
        let behind = occurs_behind searched (reverse text) b i o in
        let rest = any-map (λ t. OccursAt searched t (i + 1)) reverse texts
        (among.0, text, among.2, among.3, behind) in
        ((byte.0, byte.1, (are byte.0).1 choice), (product line (i + 1)).1 rest)

  pub product_more : (set : Bytes) (choices : List ℕ) → AreChoices fold set choices → (row : List Bytes)
      (texts : List (List ℕ)) → AreProduct fold row (map reverse texts)
      → AreProduct fold (set ∷ row) (map reverse (longer_texts choices texts))
  product_more set choices are row texts product line i = (
    stands_longer set choices are row texts product line i,
    longer_stands set choices are row texts product line i,
  )

  -- one choice
  pub alone_choice : (set : Bytes) (b : ℕ) → IsAlone fold set b → AreChoices fold set (b ∷ [])
  alone_choice set b alone c = (
    λ in_set. (0, omega arith, sym ((alone.1 c).0 in_set)),
    λ among. (alone.1 c).1 (one_of among.0 among.1 among.2),
  )
    where
      one_of : (k : ℕ) → k < 1 → get_or (b ∷ []) k (byte_as_searched fold c) ≡ byte_as_searched fold c
          → byte_as_searched fold c ≡ b
      one_of zero less is = sym is
      one_of (suc k) less is = absurd (omega arith)

module _ (fold : Bool) (set : Bytes) where
  -- the bytes below a bound that are searched for as themselves
  abbrev pub FoundBelow : List ℕ → ℕ → Type 0
  FoundBelow choices bound =
      (c : ℕ) → Contains choices c ↔ ((c < bound) × (byte_as_searched fold c ≡ c) × (set c ≡ true))

  -- one more byte
  pub found_more : (old new : List ℕ) (b : ℕ) → FoundBelow old b
      → new ≡ old ++ (cond (set b && (byte_as_searched fold b == b)) (b ∷ []) []) → FoundBelow new (b + 1)
  found_more old new b found is = elim (cases_Bool (set b)) [
    | inl in_set ↦ elim (cases_Bool (byte_as_searched fold b == b)) [
      | inl own ↦
          let same : byte_as_searched fold b ≡ b = grind (arith, nat_tests) in
          let joined : new ≡ old ++ b ∷ [] =
          is ∙ ap (λ t. old ++ cond (t && (byte_as_searched fold b == b)) (b ∷ []) []) in_set
          ∙ ap (λ t. old ++ cond t (b ∷ []) []) own in
          subst (λ xs. FoundBelow xs (b + 1)) (sym joined) (λ c. (
            λ among. elim (Contains-append_cases old (b ∷ []) c among) [
              | inl before ↦ let h = (found c).0 before in (omega (arith, h.0), h.1, h.2)
              | inr here ↦
                  let at : b ≡ c = first_of here.0 here.1 here.2 in
                  (omega arith, subst (λ d. byte_as_searched fold d ≡ d) at same, subst (λ d. set d ≡ true) at in_set)
            ],
            λ h. elim (cases_lt c b) [
              | inl less ↦ Contains-append_left old (b ∷ []) c ((found c).1 (less, h.1, h.2))
              | inr more ↦ Contains-append_right old (b ∷ []) c (0, omega arith, omega (arith, h.0, more))
            ],
          ))
      | inr other ↦
          let differs : byte_as_searched fold b ≡ b → ⊥ = λ same. grind (arith, nat_tests) in
          let none : new ≡ old =
          is ∙ ap (λ t. old ++ cond (t && (byte_as_searched fold b == b)) (b ∷ []) []) in_set
          ∙ ap (λ t. old ++ cond t (b ∷ []) []) other ∙ append-nil old in
          without none (λ h. differs h.0)
    ]
    | inr outside ↦
        let none : new ≡ old =
        is ∙ ap (λ t. old ++ cond (t && (byte_as_searched fold b == b)) (b ∷ []) []) outside ∙ append-nil old in
        without none (λ h. false≢true (sym outside ∙ h.1))
  ]
    where
      first_of : {c : ℕ} (k : ℕ) → k < 1 → get_or (b ∷ []) k c ≡ c → b ≡ c
      first_of zero less is = is
      first_of (suc k) less is = absurd (omega arith)

      without : new ≡ old → ((byte_as_searched fold b ≡ b) × (set b ≡ true) → ⊥) → FoundBelow new (b + 1)
      without none not = subst (λ xs. FoundBelow xs (b + 1)) (sym none) (λ c. (
        λ among. let h = (found c).0 among in (omega (arith, h.0), h.1, h.2),
        λ h. elim (cases_lt c b) [
          | inl less ↦ (found c).1 (less, h.1, h.2)
          | inr more ↦
              let at : c ≡ b = omega (arith, h.0, more) in
              absurd (not (subst (λ d. (byte_as_searched fold d ≡ d) × (set d ≡ true)) at (h.1, h.2)))
        ],
      ))

-- of a set that is searched for as one byte
pub choice_alone : (fold : Bool) (set : Bytes) (b : ℕ) → IsAlone fold set b → AreChoices fold set (b ∷ [])
choice_alone fold set b alone c = (
  λ in_set. (0, omega arith, sym ((alone.1 c).0 in_set)),
  λ among. (alone.1 c).1 (only among.0 among.1 among.2),
)
  where
    only : (k : ℕ) → k < 1 → get_or (b ∷ []) k (byte_as_searched fold c) ≡ byte_as_searched fold c
        → byte_as_searched fold c ≡ b
    only zero less is = sym is
    only (suc k) less is = absurd (omega arith)

-- the bytes that those of a set are searched for as
pub choices_are : (fold : Bool) (set : ByteSet) (choices : List ℕ)
    → ((c : ℕ) → bytes set c ≡ bytes set (byte_as_searched fold c)) → FoundBelow fold (bytes set) choices 256
    → AreChoices fold (bytes set) choices
choices_are fold set choices closed found c = (
  λ in_set.
      let lowered = sym (closed c) ∙ in_set in
      (found (byte_as_searched fold c)).1 (small (byte_as_searched fold c) lowered, searched_again fold c, lowered),
  λ among. closed c ∙ ((found (byte_as_searched fold c)).0 among).2,
)
  where
    small : (b : ℕ) → bytes set b ≡ true → b < 256
    small b in_set = elim (cases_lt b 256) [
      | inl less ↦ less
      | inr more ↦ absurd (outside b more in_set)
    ]
      where
        outside : (b : ℕ) → 256 ≤ b → bytes set b ≡ true → ⊥
        outside b more in_set = grind (arith, nat_tests)

module _ (fold : Bool) (row : List ByteSet) (i : ℕ) (d : ByteSet) (below : i < length row) where
  -- one more set of a row that lies backwards
  row_more : row_of (take (i + 1) row) ≡ bytes (get_or row i d) ∷ row_of (take i row)
  row_more =
      ap reverse (map_more bytes row i d below)
      ∙ reverse-append (map bytes (take i row)) (bytes (get_or row i d) ∷ [])

  -- it makes the texts longer
  pub product_grows : (choices : List ℕ) (old new : List (List ℕ)) → AreChoices fold (bytes (get_or row i d)) choices
      → AreProduct fold (row_of (take i row)) (map reverse old) → new ≡ longer_texts choices old
      → AreProduct fold (row_of (take (i + 1) row)) (map reverse new)
  product_grows choices old new are product is =
      let longer = product_more fold (bytes (get_or row i d)) choices are (row_of (take i row)) old product in
      subst (λ r. AreProduct fold r (map reverse new)) (sym row_more)
      (subst (λ ts. AreProduct fold (bytes (get_or row i d) ∷ row_of (take i row)) (map reverse ts)) (sym is) longer)

  -- the same of one text and one byte
  pub only_grows : (old new : List ℕ) (b : ℕ) → IsAlone fold (bytes (get_or row i d)) b → new ≡ old ++ b ∷ []
      → AreProduct fold (row_of (take i row)) (reverse old ∷ [])
      → AreProduct fold (row_of (take (i + 1) row)) (reverse new ∷ [])
  only_grows old new b alone is product =
      product_grows (b ∷ []) (old ∷ []) (new ∷ []) (alone_choice fold (bytes (get_or row i d)) b alone) product
      (ap (λ t. t ∷ []) is)

  module _ (text : List ℕ) (is : map bytes row ≡ sets_of fold text) where
    -- the set of a byte of a fixed string
    fixed_below : i < length text
    fixed_below =
        let size = ap length is in
        omega (arith, below, size, length-map row bytes, length-map text (λ b. folded fold (one b)))

    fixed_set : bytes (get_or row i d) ≡ folded fold (one (get_or text i 0))
    fixed_set =
        let F : ℕ → Bytes = λ b. folded fold (one b) in
        sym (get_or-map bytes row i d (bytes d) below)
        ∙ (ap (λ sets. get_or sets i (bytes d)) is ∙ get_or-map F text i 0 (bytes d) fixed_below)

    -- it is searched for as one byte
    pub fixed_alone : IsAlone fold (bytes (get_or row i d)) (byte_as_searched fold (get_or text i 0))
    fixed_alone =
        subst (λ set. IsAlone fold set (byte_as_searched fold (get_or text i 0))) (sym fixed_set)
        (folded_alone fold (get_or text i 0))

    pub fixed_grows : (old new : List ℕ) (b : ℕ) → IsAlone fold (bytes (get_or row i d)) b → new ≡ old ++ b ∷ []
        → old ≡ as_searched fold (take i text) → new ≡ as_searched fold (take (i + 1) text)
    fixed_grows old new b alone joined known =
        let t = get_or text i 0 in
        let same = alone_once fold t b (subst (λ set. IsAlone fold set b) fixed_set alone) in
        joined
        ∙ (ap (λ xs. xs ++ b ∷ []) known
        ∙ (ap (λ c. as_searched fold (take i text) ++ c ∷ []) same
        ∙ (ap (λ xs. as_searched fold (take i text) ++ xs) (sym (searched_one fold t))
        ∙ (sym (searched_append fold (take i text) (t ∷ []))
        ∙ ap (as_searched fold) (sym (take_more text i 0 fixed_below))))))

-- all sets of a row
pub product_all : (fold : Bool) (row : List ByteSet) (n : ℕ) (texts : List (List ℕ)) → length row ≤ n
    → AreProduct fold (row_of (take n row)) texts → AreProduct fold (row_of row) texts
product_all fold row n texts all product =
    subst (λ r. AreProduct fold (row_of r) texts) (take_all n row all) product

pub fixed_whole : (fold : Bool) (row : List ByteSet) (text only : List ℕ) (n : ℕ) → map bytes row ≡ sets_of fold text
    → length row ≤ n → only ≡ as_searched fold (take n text) → only ≡ as_searched fold text
fixed_whole fold row text only n is all known =
    let size = ap length is in
    let long : length text ≤ n =
    omega (arith, all, size, length-map row bytes, length-map text (λ b. folded fold (one b))) in
    known ∙ ap (as_searched fold) (take_all n text long)

-- one more text
pub longer_more : {A : Type 0} (choices : List ℕ) (texts : List (Vec ℕ A)) (i : ℕ) (text : Vec ℕ A) (seen : List ℕ)
    (old new : List (List ℕ)) → i < length texts → text ≡ get_or texts i text → seen ≡ text.items
    → old ≡ longer_texts choices (map items_of (take i texts)) → new ≡ old ++ map (λ b. seen ++ b ∷ []) choices
    → new ≡ longer_texts choices (map items_of (take (i + 1) texts))
longer_more {A} choices texts i text seen old new below is read known joined =
    let F : List ℕ → List (List ℕ) = λ t. map (λ b. t ++ b ∷ []) choices in
    let front = map (items_of {A = A}) (take i texts) in
    let last : map (items_of {A = A}) (take (i + 1) texts) ≡ front ++ text.items ∷ [] =
    map_more items_of texts i text below ∙ ap (λ (t : Vec ℕ A). front ++ t.items ∷ []) (sym is) in
    joined
    ∙ (ap (λ ts. ts ++ F seen) known
    ∙ (ap (λ t. longer_texts choices front ++ F t) read
    ∙ (ap (λ ts. longer_texts choices front ++ ts) (sym (append-nil (F text.items)))
    ∙ (sym (flat_map-append F front (text.items ∷ [])) ∙ ap (λ ts. longer_texts choices ts) (sym last)))))

-- a row that a text of some bytes stands for isn't empty
pub product_some : (fold : Bool) (row : List Bytes) (text : List ℕ) → AreProduct fold row (text ∷ []) → 0 < length text
    → 0 < length row
product_some fold [] text product some =
    let any = (product [] 0).0 (omega arith) in
    let o = first_of any in
    let fits = o.fits in
    absurd (omega (arith, length_searched fold []))
  where
    first_of : Any (λ t. OccursAt (as_searched fold []) t 0) (text ∷ []) → OccursAt (as_searched fold []) text 0
    first_of any = elim (from_any (λ t. OccursAt (as_searched fold []) t 0) (text ∷ []) any) [
      | inl o ↦ o
      | inr none ↦ absurd none
    ]
product_some fold (set ∷ row) text product some = omega arith

-- what is seen of a list that lies backwards
map-reverse : {X Y : Type 0} (f : X → Y) (xs : List X) → map f (reverse xs) ≡ reverse (map f xs)
map-reverse f [] = refl
map-reverse f (x ∷ xs) =
    ap (map f) (reverse-append (x ∷ []) xs)
    ∙ (map-append f (reverse xs) (x ∷ [])
    ∙ (ap (λ ys. ys ++ f x ∷ []) (map-reverse f xs) ∙ sym (reverse-append (f x ∷ []) (map f xs))))

-- the row of a fixed string, backwards
pub fixed_backwards : (fold : Bool) (row : List ByteSet) (text : List ℕ) → row_of row ≡ sets_of fold text
    → map bytes row ≡ sets_of fold (reverse text)
fixed_backwards fold row text is =
    sym (reverse-reverse (map bytes row)) ∙ (ap reverse is ∙ sym (map-reverse (λ b. folded fold (one b)) text))

-- the text of a fixed string, forwards
pub fixed_text : (fold : Bool) (row : List ByteSet) (only text : List ℕ)
    → ((text : List ℕ) → map bytes row ≡ sets_of fold text → only ≡ as_searched fold text)
    → row_of row ≡ sets_of fold text → reverse only ≡ as_searched fold text
fixed_text fold row only text fixed is =
    ap reverse (fixed (reverse text) (fixed_backwards fold row text is)) ∙ searched_reverse fold text
  where
    searched_reverse : (fold : Bool) (text : List ℕ) → reverse (as_searched fold (reverse text)) ≡ as_searched fold text
    searched_reverse false text = reverse-reverse text
    searched_reverse true text = ap reverse (map-reverse _ text) ∙ reverse-reverse (as_searched true text)
