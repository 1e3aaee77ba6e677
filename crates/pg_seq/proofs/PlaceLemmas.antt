-- Where a file's block stands among all blocks of a plan.
use Rattle.std.proofs.Common.{◌≡◌, ℕ, zero, suc, ◌+◌, ◌-◌, ◌<◌, ◌≤◌, inl, inr, true, cond, eqb, nat_lt}
use Rattle.std.proofs.Common.{Option, Some, None, List, [], ◌∷◌, ◌++◌, length, get_or, slice_get}
use Rattle.std.proofs.Common.{refl, sym, ap, ◌∙◌, subst, arith}
use Rattle.std.specs.List.{find}
use Rattle.std.specs.Option.{option_or, unwrap_or}
use Rattle.std.proofs.lemmas.Bool.{eq-eqb, lt-ltb, le-ltb, cases_lt, cases_eq, and_left, and_right, and_from}
use Rattle.std.proofs.lemmas.List.{get_or_append_left, get_or_push, get_or_past, get_or_default, length_push}
use Rattle.std.proofs.lemmas.List.Folds.{find-append}
use Rattle.pg_blocks.specs.Blocks.{BlockData}
use Rattle.std.proofs.lemmas.Option.{get_or_from_slice_get, unwrap_or-slice_get, slice_get_within}
use Rattle.pg_plan.specs.Plan.{Step, Opens, Announces, Ends, Misses, IsShaped, opened, announced, last_blocks}
use Rattle.pg_plan.specs.History.{is_block}
use Rattle.pg_seq.specs.Slots.{place_of, at_place}
use Rattle.pg_seq.specs.Standing.{starts_of}
use Rattle.pg_seq.proofs.KeyLemmas.{is_other}

pub starts_length : (p : List Step) → length (starts_of p) ≡ opened p
starts_length [] = refl
starts_length (Opens name ∷ p) = length_push (starts_of p) (length (announced p)) ∙ ap (λ n. n + 1) (starts_length p)
starts_length (Announces b ∷ p) = starts_length p
starts_length (Ends failed ∷ p) = starts_length p
starts_length (Misses name ∷ p) = starts_length p

starts_le : (p : List Step) (i : ℕ) → get_or (starts_of p) i 0 ≤ length (announced p)
starts_le [] i = omega arith
starts_le (Opens name ∷ p) i = elim (cases_lt i (length (starts_of p))) [
  | inl lt ↦ let e = get_or_append_left (starts_of p) (length (announced p) ∷ []) 0 i lt in let h = starts_le p i in
      omega arith
  | inr ge ↦ elim (cases_eq (length (starts_of p)) i) [
    | inl same ↦ let e = get_or_push (starts_of p) (length (announced p)) 0 i same in omega arith
    | inr other ↦
        let e = get_or_past (starts_of p ++ length (announced p) ∷ []) i 0
        (omega (arith, length_push (starts_of p) (length (announced p)))) in
        omega arith
  ]
]
starts_le (Announces b ∷ p) i = let h = starts_le p i in let e = length_push (announced p) b in omega arith
starts_le (Ends failed ∷ p) i = starts_le p i
starts_le (Misses name ∷ p) i = starts_le p i

last_start : (end : ℕ) (p : List Step) → IsShaped end p → (n : ℕ) → n + 1 ≡ opened p
    → get_or (starts_of p) n 0 + length (last_blocks p) ≡ length (announced p)
last_start end [] h n e = absurd (omega arith)
last_start end (Opens name ∷ p) h n e =
    let l = starts_length p in
    let s : length (starts_of p) ≡ n = omega arith in
    let f = get_or_push (starts_of p) (length (announced p)) 0 n s in
    omega arith
last_start end (Announces b ∷ p) h n e =
    let i = last_start end p h.1 n e in
    let a = length_push (announced p) b in
    let l = length_push (last_blocks p) b in
    omega arith
last_start end (Ends failed ∷ p) h n e = last_start end p h.1 n e
last_start end (Misses name ∷ p) h n e = last_start end p h.1 n e

module _ (starts : List ℕ) (total f k : ℕ) where
  none_file : length starts ≤ f → place_of starts total f k ≡ None
  none_file past = ap (λ t. cond t (Some (get_or starts f 0 + k)) None) (and_left (nat_lt f (length starts)) _
      (le-ltb f (length starts) past))

  none_number : get_or starts (f + 1) total ≤ get_or starts f 0 + k → place_of starts total f k ≡ None
  none_number past = ap (λ t. cond t (Some (get_or starts f 0 + k)) None) (and_right (nat_lt f (length starts)) _
      (le-ltb (get_or starts f 0 + k) (get_or starts (f + 1) total) past))

  some_place : f < length starts → get_or starts f 0 + k < get_or starts (f + 1) total
      → place_of starts total f k ≡ Some (get_or starts f 0 + k)
  some_place file number = ap (λ t. cond t (Some (get_or starts f 0 + k)) None) (and_from (nat_lt f (length starts)) _
      (lt-ltb f (length starts) file) (lt-ltb (get_or starts f 0 + k) (get_or starts (f + 1) total) number))

-- what the starts of a file and of the next one tell of a block's place
module _ (starts : List ℕ) (total f k start stop : ℕ) (is : Some start ≡ slice_get starts f)
    (end : stop ≡ unwrap_or (slice_get starts (f + 1)) total) where
  start_is : get_or starts f 0 ≡ start
  start_is = get_or_from_slice_get starts f start 0 (sym is)

  stop_is : stop ≡ get_or starts (f + 1) total
  stop_is = end ∙ unwrap_or-slice_get starts (f + 1) total

  pub place_within : k < stop - start → Some (start + k) ≡ place_of starts total f k
  place_within h =
      let within = slice_get_within starts f start (sym is) in
      ap (λ n. Some (n + k)) (sym start_is)
      ∙ sym (some_place starts total f k within (omega (arith, start_is, stop_is)))

  pub no_place_within : stop - start ≤ k → None ≡ place_of starts total f k
  no_place_within h = sym (none_number starts total f k (omega (arith, start_is, stop_is)))

-- a file that was just opened has no block
place_open : (starts : List ℕ) (total f k : ℕ) → place_of (starts ++ total ∷ []) total f k ≡ place_of starts total f k
place_open starts total f k =
    let more = starts ++ total ∷ [] in
    let n = length_push starts total in
    elim (cases_lt f (length starts)) [
      | inl lt ↦
          let a = get_or_append_left starts (total ∷ []) 0 f lt in
          let stop : get_or more (f + 1) total ≡ get_or starts (f + 1) total = elim (cases_lt (f + 1) (length starts)) [
            | inl inside ↦ get_or_append_left starts (total ∷ []) total (f + 1) inside
            | inr out ↦ get_or_push starts total total (f + 1) (omega arith)
                ∙ sym (get_or_past starts (f + 1) total out)
          ] in
          elim (cases_lt (get_or starts f 0 + k) (get_or starts (f + 1) total)) [
            | inl some ↦ some_place more total f k (omega arith) (omega arith)
                ∙ (ap (λ x. Some (x + k)) a ∙ sym (some_place starts total f k lt some))
            | inr none ↦ none_number more total f k (omega arith) ∙ sym (none_number starts total f k none)
          ]
      | inr ge ↦ elim (cases_eq (length starts) f) [
        | inl same ↦
            let a = get_or_push starts total 0 f same in
            let b = get_or_past more (f + 1) total (omega arith) in
            none_number more total f k (omega arith) ∙ sym (none_file starts total f k ge)
        | inr other ↦ none_file more total f k (omega arith) ∙ sym (none_file starts total f k ge)
      ]
    ]

get_push : {X : Type 0} (xs : List X) (x : X) → slice_get (xs ++ x ∷ []) (length xs) ≡ Some x
get_push [] x = refl
get_push (y ∷ ys) x = get_push ys x

get_left : {X : Type 0} (xs ys : List X) (i : ℕ) → i < length xs → slice_get (xs ++ ys) i ≡ slice_get xs i
get_left [] ys i below = absurd (omega arith)
get_left (x ∷ xs) ys zero below = refl
get_left (x ∷ xs) ys (suc i) below = get_left xs ys i (omega arith)

or_nothing : {X : Type 0} (o : Option X) → option_or o None ≡ o
or_nothing None = refl
or_nothing (Some x) = refl

-- one more block of the last file
module _ (starts : List ℕ) (bs : List BlockData) (b : BlockData) (below : (i : ℕ) → get_or starts i 0 ≤ length bs)
    (last : b.file + 1 ≡ length starts) (next : get_or starts b.file 0 + b.number ≡ length bs) where
  abbrev more : List BlockData
  more = bs ++ b ∷ []

  long : length more ≡ length bs + 1
  long = length_push bs b

  place_here : at_place more (place_of starts (length more) b.file b.number) ≡ Some b
  place_here =
      let stop = get_or_past starts (b.file + 1) (length more) (omega arith) in
      ap (at_place more) (some_place starts (length more) b.file b.number (omega arith) (omega (arith, long))
      ∙ ap Some next) ∙ get_push bs b

  none_before : place_of starts (length bs) b.file b.number ≡ None
  none_before = let stop = get_or_past starts (b.file + 1) (length bs) (omega arith) in
      none_number starts (length bs) b.file b.number (omega arith)

  place_other : (f k : ℕ) → ((b.file ≡ f) → (b.number ≡ k) → ⊥) → at_place more (place_of starts (length more) f k)
      ≡ at_place bs (place_of starts (length bs) f k)
  place_other f k ne = elim (cases_lt f (length starts)) [
    | inr past ↦ ap (at_place more) (none_file starts (length more) f k past)
        ∙ sym (ap (at_place bs) (none_file starts (length bs) f k past))
    | inl file ↦ elim (cases_lt (f + 1) (length starts)) [
      | inl inside ↦
          let s = get_or_default starts (f + 1) (length more) (length bs) inside in
          let z = get_or_default starts (f + 1) (length bs) 0 inside in
          let low = below (f + 1) in
          elim (cases_lt (get_or starts f 0 + k) (get_or starts (f + 1) (length bs))) [
            | inl some ↦ ap (at_place more) (some_place starts (length more) f k file (omega arith))
                ∙ (get_left bs (b ∷ []) (get_or starts f 0 + k) (omega arith)
                ∙ sym (ap (at_place bs) (some_place starts (length bs) f k file some)))
            | inr none ↦ ap (at_place more) (none_number starts (length more) f k (omega arith))
                ∙ sym (ap (at_place bs) (none_number starts (length bs) f k none))
          ]
      | inr out ↦
          let same : b.file ≡ f = omega arith in
          let s = get_or_past starts (f + 1) (length more) out in
          let z = get_or_past starts (f + 1) (length bs) out in
          let n : get_or starts f 0 + b.number ≡ length bs = ap (λ i. get_or starts i 0 + b.number) (sym same) ∙ next in
          elim (cases_lt (get_or starts f 0 + k) (length bs)) [
            | inl some ↦ ap (at_place more) (some_place starts (length more) f k file (omega (arith, long)))
                ∙ (get_left bs (b ∷ []) (get_or starts f 0 + k) some
                ∙ sym (ap (at_place bs) (some_place starts (length bs) f k file (omega arith))))
            | inr none ↦ elim (cases_eq b.number k) [
              | inl number ↦ absurd (ne same number)
              | inr other ↦ ap (at_place more) (none_number starts (length more) f k (omega (arith, long)))
                  ∙ sym (ap (at_place bs) (none_number starts (length bs) f k (omega arith)))
            ]
          ]
    ]
  ]

  find_more : (f k : ℕ) → find (is_block f k) bs ≡ at_place bs (place_of starts (length bs) f k)
      → find (is_block f k) more ≡ at_place more (place_of starts (length more) f k)
  find_more f k h = find-append (is_block f k) bs (b ∷ []) ∙ elim (cases_eq b.file f) [
    | inl file ↦ elim (cases_eq b.number k) [
      | inl number ↦
          let P : ℕ → ℕ → Type 0 = λ x y. option_or (find (is_block x y) bs) (find (is_block x y) (b ∷ []))
          ≡ at_place more (place_of starts (length more) x y) in
          let H : ℕ → ℕ → Type 0 = λ x y. find (is_block x y) bs ≡ at_place bs (place_of starts (length bs) x y) in
          let h' : H b.file b.number = subst (λ x. H x b.number) (sym file) (subst (λ y. H f y) (sym number) h) in
          let here : is_block b.file b.number b ≡ true =
          and_from (eqb b.file b.file) (eqb b.number b.number) (eq-eqb b.file b.file refl)
          (eq-eqb b.number b.number refl) in
          let own : P b.file b.number =
          ap (λ o. option_or o (find (is_block b.file b.number) (b ∷ []))) (h' ∙ ap (at_place bs) none_before)
          ∙ (ap (λ t. cond t (Some b) None) here ∙ sym place_here) in
          subst (λ y. P f y) number (subst (λ x. P x b.number) file own)
      | inr other ↦ others f k (λ x y. other y) h
    ]
    | inr other ↦ others f k (λ x y. other x) h
  ]
    where
      others : (f k : ℕ) → ((b.file ≡ f) → (b.number ≡ k) → ⊥)
          → find (is_block f k) bs ≡ at_place bs (place_of starts (length bs) f k)
          → option_or (find (is_block f k) bs) (find (is_block f k) (b ∷ []))
          ≡ at_place more (place_of starts (length more) f k)
      others f k ne h =
          ap (λ t. option_or (find (is_block f k) bs) (cond t (Some b) None)) (is_other f k b ne)
          ∙ (or_nothing (find (is_block f k) bs) ∙ (h ∙ sym (place_other f k ne)))

-- the announced block of a file and number is the one at their place
pub find_place : (end : ℕ) (p : List Step) → IsShaped end p → (f k : ℕ) → find (is_block f k) (announced p)
    ≡ at_place (announced p) (place_of (starts_of p) (length (announced p)) f k)
find_place end [] h f k = sym (ap (at_place []) (none_file [] 0 f k (omega arith)))
find_place end (Opens name ∷ p) h f k = find_place end p h.1 f k
    ∙ ap (at_place (announced p)) (sym (place_open (starts_of p) (length (announced p)) f k))
find_place end (Announces b ∷ p) h f k =
    find_more (starts_of p) (announced p) b (starts_le p) (h.0.file ∙ sym (starts_length p))
    (ap (λ n. get_or (starts_of p) b.file 0 + n) h.0.number ∙ last_start end p h.1 b.file h.0.file) f k
    (find_place end p h.1 f k)
find_place end (Ends failed ∷ p) h f k = find_place end p h.1 f k
find_place end (Misses name ∷ p) h f k = find_place end p h.1 f k
