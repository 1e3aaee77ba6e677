-- What an arrival is by the slots, and what it changes in them.
use Rattle.std.proofs.Common.{◌⊎◌, ◌≡◌, ℕ, zero, suc, ◌+◌, ◌<◌, ◌≤◌, Bool, true, false, ◌&&◌, ◌||◌, cond, eqb, Option}
use Rattle.std.proofs.Common.{Some, None, List, [], ◌∷◌, ◌++◌, length, get_or, set, map, slice_get, refl, sym, ap}
use Rattle.std.proofs.Common.{◌∙◌, subst, arith, inl, inr}
use Rattle.std.specs.List.{AllByRecursion, list_any}
use Rattle.std.specs.Str.{bytes_eq}
use Rattle.std.proofs.lemmas.Bool.{false≢true, eq-eqb}
use Rattle.std.proofs.lemmas.Option.{slice_get_read}
use Rattle.std.proofs.lemmas.Slice.Eq.{bytes_eq-Decides}
use Rattle.pg_selection.specs.Search.{Search}
use Rattle.pg_selection.specs.Searched.{SearchedBlock}
use Rattle.pg_blocks.specs.Blocks.{BlockData}
use Rattle.pg_plan.specs.declared.answers.Arrival.TheVariants.{Taken, Double, Stranger}
use Rattle.pg_seq.specs.declared.slot.Slot.{Slot}
use Rattle.pg_plan.specs.History.{arrival_at, is_taken, if_same}
use Rattle.pg_seq.specs.Slots.{place_of, at_place, slot_block, has_result, arrival_at_slot}
use Rattle.pg_seq.specs.Slots.{arrival_among, with_result, IsResultOf}
use Rattle.pg_seq.proofs.KeyLemmas.{AreApart, is_other}
use Rattle.pg_plan.proofs.ListLemmas.{heads, tails}

taken_same : (keys : List (ℕ × ℕ)) (a b : BlockData) → a.file ≡ b.file → a.number ≡ b.number
    → is_taken keys a ≡ is_taken keys b
taken_same keys a b f n = ap (λ x. list_any (λ (key : ℕ × ℕ). eqb x key.0 && eqb a.number key.1) keys) f
    ∙ ap (λ x. list_any (λ (key : ℕ × ℕ). eqb b.file key.0 && eqb x key.1) keys) n

double_taken : Double ≡ Taken → ⊥
double_taken e = cc

pub stranger_taken : Stranger ≡ Taken → ⊥
stranger_taken e = cc

-- the block at an index has the file and the number of the arrived one
abbrev pub IsFor : List BlockData → ℕ → BlockData → Type 0
IsFor bs k b = (x : BlockData) → slice_get bs k ≡ Some x → (x.file ≡ b.file) × (x.number ≡ b.number)

pub own_key : (keys : List (ℕ × ℕ)) (b : BlockData) → is_taken ((b.file, b.number) ∷ keys) b ≡ true
own_key keys b =
    ap (λ t. (t && eqb b.number b.number) || is_taken keys b) (eq-eqb b.file b.file refl)
    ∙ ap (λ t. t || is_taken keys b) (eq-eqb b.number b.number refl)

place_at : (starts : List ℕ) (n m f f' k k' : ℕ) → n ≡ m → f ≡ f' → k ≡ k'
    → place_of starts n f k ≡ place_of starts m f' k'
place_at starts n m f f' k k' total file number =
    ap (λ t. place_of starts t f k) total
    ∙ (ap (λ t. place_of starts m t k) file ∙ ap (λ t. place_of starts m f' t) number)

-- a place is one number
pub place_same : (starts : List ℕ) (n m f f' k k' x y : ℕ) → Some x ≡ place_of starts n f k → n ≡ m → f ≡ f'
    → k ≡ k' → place_of starts m f' k' ≡ Some y → x ≡ y
place_same starts n m f f' k k' x y here total file number there =
    some_number (here ∙ (place_at starts n m f f' k k' total file number ∙ there))
  where
    some_number : Some x ≡ Some y → x ≡ y
    some_number e = cc

pub no_place : (starts : List ℕ) (n m f f' k k' y : ℕ) → None ≡ place_of starts n f k → n ≡ m → f ≡ f' → k ≡ k'
    → place_of starts m f' k' ≡ Some y → ⊥
no_place starts n m f f' k k' y here total file number there =
    no_number (here ∙ (place_at starts n m f f' k k' total file number ∙ there))
  where
    no_number : None ≡ Some y → ⊥
    no_number e = cc

module _ {A : Type 0} where
  -- an arrival by its place
  pub arrival_by : (starts : List ℕ) (slots : List (Slot A)) (n f k : ℕ) (b : BlockData) (o : Option ℕ)
      → o ≡ place_of starts n f k → n ≡ length slots → f ≡ b.file → k ≡ b.number
      → arrival_at_slot (at_place slots o) b ≡ arrival_among starts slots b
  arrival_by starts slots n f k b o e total file number =
      ap (λ p. arrival_at_slot (at_place slots p) b)
      (e ∙ place_at starts n (length slots) f b.file k b.number total file number)

  pub gone_double : (gone slots : List (Slot A)) (k : ℕ) (b : BlockData)
      → AllByRecursion (λ x. has_result x ≡ true) gone → k < length gone
      → Double ≡ arrival_at_slot (slice_get (gone ++ slots) k) b
  gone_double [] slots k b h below = absurd (omega arith)
  gone_double (x ∷ gone) slots zero b h below =
      sym (ap (λ t. cond t Double (if_same (bytes_eq b.bytes (slot_block x).bytes))) h.0)
  gone_double (x ∷ gone) slots (suc k) b h below = gone_double gone slots k b h.1 (omega arith)

  pub slot_behind : (gone slots : List (Slot A)) (k n : ℕ) (slot : Slot A) → n ≡ length gone + k → k < length slots
      → slot ≡ get_or slots k slot → Some slot ≡ slice_get (gone ++ slots) n
  slot_behind [] slots k n slot e below is =
      let same : k ≡ n = omega (arith, e) in
      sym (slice_get_read slots (length slots) k slot refl below is) ∙ ap (slice_get slots) same
  slot_behind (x ∷ gone) slots k n slot e below is =
      let more : suc (length gone + k) ≡ n = omega (arith, e) in
      slot_behind gone slots k (length gone + k) slot refl below is ∙ ap (slice_get (x ∷ (gone ++ slots))) more

  pub with_set : (slots : List (Slot A)) (k : ℕ) (slot : Slot A) (r : SearchedBlock) → k < length slots
      → slot ≡ get_or slots k slot → set slots k (record { block = slot.block; result = Some r })
      ≡ with_result slots k r
  with_set [] k slot r below e = absurd (omega arith)
  with_set (x ∷ slots) zero slot r below e =
      ap (λ (y : Slot A). let z : Slot A = record { block = y.block; result = Some r } in z ∷ slots) e
  with_set (x ∷ slots) (suc k) slot r below e = ap (λ ys. x ∷ ys) (with_set slots k slot r (omega arith) e)

  pub with_past : (slots : List (Slot A)) (k : ℕ) (r : SearchedBlock) → length slots ≤ k → slots ≡ with_result slots k r
  with_past [] k r past = refl
  with_past (x ∷ slots) zero r past = absurd (omega arith)
  with_past (x ∷ slots) (suc k) r past = ap (λ ys. x ∷ ys) (with_past slots k r (omega arith))

  -- the same behind slots that were given up
  pub with_behind : (gone slots : List (Slot A)) (k n : ℕ) (slot : Slot A) (r : SearchedBlock) → n ≡ length gone + k
      → k < length slots → slot ≡ get_or slots k slot
      → gone ++ set slots k (record { block = slot.block; result = Some r }) ≡ with_result (gone ++ slots) n r
  with_behind [] slots k n slot r e below is = with_set slots k slot r below is
      ∙ ap (λ m. with_result slots m r) (omega (arith, e))
  with_behind (x ∷ gone) slots k n slot r e below is =
      let more : n ≡ suc (length gone + k) = omega (arith, e) in
      ap (λ xs. x ∷ xs) (with_behind gone slots k (length gone + k) slot r refl below is)
      ∙ ap (λ m. with_result (x ∷ (gone ++ slots)) m r) (sym more)

  at_index : (keys : List (ℕ × ℕ)) (b : BlockData) (slots : List (Slot A)) (k : ℕ)
      → map (is_taken keys) (map slot_block slots) ≡ map has_result slots → IsFor (map slot_block slots) k b
      → arrival_at (slice_get (map slot_block slots) k) keys b ≡ arrival_at_slot (slice_get slots k) b
  at_index keys b [] k e f = refl
  at_index keys b (x ∷ slots) zero e f =
      let same = f (slot_block x) refl in
      ap (λ t. cond t Double (if_same (bytes_eq b.bytes (slot_block x).bytes)))
      (taken_same keys b (slot_block x) (sym same.0) (sym same.1) ∙ heads e)
  at_index keys b (x ∷ slots) (suc k) e f = at_index keys b slots k (tails e) f

  pub at_slot : (keys : List (ℕ × ℕ)) (b : BlockData) (slots : List (Slot A)) (place : Option ℕ)
      → map (is_taken keys) (map slot_block slots) ≡ map has_result slots
      → ((x : BlockData) → at_place (map slot_block slots) place ≡ Some x → (x.file ≡ b.file) × (x.number ≡ b.number))
      → arrival_at (at_place (map slot_block slots) place) keys b ≡ arrival_at_slot (at_place slots place) b
  at_slot keys b slots None e f = refl
  at_slot keys b slots (Some k) e f = at_index keys b slots k e f

  -- A taken one keeps its result.

  some_same : {x y : Slot A} → Some x ≡ Some y → x ≡ y
  some_same e = cc

  none_some : {x : Slot A} → None ≡ Some x → ⊥
  none_some e = cc

  slot_named : (slots : List (Slot A)) (k : ℕ)
      → (slice_get slots k ≡ None) ⊎ ((slot : Slot A) × (slice_get slots k ≡ Some slot))
  slot_named [] k = inl refl
  slot_named (x ∷ slots) zero = inr (x, refl)
  slot_named (x ∷ slots) (suc k) = slot_named slots k

  pub block_at : (slots : List (Slot A)) (k : ℕ) (slot : Slot A) → slice_get slots k ≡ Some slot
      → slice_get (map slot_block slots) k ≡ Some (slot_block slot)
  block_at [] k slot e = absurd (none_some e)
  block_at (x ∷ slots) zero slot e = ap (λ y. Some (slot_block y)) (some_same e)
  block_at (x ∷ slots) (suc k) slot e = block_at slots k slot e

  pub same_blocks : (slots : List (Slot A)) (k : ℕ) (r : SearchedBlock)
      → map slot_block (with_result slots k r) ≡ map slot_block slots
  same_blocks [] k r = refl
  same_blocks (x ∷ slots) zero r = refl
  same_blocks (x ∷ slots) (suc k) r = ap (λ ys. slot_block x ∷ ys) (same_blocks slots k r)

  -- a slot without a result stands behind those that have theirs
  pub held_back : (gone slots : List (Slot A)) (k : ℕ) (slot : Slot A)
      → AllByRecursion (λ x. has_result x ≡ true) gone → slice_get (gone ++ slots) k ≡ Some slot
      → has_result slot ≡ false → length gone ≤ k
  held_back [] slots k slot h e none = omega arith
  held_back (x ∷ gone) slots zero slot h e none =
      absurd (false≢true (sym none ∙ (sym (ap has_result (some_same e)) ∙ h.0)))
  held_back (x ∷ gone) slots (suc k) slot h e none = let ih = held_back gone slots k slot h.1 e none in omega arith

  pub results_with : (q : Search) (slots : List (Slot A)) (k : ℕ) (slot : Slot A) (r : SearchedBlock)
      → slice_get slots k ≡ Some slot → r.query ≡ q.text → r.block ≡ slot_block slot
      → AllByRecursion (IsResultOf q) slots → AllByRecursion (IsResultOf q) (with_result slots k r)
  results_with q [] k slot r e a b h = tt
  results_with q (x ∷ slots) zero slot r e a b h = ((a, b ∙ sym (ap slot_block (some_same e))), h.1)
  results_with q (x ∷ slots) (suc k) slot r e a b h = (h.0, results_with q slots k slot r e a b h.1)

  -- of those that are apart from a block none is marked by it
  taken_none : (keys : List (ℕ × ℕ)) (slots : List (Slot A)) (b : BlockData)
      → map (is_taken keys) (map slot_block slots) ≡ map has_result slots
      → AllByRecursion (λ c. c.file ≡ b.file → c.number ≡ b.number → ⊥) (map slot_block slots)
      → map (is_taken ((b.file, b.number) ∷ keys)) (map slot_block slots) ≡ map has_result slots
  taken_none keys [] b e h = refl
  taken_none keys (x ∷ slots) b e h =
      let c = slot_block x in
      let more = map (is_taken ((b.file, b.number) ∷ keys)) (map slot_block slots) in
      ap (λ t. (t || is_taken keys c) ∷ more) (is_other b.file b.number c h.0)
      ∙ (ap (λ t. t ∷ more) (heads e) ∙ ap (λ ys. has_result x ∷ ys) (taken_none keys slots b (tails e) h.1))

  apart_at : (b : BlockData) (slots : List (Slot A)) (k : ℕ) (slot : Slot A)
      → AllByRecursion (λ c. c.file ≡ b.file → c.number ≡ b.number → ⊥) (map slot_block slots)
      → slice_get slots k ≡ Some slot
      → b.file ≡ (slot_block slot).file → b.number ≡ (slot_block slot).number → ⊥
  apart_at b [] k slot h e = absurd (none_some e)
  apart_at b (x ∷ slots) zero slot h e =
      let same = ap slot_block (some_same e) in
      λ f n. h.0 (ap (λ (c : BlockData). c.file) same ∙ sym f) (ap (λ (c : BlockData). c.number) same ∙ sym n)
  apart_at b (x ∷ slots) (suc k) slot h e = apart_at b slots k slot h.1 e

  -- the marks of the blocks after one more is taken
  pub taken_one : (keys : List (ℕ × ℕ)) (slots : List (Slot A)) (k : ℕ) (slot : Slot A) (r : SearchedBlock)
      → map (is_taken keys) (map slot_block slots) ≡ map has_result slots → AreApart (map slot_block slots)
      → slice_get slots k ≡ Some slot
      → map (is_taken (((slot_block slot).file, (slot_block slot).number) ∷ keys)) (map slot_block slots)
      ≡ map has_result (with_result slots k r)
  taken_one keys [] k slot r e h i = absurd (none_some i)
  taken_one keys (x ∷ slots) zero slot r e h i =
      let P : Slot A → Type 0 = λ y. map (is_taken (((slot_block y).file, (slot_block y).number) ∷ keys))
      (map slot_block (x ∷ slots)) ≡ true ∷ map has_result slots in
      subst P (some_same i)
      (ap (λ t. t ∷ map (is_taken (((slot_block x).file, (slot_block x).number) ∷ keys)) (map slot_block slots))
      (own_key keys (slot_block x))
      ∙ ap (λ ys. true ∷ ys) (taken_none keys slots (slot_block x) (tails e) h.0))
  taken_one keys (x ∷ slots) (suc k) slot r e h i =
      let b = slot_block slot in
      let c = slot_block x in
      let more = map (is_taken ((b.file, b.number) ∷ keys)) (map slot_block slots) in
      ap (λ t. (t || is_taken keys c) ∷ more) (is_other b.file b.number c (apart_at c slots k slot h.0 i))
      ∙ (ap (λ t. t ∷ more) (heads e)
      ∙ ap (λ ys. has_result x ∷ ys) (taken_one keys slots k slot r (tails e) h.1 i))

  -- what a taken block is
  pub record IsTaken (starts : List ℕ) (slots : List (Slot A)) (b : BlockData) : Type 0 where
    pub place : ℕ
    pub is : place_of starts (length slots) b.file b.number ≡ Some place
    pub slot : Slot A
    pub at : slice_get slots place ≡ Some slot
    pub empty : has_result slot ≡ false
    pub bytes : b.bytes ≡ (slot_block slot).bytes

  taken_slot : (starts : List ℕ) (slots : List (Slot A)) (b : BlockData) (k : ℕ) (slot : Slot A) (t u : Bool)
      → place_of starts (length slots) b.file b.number ≡ Some k → slice_get slots k ≡ Some slot
      → has_result slot ≡ t → bytes_eq b.bytes (slot_block slot).bytes ≡ u → cond t Double (if_same u) ≡ Taken
      → IsTaken starts slots b
  taken_slot starts slots b k slot true u i e r s h = absurd (double_taken h)
  taken_slot starts slots b k slot false true i e r s h = record {
    place = k;
    is = i;
    slot = slot;
    at = e;
    empty = r;
    bytes = (bytes_eq-Decides b.bytes (slot_block slot).bytes).0 s;
  }
  taken_slot starts slots b k slot false false i e r s h = absurd (stranger_taken h)

  taken_at : (starts : List ℕ) (slots : List (Slot A)) (b : BlockData) (o : Option ℕ)
      → place_of starts (length slots) b.file b.number ≡ o → arrival_at_slot (at_place slots o) b ≡ Taken
      → IsTaken starts slots b
  taken_at starts slots b None i h = absurd (stranger_taken h)
  taken_at starts slots b (Some k) i h = elim (slot_named slots k) [
    | inl none ↦ absurd (stranger_taken (sym (ap (λ o. arrival_at_slot o b) none) ∙ h))
    | inr w ↦
        taken_slot starts slots b k w.0 (has_result w.0) (bytes_eq b.bytes (slot_block w.0).bytes) i w.1 refl refl
        (sym (ap (λ o. arrival_at_slot o b) w.1) ∙ h)
  ]

  pub taken_means : (starts : List ℕ) (slots : List (Slot A)) (b : BlockData) → arrival_among starts slots b ≡ Taken
      → IsTaken starts slots b
  taken_means starts slots b h = taken_at starts slots b _ refl h
