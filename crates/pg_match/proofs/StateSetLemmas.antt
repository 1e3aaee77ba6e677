-- Sets of states.
use Rattle.std.proofs.Common.{◌≡◌, ◌≢◌, ℕ, suc, ◌+◌, ◌-◌, ◌<◌, ◌≤◌, inl, inr, Bool, not, cond, eqb}
use Rattle.std.proofs.Common.{List, [], ◌∷◌, length}
use Rattle.std.proofs.Common.{get_or, set, refl, sym, ap, ◌∙◌, arith, length-set, get_or-set_same, get_or-set_other}
use Rattle.std.proofs.Common.{ne_eqb, subst}
use Rattle.std.specs.Prelude.{count_by, slice_index}
use Rattle.std.proofs.lemmas.Bool.{cases_eq, cases_lt}
use Rattle.std.proofs.lemmas.List.{get_or_past, get_or_read}
use Rattle.std.proofs.lemmas.List.Sums.{sum_by-set, sum_by-cons, count_by-le-length}
use Rattle.pg_match.specs.Closures.{IsOrdered}
use Rattle.pg_match.specs.StateSets.{Buffers, HaveRoom, Members, mark, listed, IsGood, Inserted}

abbrev is_set : ℕ → Bool
is_set s = not (eqb s 0)

abbrev one : ℕ → ℕ
one s = cond (is_set s) 1 0

one_set : (s : ℕ) → 0 < s → one s ≡ 1
one_set s h = ap (λ b. cond (not b) 1 0) (ne_eqb s 0 (omega arith))

-- a state that is not in leaves room for one more
pub has_room : (t : Members) (q : ℕ) → IsGood t → q < length t.marks → mark t q ≡ 0 → (v : ℕ) → 0 < v
    → (t.len < length t.order) × (count_by is_set (set t.marks q v) ≡ t.len + 1)
has_room t q good within none v some =
    let e : count_by is_set (set t.marks q v) + one (mark t q) ≡ count_by is_set t.marks + one v =
    sum_by-set one t.marks q v 0 within in
    let e0 : one (mark t q) ≡ 0 = ap one none in
    let e1 : one v ≡ 1 = one_set v some in
    let sum : count_by is_set (set t.marks q v) ≡ t.len + 1 = omega (arith, good.count) in
    (omega (arith, count_by-le-length is_set (set t.marks q v), length-set t.marks q v, good.room), sum)

member_in : (t : Members) (q : ℕ) → 0 < mark t q → q < length t.marks
member_in t q h =
    elim (cases_lt q (length t.marks)) [
      | inl within ↦ within
      | inr past ↦ let z : mark t q ≡ 0 = get_or_past t.marks q 0 past in absurd (omega arith)
    ]

pub new_inserted : (t u : Members) (q start : ℕ) → IsGood t → q < length t.marks → 0 < start → mark t q ≡ 0
    → u.order ≡ set t.order t.len q → u.marks ≡ set t.marks q start → u.len ≡ t.len + 1
    → Inserted t u q start
new_inserted t u q start good within some none list starts len =
    let r = has_room t q good within none start some in
    let here : mark u q ≡ start = ap (λ s. slice_index s q) starts ∙ get_or-set_same t.marks q start 0 within in
    let last : listed u t.len ≡ q = ap (λ s. slice_index s t.len) list ∙ get_or-set_same t.order t.len q 0 r.0 in
    let others = λ (p : ℕ) (ne : p ≢ q). ap (λ s. slice_index s p) starts ∙ get_or-set_other t.marks q p start 0 ne in
    let before = λ (k : ℕ) (lt : k < t.len). ap (λ s. slice_index s k) list
    ∙ get_or-set_other t.order t.len k q 0 (omega arith) in
    record {
      good = record {
        room = ap length list ∙ length-set t.order t.len q ∙ good.room ∙ sym (length-set t.marks q start)
            ∙ sym (ap length starts);
        count = len ∙ sym r.1 ∙ sym (ap (count_by is_set) starts);
        is_in = λ k lt. elim (cases_eq k t.len) [
          | inl same ↦ rw (same, last, here) some
          | inr other ↦
              let lt' : k < t.len = omega arith in
              let old : 0 < mark t (listed t k) = good.is_in k lt' in
              let ne : listed t k ≢ q = λ e. (let z : mark t (listed t k) ≡ 0 = ap (mark t) e ∙ none in omega arith) in
              rw (before k lt', others (listed t k) ne) old
        ];
        found = λ p h. elim (cases_eq p q) [
          | inl same ↦ (t.len, omega arith, last ∙ sym same)
          | inr other ↦
              let was : 0 < mark t p = rw (others p other) at h in
              let f = good.found p was in
              (f.0, omega (arith, f.1), before f.0 f.1 ∙ f.2)
        ];
      };
      size = ap length starts ∙ length-set t.marks q start;
      kept = λ p h. others p (λ e. (let z : mark t p ≡ 0 = ap (mark t) e ∙ none in omega arith));
      fresh = λ p z h. elim (cases_eq p q) [
        | inl same ↦ (same, ap (mark u) same ∙ here, last ∙ sym same, len)
        | inr other ↦ let was : 0 < mark t p = rw (others p other) at h in absurd (omega arith)
      ];
      here = rw here some;
      list = before;
      longer = omega arith;
      last = λ k ge lt. let e : k ≡ t.len = omega arith in (none, ap (listed u) e ∙ last, here);
    }

none_set : (xs : List ℕ) → ((q : ℕ) → slice_index xs q ≡ 0) → count_by is_set xs ≡ 0
none_set [] h = refl
none_set (x ∷ xs) h =
    let here : one x ≡ 0 = ap one (h 0) in
    let rest = none_set xs (λ q. h (suc q)) in
    sum_by-cons one x xs ∙ omega (arith, here, rest)

pub empty_good : (t : Members) → length t.order ≡ length t.marks → t.len ≡ 0 → ((q : ℕ) → mark t q ≡ 0) → IsGood t
empty_good t caps none zeros = record {
  room = caps;
  count = none ∙ sym (none_set t.marks zeros);
  is_in = λ k lt. absurd (omega arith);
  found = λ q h. let z = zeros q in absurd (omega arith);
}

pub listed_in : (t : Members) (k : ℕ) → IsGood t → k < t.len → listed t k < length t.marks
listed_in t k good lt = member_in t (listed t k) (good.is_in k lt)

-- no more states than the machine has
pub few : (t : Members) → IsGood t → t.len ≤ length t.marks
few t good = omega (arith, good.count, count_by-le-length is_set t.marks)

pub list_long : (t : Members) → IsGood t → t.len ≤ length t.order
list_long t good = omega (arith, few t good, good.room)

-- what the code reads of the list
pub read_listed : (t : Members) (k x : ℕ) → IsGood t → k < t.len → x ≡ get_or t.order k x → x ≡ listed t k
read_listed t k x good lt read = get_or_read t.order k x (omega (arith, list_long t good)) read 0

pub read_at : (t : Members) (q x : ℕ) → q < length t.marks → x ≡ get_or t.marks q x → x ≡ mark t q
read_at t q x within read = get_or_read t.marks q x within read 0

pub read_thread : (t : Members) (k x y : ℕ) → IsGood t → k < t.len → x ≡ get_or t.order k x → y ≡ get_or t.marks x y
    → (x ≡ listed t k) × (y ≡ mark t (listed t k)) × (listed t k < length t.marks) × (0 < mark t (listed t k))
read_thread t k x y good lt read_x read_y =
    let e = read_listed t k x good lt read_x in
    let inside = listed_in t k good lt in
    (e, read_at t x y (omega (arith, e)) read_y ∙ ap (mark t) e, inside, good.is_in k lt)

-- where the marks of the first and the last state are one, all are
pub only_mark : (t : Members) (m : ℕ) → IsGood t → IsOrdered t → 0 < t.len → mark t (listed t 0) ≡ m
    → mark t (listed t (t.len - 1)) ≡ m → (q : ℕ) → 0 < mark t q → mark t q ≡ m
only_mark t m good ordered some first last q h =
    let f = good.found q h in
    let low = ordered 0 f.0 (omega arith) f.1 in
    let high = ordered f.0 (t.len - 1) (omega (arith, f.1)) (omega (arith, some)) in
    let is = ap (mark t) f.2 in
    omega (arith, low, high, is, first, last)

-- both sets have changed places
pub room_swapped : (b b' : Buffers) (n : ℕ) → b'.current ≡ b.next → b'.next ≡ b.current → HaveRoom b n → HaveRoom b' n
room_swapped b b' n first second room = record {
  now = subst IsGood (sym first) room.next;
  next = subst IsGood (sym second) room.now;
  now_size = subst (λ s. length s.marks ≡ n) (sym first) room.next_size;
  next_size = subst (λ s. length s.marks ≡ n) (sym second) room.now_size;
}
