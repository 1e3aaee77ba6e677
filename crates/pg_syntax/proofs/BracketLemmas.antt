-- The brackets that are read are those that are spelled.
use Rattle.std.proofs.Common.{ℕ, zero, suc, ◌≡◌, ◌≤◌, ◌+◌, Bool, true, false, not, cond, ◌&&◌, eqb, leb, List, []}
use Rattle.std.proofs.Common.{◌∷◌, ◌++◌, length, Option, Some, None, option_and_then, inl, inr, refl, sym, ap, ◌∙◌}
use Rattle.std.proofs.Common.{subst, append_assoc, length-append, arith}
use Rattle.std.proofs.lemmas.Bool.{eqb-true, eq-eqb, ne_eqb, leb-true, false≢true, or_parts, and_right}
use Rattle.std.proofs.lemmas.Bool.Decides.{nat_tests}
use Rattle.pg_bytes.specs.Sets.{Bytes, empty, union, between, complement}
use Rattle.pg_pattern.specs.Patterns.{folded}
use Rattle.pg_grammar.specs.Brackets.{Element, Single, Enclosed, opens, has_end, Inside, member, end_point, is_dash}
use Rattle.pg_grammar.specs.Brackets.{ranges, MembersOf, negates, IsBracket}
use Rattle.pg_syntax.specs.BracketReading.{BracketContent, with_byte, until, enclosed_in, enclosed_at, Elements}
use Rattle.pg_syntax.specs.BracketReading.{with_element}
use Rattle.pg_syntax.specs.BracketReading.{inside_at, unite, range_of, Fresh, Held, Ranged, members_of, set_of, same}
use Rattle.pg_syntax.specs.BracketReading.{bracket}
use Rattle.pg_grammar.specs.Brackets as B
use Rattle.pg_syntax.proofs.IntervalLemmas.{chosen, chosen_true, chosen_false, both}

-- what is enclosed
until_again : (c : ℕ) (w rest : List ℕ) → eqb c 93 ≡ false → has_end c w ≡ false
    → until c (w ++ (c ∷ 93 ∷ rest)) ≡ Some (w, rest)
until_again c [] rest n h = chosen_true (eqb c c && eqb 93 93) (Some ([], rest)) (with_byte c (until c (93 ∷ rest))) _
    (rw (eq-eqb c c refl) refl) refl
until_again c (a ∷ []) rest n h = chosen_false _ _ _ _ (and_right (eqb a c) (eqb c 93) n)
    (ap (with_byte a) (until_again c [] rest n refl))
until_again c (a ∷ b ∷ w) rest n h =
    let k = or_parts (eqb a c && eqb b 93) (has_end c (b ∷ w)) h in
    chosen_false _ _ _ _ k.0 (ap (with_byte a) (until_again c (b ∷ w) rest n k.1))

abbrev content_or : List ℕ → BracketContent → List ℕ
content_or d None = d
content_or d (Some x) = x.0

abbrev rest_or : List ℕ → BracketContent → List ℕ
rest_or d None = d
rest_or d (Some x) = x.1

no_content : {A : Type 0} (x : List ℕ × List ℕ) → ◌≡◌ {A = BracketContent} None (Some x) → A
no_content x e = absurd (differ e)
  where
    differ : ◌≡◌ {A = BracketContent} None (Some x) → ⊥
    differ e = cc

pub until_takes : (c : ℕ) (t w rest : List ℕ) → until c t ≡ Some (w, rest) → (t ≡ w ++ (c ∷ 93 ∷ rest))
    × (has_end c w ≡ false)
until_takes c [] w rest e = no_content _ e
until_takes c (a ∷ []) w rest e = no_content _ e
until_takes c (a ∷ b ∷ t) w rest e = elim (chosen (eqb a c && eqb b 93) _ _ _ e) [
  | inl h ↦ ended (both _ _ h.0) h.1
  | inr h ↦ later h.0 (until c (b ∷ t)) refl h.1 (until_takes c (b ∷ t))
]
  where
    ended : (eqb a c ≡ true) × (eqb b 93 ≡ true) → ◌≡◌ {A = BracketContent} (Some ([], t)) (Some (w, rest))
        → (a ∷ b ∷ t ≡ w ++ (c ∷ 93 ∷ rest)) × (has_end c w ≡ false)
    ended k f =
        let we = ap (content_or []) f in
        let re = ap (rest_or []) f in
        let ae = eqb-true a c k.0 in
        let be = eqb-true b 93 k.1 in
        subst (λ y. (a ∷ b ∷ t ≡ y ++ (c ∷ 93 ∷ rest)) × (has_end c y ≡ false)) we (cc, refl)

    more_end : (w r : List ℕ) → b ∷ t ≡ w ++ (c ∷ 93 ∷ r) → (eqb a c && eqb b 93) ≡ false → has_end c w ≡ false
        → has_end c (a ∷ w) ≡ false
    more_end [] r te n he = refl
    more_end (y ∷ w) r te n he = let by : b ≡ y = cc in let n' : (eqb a c && eqb y 93) ≡ false =
        subst (λ z. (eqb a c && eqb z 93) ≡ false) by n in rw (n', he) refl

    later : (eqb a c && eqb b 93) ≡ false → (o : BracketContent) → until c (b ∷ t) ≡ o → with_byte a o ≡ Some (w, rest)
        → ((w rest : List ℕ) → until c (b ∷ t) ≡ Some (w, rest) → (b ∷ t ≡ w ++ (c ∷ 93 ∷ rest))
        × (has_end c w ≡ false)) → (a ∷ b ∷ t ≡ w ++ (c ∷ 93 ∷ rest)) × (has_end c w ≡ false)
    later n None g f ih = no_content _ f
    later n (Some x) g f ih =
        let (te, he) = ih x.0 x.1 g in
        let we = ap (content_or []) f in
        let re = ap (rest_or []) f in
        subst (λ y. (a ∷ b ∷ t ≡ y ++ (c ∷ 93 ∷ rest)) × (has_end c y ≡ false)) we
        (ap (λ y. a ∷ y) (te ∙ ap (λ y. x.0 ++ (c ∷ 93 ∷ y)) re), more_end x.0 x.1 te n he)

class_only : (c : ℕ) → opens (c ∷ []) ≡ true → eqb c 93 ≡ false
class_only c h = ne_eqb c 93 (λ e. false≢true (subst (λ x. opens (x ∷ []) ≡ true) e h))

inside_some : {first : Bool} {t : List ℕ} {es : List Element} → Inside first t es → (b : ℕ) × (u : List ℕ) × (t ≡ b ∷ u)
inside_some B.close = (93, [], refl)
inside_some (B.single {b = b} {t = t} x y h) = (b, t, refl)
inside_some (B.enclosed {c = c} {content = content} {t = t} x y h) = (91, c ∷ content ++ (c ∷ 93 ∷ t), refl)

opens_front : (t rest : List ℕ) → (b : ℕ) × (u : List ℕ) × (t ≡ b ∷ u) → opens (t ++ rest) ≡ opens t
opens_front t rest f = rw (f.2) refl

-- the elements up to the closing bracket
pub inside_again : {first : Bool} {t : List ℕ} {es : List Element} → Inside first t es → (n : ℕ) (rest : List ℕ)
    → length t ≤ n → inside_at n first (t ++ rest) ≡ Some (es, rest)
unfolding inside_at
inside_again h zero rest l = let f = inside_some h in absurd (omega (arith, ap length f.2))
inside_again B.close (suc n) rest l = refl
inside_again (B.single {first = first} {b = b} {t = t} x y h) (suc n) rest l =
    chosen_false _ _ _ _ x (chosen_false _ _ _ _ (ap (λ z. eqb b 91 && z) (opens_front t rest (inside_some h)) ∙ y)
    (ap (with_element (Single b)) (inside_again h n rest (omega arith))))
inside_again (B.enclosed {first = first} {c = c} {content = content} {t = t} x y h) (suc n) rest l =
    chosen_true _ _ _ _ x
    (ap (λ o. option_and_then (λ (e, r). with_element e (inside_at n false r)) (enclosed_in c o))
    (ap (until c) (append_assoc content (c ∷ 93 ∷ t) rest) ∙ until_again c content (t ++ rest) (class_only c x) y) ∙
    ap (with_element (Enclosed c content)) (inside_again h n rest (omega (arith, length-append content (c ∷ 93 ∷ t)))))

abbrev elements_or : List Element → Elements → List Element
elements_or d None = d
elements_or d (Some x) = x.0

abbrev after_or : List ℕ → Elements → List ℕ
after_or d None = d
after_or d (Some x) = x.1

pub no_elements : {A : Type 0} (x : List Element × List ℕ) → ◌≡◌ {A = Elements} None (Some x) → A
no_elements x e = absurd (differ e)
  where
    differ : ◌≡◌ {A = Elements} None (Some x) → ⊥
    differ e = cc

abbrev InsideTaken : Bool → List ℕ → List Element → List ℕ → Type 0
InsideTaken first t es rest = (w : List ℕ) × (t ≡ w ++ rest) × Inside first w es

element_taken : (P : List Element → List ℕ → Type 0) (a : Element) (o : Elements) (es : List Element) (rest : List ℕ)
    → with_element a o ≡ Some (es, rest) →
    ((es' : List Element) (rest' : List ℕ) → o ≡ Some (es', rest') → P (a ∷ es') rest') → P es rest
element_taken P a None es rest e k = no_elements _ e
element_taken P a (Some x) es rest e k = subst (λ y. P y rest) (ap (elements_or []) e)
    (subst (λ y. P (a ∷ x.0) y) (ap (after_or []) e) (k x.0 x.1 refl))

inside_takes : (n : ℕ) (first : Bool) (t : List ℕ) (es : List Element) (rest : List ℕ)
    → inside_at n first t ≡ Some (es, rest) → InsideTaken first t es rest
unfolding inside_at
inside_takes zero first t es rest e = no_elements _ e
inside_takes (suc n) first [] es rest e = no_elements _ e
inside_takes (suc n) first (b ∷ t) es rest e = elim (chosen (eqb b 93 && not first) _ _ _ e) [
  | inl h ↦ ended first (both _ _ h.0) h.1
  | inr h ↦ elim (chosen (eqb b 91 && opens t) _ _ _ h.1) [
    | inl g ↦ content t (both _ _ g.0) g.1 (inside_takes n false)
    | inr g ↦ element_taken (λ x y. InsideTaken first (b ∷ t) x y) (Single b) _ es rest g.1 (λ es' rest' f.
        let (w, tw, i) = inside_takes n false t es' rest' f in
        (b ∷ w, ap (λ y. b ∷ y) tw, B.single h.0 (unopened t w rest' tw i g.0) i))
  ]
]
  where
    ended : (first : Bool) → (eqb b 93 ≡ true) × (not first ≡ true)
        → ◌≡◌ {A = Elements} (Some ([], t)) (Some (es, rest)) → InsideTaken first (b ∷ t) es rest
    ended true k f = absurd (false≢true k.1)
    ended false k f =
        let ee = ap (elements_or []) f in
        let re = ap (after_or []) f in
        subst (λ y. InsideTaken false (b ∷ t) y rest) ee (93 ∷ [], (let be = eqb-true b 93 k.0 in cc), B.close)

    unopened : (t w rest' : List ℕ) → t ≡ w ++ rest' → {es' : List Element} → Inside false w es'
        → (eqb b 91 && opens t) ≡ false → (eqb b 91 && opens w) ≡ false
    unopened t w rest' tw i g = ap (λ y. eqb b 91 && y) (sym (opens_front w rest' (inside_some i)) ∙ ap opens (sym tw))
        ∙ g

    content : (t : List ℕ) → (eqb b 91 ≡ true) × (opens t ≡ true)
        → option_and_then (λ (e, r). with_element e (inside_at n false r)) (enclosed_at t) ≡ Some (es, rest)
        → ((t : List ℕ) (es : List Element) (rest : List ℕ) → inside_at n false t ≡ Some (es, rest)
        → InsideTaken false t es rest) → InsideTaken first (b ∷ t) es rest
    content [] k f ih = no_elements _ f
    content (c ∷ u) k f ih = go (until c u) refl f
      where
        whole : (y z w r : List ℕ) → u ≡ y ++ (c ∷ 93 ∷ z) → z ≡ w ++ r → b ∷ c ∷ u ≡ (91 ∷ c ∷ y ++ (c ∷ 93 ∷ w)) ++ r
        whole y z w r ue ze = rw (eqb-true b 91 k.0, ue, ze)
            (ap (λ q. 91 ∷ c ∷ q) (sym (append_assoc y (c ∷ 93 ∷ w) r)))

        go : (o : BracketContent) → until c u ≡ o
            → option_and_then (λ (e, r). with_element e (inside_at n false r)) (enclosed_in c o) ≡ Some (es, rest)
            → InsideTaken first (b ∷ c ∷ u) es rest
        go None g h = no_elements _ h
        go (Some x) g h = element_taken (λ y z. InsideTaken first (b ∷ c ∷ u) y z) (Enclosed c x.0) _ es rest h
            (λ es' rest' v.
            let (ue, he) = until_takes c u x.0 x.1 g in
            let (w, tw, i) = ih x.1 es' rest' v in
            (91 ∷ c ∷ x.0 ++ (c ∷ 93 ∷ w), whole (x.0) (x.1) w rest' ue tw, B.enclosed k.1 he i))

-- the set of the elements
held_is : (a : Element) (es : List Element) → ranges es ≡ false
    → members_of (Held a) es ≡ unite (member a) (members_of Fresh es)
held_is a [] r = refl
held_is a (d ∷ []) r = same_both (is_dash d)
  where
    same_both : (b : Bool) → cond b (unite (member a) (unite (member d) (Some empty)))
        (unite (member a) (unite (member d) (Some empty))) ≡ unite (member a) (unite (member d) (Some empty))
    same_both true = refl
    same_both false = refl
held_is a (d ∷ b ∷ es) r = chosen_false _ _ _ _ r refl

ranged_is : (es : List Element) → ranges es ≡ false → members_of Ranged es ≡ members_of Fresh es
ranged_is [] r = refl
ranged_is (d ∷ []) r = same_both (is_dash d)
  where
    same_both : (b : Bool) → cond b (unite (member d) (Some empty)) (unite (member d) (Some empty)) ≡ unite (member d)
        (Some empty)
    same_both true = refl
    same_both false = refl
ranged_is (d ∷ b ∷ es) r = chosen_false _ _ _ _ r refl

members_again : {es : List Element} {s : Bytes} → MembersOf es s → members_of Fresh es ≡ Some s
members_again B.none = refl
members_again (B.alone {a = a} {es = es} {s = s} {t = t} m r h) = held_is a es r ∙ rw (m, members_again h) refl
members_again (B.range {a = a} {d = d} {b = b} {es = es} {m = m} {n = n} {t = t} x ea eb le r h) =
    chosen_true _ _ _ _ x (rw (ea, eb, ranged_is es r, members_again h) (within m n t le))
  where
    within : (m n : ℕ) (t : Bytes) → m ≤ n
        → unite (cond (leb m n) (Some (between m n)) None) (Some t) ≡ Some (union (between m n) t)
    within m n t le = let f : leb m n ≡ true = grind (arith, nat_tests) in rw f refl

unite_is : (a b : Option Bytes) (s : Bytes) → unite a b ≡ Some s → (x y : Bytes) × (a ≡ Some x) × (b ≡ Some y)
    × (union x y ≡ s)
unite_is None b s e = no_set s e
  where
    no_set : {A : Type 0} (s : Bytes) → ◌≡◌ {A = Option Bytes} None (Some s) → A
    no_set s e = absurd (let f : ⊥ = cc in f)
unite_is (Some x) None s e = absurd (let f : ⊥ = cc in f)
unite_is (Some x) (Some y) s e = (x, y, refl, refl, let f : union x y ≡ s = cc in f)

no_set : {A : Type 0} (s : Bytes) → ◌≡◌ {A = Option Bytes} None (Some s) → A
no_set s e = absurd (differ e)
  where
    differ : ◌≡◌ {A = Option Bytes} None (Some s) → ⊥
    differ e = cc

range_is : (a b : Option ℕ) (s : Bytes) → range_of a b ≡ Some s → (m n : ℕ) × (a ≡ Some m) × (b ≡ Some n) × (m ≤ n)
    × (between m n ≡ s)
range_is None b s e = no_set s e
range_is (Some m) None s e = no_set s e
range_is (Some m) (Some n) s e = elim (chosen (leb m n) _ _ _ e) [
  | inl h ↦ (m, n, refl, refl, leb-true m n h.0, (let f = h.1 in cc))
  | inr h ↦ no_set s h.1
]

ranged_stops : (es : List Element) (s : Bytes) → members_of Ranged es ≡ Some s → ranges es ≡ false
ranged_stops [] s e = refl
ranged_stops (d ∷ []) s e = refl
ranged_stops (d ∷ b ∷ es) s e = elim (chosen (is_dash d) _ _ _ e) [ inl h ↦ no_set s h.1 | inr h ↦ h.0 ]

members_take : (k : ℕ) (es : List Element) (s : Bytes) → length es ≤ k → members_of Fresh es ≡ Some s → MembersOf es s
members_take k [] s l e = let f : empty ≡ s = cc in subst (MembersOf []) f B.none
members_take zero (a ∷ es) s l e = absurd (omega arith)
members_take (suc k) (a ∷ es) s l e = go es (ranges es) refl (omega arith) e (members_take k)
  where
    go : (es : List Element) (b : Bool) → ranges es ≡ b → length es ≤ k → members_of (Held a) es ≡ Some s
        → ((es : List Element) (s : Bytes) → length es ≤ k → members_of Fresh es ≡ Some s → MembersOf es s)
        → MembersOf (a ∷ es) s
    go es false r l e ih =
        let (x, y, ax, ey, u) = unite_is (member a) (members_of Fresh es) s (sym (held_is a es r) ∙ e) in
        subst (MembersOf (a ∷ es)) u (B.alone ax r (ih es y l ey))
    go [] true r l e ih = absurd (false≢true r)
    go (d ∷ []) true r l e ih = absurd (false≢true r)
    go (d ∷ b ∷ es) true r l e ih =
        let (x, y, ax, ey, u) = unite_is (range_of (end_point a) (end_point b)) (members_of Ranged es) s
        (sym (chosen_true _ _ _ _ r refl) ∙ e) in
        let (m, n, am, bn, le, w) = range_is (end_point a) (end_point b) x ax in
        let stop = ranged_stops es y ey in
        subst (MembersOf (a ∷ d ∷ b ∷ es)) (ap (λ z. union z y) w ∙ u)
        (B.range r am bn le stop (ih es y (omega arith) (sym (ranged_is es stop) ∙ ey)))

pub bracket_again : (fold : Bool) (t : List ℕ) (s : Bytes) (rest : List ℕ) → IsBracket fold t s
    → bracket fold (t ++ rest) ≡ Some (s, rest)
unfolding bracket
bracket_again fold t s rest (B.plain {t = u} {es = es} {s = set} n i m) = plain u n i (inside_some i)
  where
    plain : (u : List ℕ) → negates u ≡ false → Inside true u es → (b : ℕ) × (v : List ℕ) × (u ≡ b ∷ v)
        → bracket fold (91 ∷ u ++ rest) ≡ Some (folded fold set, rest)
    plain [] n i f = absurd (let (b, v, e) = f in let g : [] ≡ b ∷ v = e in cc)
    plain (c ∷ v) n i f =
        chosen_false _ _ _ _ n
        (ap (set_of fold same) (inside_again i (length (v ++ rest) + 1) rest (omega (arith, length-append v rest)))
        ∙ rw (members_again m) refl)
bracket_again fold t s rest (B.negated {t = u} {es = es} {s = set} i m) =
    ap (set_of fold complement) (inside_again i (length (u ++ rest)) rest (omega (arith, length-append u rest)))
    ∙ rw (members_again m) refl

pub bracket_front : (fold : Bool) (t : List ℕ) (s : Bytes) → IsBracket fold t s → (u : List ℕ) × (t ≡ 91 ∷ u)
bracket_front fold t s (B.plain {t = u} n i m) = (u, refl)
bracket_front fold t s (B.negated {t = u} i m) = (94 ∷ u, refl)

set_taken : (fold : Bool) (f : Bytes → Bytes) (n : ℕ) (t : List ℕ) (s : Bytes) (rest : List ℕ)
    → set_of fold f (inside_at n true t) ≡ Some (s, rest) → (w : List ℕ) × (es : List Element) × (set : Bytes)
    × (t ≡ w ++ rest) × Inside true w es × MembersOf es set × (f (folded fold set) ≡ s)
set_taken fold f n t s rest e = go (inside_at n true t) refl e
  where
    Result : Type 0
    Result = (w : List ℕ) × (es : List Element) × (set : Bytes) × (t ≡ w ++ rest) × Inside true w es × MembersOf es set
        × (f (folded fold set) ≡ s)

    differ : ◌≡◌ {A = Option (Bytes × List ℕ)} None (Some (s, rest)) → ⊥
    differ e = cc

    bytes_or : Option (Bytes × List ℕ) → Bytes
    bytes_or None = s
    bytes_or (Some x) = x.0

    left_or : Option (Bytes × List ℕ) → List ℕ
    left_or None = rest
    left_or (Some x) = x.1

    with_rest : List ℕ → Bytes → Option (Bytes × List ℕ)
    with_rest r x = Some (f (folded fold x), r)

    found : (es : List Element) (r : List ℕ) → inside_at n true t ≡ Some (es, r) → (o : Option Bytes)
        → members_of Fresh es ≡ o → option_and_then (with_rest r) o ≡ Some (s, rest) → Result
    found es r g None m h = absurd (differ h)
    found es r g (Some x) m h =
        let (w, tw, i) = inside_takes n true t es r g in (
          w,
          es,
          x,
          tw ∙ ap (λ y. w ++ y) (ap left_or h),
          i,
          members_take (length es) es x (omega arith) m,
          ap bytes_or h,
        )

    go : (o : Elements) → inside_at n true t ≡ o → set_of fold f o ≡ Some (s, rest) → Result
    go None g h = absurd (differ h)
    go (Some x) g h = found x.0 x.1 g (members_of Fresh x.0) refl h

pub bracket_takes : (fold : Bool) (t : List ℕ) (s : Bytes) (rest : List ℕ) → bracket fold (91 ∷ t) ≡ Some (s, rest)
    → (w : List ℕ) × (91 ∷ t ≡ w ++ rest) × IsBracket fold w s
unfolding bracket
bracket_takes fold [] s rest e = absurd (differ e)
  where
    differ : ◌≡◌ {A = Option (Bytes × List ℕ)} None (Some (s, rest)) → ⊥
    differ e = cc
bracket_takes fold (c ∷ t) s rest e = elim (chosen (eqb c 94) _ _ _ e) [
  | inl h ↦ (
      let (w, es, set, tw, i, m, f) = set_taken fold complement (length t) t s rest h.1 in (
        91 ∷ 94 ∷ w,
        rw (eqb-true c 94 h.0) (ap (λ y. 91 ∷ 94 ∷ y) tw),
        subst (IsBracket fold (91 ∷ 94 ∷ w)) f (B.negated i m),
      ))
  | inr h ↦ (
      let (w, es, set, tw, i, m, f) = set_taken fold same (length t + 1) (c ∷ t) s rest h.1 in (
        91 ∷ w,
        ap (λ y. 91 ∷ y) tw,
        subst (IsBracket fold (91 ∷ w)) f
            (B.plain (no_caret w tw (inside_some i) h.0) i m),
      ))
]
  where
    no_caret : (w : List ℕ) → c ∷ t ≡ w ++ rest → (b : ℕ) × (u : List ℕ) × (w ≡ b ∷ u) → eqb c 94 ≡ false
        → negates w ≡ false
    no_caret [] tw f h = absurd (let (b, v, e) = f in let g : [] ≡ b ∷ v = e in cc)
    no_caret (x ∷ w) tw f h = let cx : c ≡ x = cc in subst (λ y. eqb y 94 ≡ false) cx h
