-- The bounds that are read are those that are spelled.
use Rattle.std.proofs.Common.{ℕ, ◌≡◌, ◌<◌, ◌≤◌, ◌+◌, ◌-◌, ◌*◌, Bool, true, false, cond, ◌&&◌, eqb, leb, List, [], ◌∷◌}
use Rattle.std.proofs.Common.{◌++◌, length, Option, Some, None, option_and_then, ◌⊎◌, inl, inr, refl, sym, ap, ◌∙◌}
use Rattle.std.proofs.Common.{subst, append_assoc, arith}
use Rattle.std.specs.List.{list_all}
use Rattle.std.proofs.lemmas.Bool.{eqb-true, eq-eqb, ne_eqb, leb-true, false≢true}
use Rattle.std.proofs.lemmas.Bool.Decides.{nat_tests}
use Rattle.pg_grammar.specs.Intervals as I
use Rattle.pg_bytes.specs.Classes.{digit}
use Rattle.pg_grammar.specs.Intervals.{decimal, IsNumber, IsBounds}
use Rattle.pg_syntax.specs.IntervalReading.{number_from, small, number_at, strip, Bounds, closed_by, or_else, upper_at}
use Rattle.pg_syntax.specs.IntervalReading.{most_at, least_at, bounds}

pub chosen : {A : Type 0} (b : Bool) (x y z : A) → cond b x y ≡ z → ((b ≡ true) × (x ≡ z)) ⊎ ((b ≡ false) × (y ≡ z))
chosen true x y z e = inl (refl, e)
chosen false x y z e = inr (refl, e)

pub both : (x y : Bool) → (x && y) ≡ true → (x ≡ true) × (y ≡ true)
both true y e = (refl, e)
both false y e = absurd (false≢true e)

-- the digits at the front
digits_run : (n : ℕ) (ds : List ℕ) (b : ℕ) (rest : List ℕ) → list_all digit ds ≡ true → digit b ≡ false
    → number_from n (ds ++ b ∷ rest) ≡ (decimal n ds, b ∷ rest)
digits_run n [] b rest a e = rw e refl
digits_run n (c ∷ ds) b rest a e = let h = both (digit c) _ a in let f =
    h.0 in rw f (digits_run (10 * n + (c - 48)) ds b rest h.1 e)

Taken : ℕ → List ℕ → ℕ × List ℕ → Type 0
Taken n t x = (ds : List ℕ) × (t ≡ ds ++ x.1) × (list_all digit ds ≡ true) × (decimal n ds ≡ x.0)

one_more : (n c : ℕ) (t : List ℕ) (b : Bool) → digit c ≡ b
    → Taken (10 * n + (c - 48)) t (number_from (10 * n + (c - 48)) t)
    → Taken n (c ∷ t) (cond b (number_from (10 * n + (c - 48)) t) (n, c ∷ t))
unfolding Taken
one_more n c t true e h = let (ds, f, a, v) = h in (c ∷ ds, ap (λ y. c ∷ y) f, rw e a, v)
one_more n c t false e h = ([], refl, refl, refl)

digits_taken : (n : ℕ) (t : List ℕ) → Taken n t (number_from n t)
unfolding Taken
digits_taken n [] = ([], refl, refl, refl)
digits_taken n (c ∷ t) = one_more n c t (digit c) refl (digits_taken (10 * n + (c - 48)) t)

pub chosen_true : {A : Type 0} (b : Bool) (x y z : A) → b ≡ true → x ≡ z → cond b x y ≡ z
chosen_true true x y z e h = h
chosen_true false x y z e h = absurd (false≢true e)

pub chosen_false : {A : Type 0} (b : Bool) (x y z : A) → b ≡ false → y ≡ z → cond b x y ≡ z
chosen_false true x y z e h = absurd (false≢true (sym e))
chosen_false false x y z e h = h

fits : (m : ℕ) (r : List ℕ) → m ≤ 255 → small (m, r) ≡ Some (m, r)
fits m r h = grind (arith, nat_tests)

number_again : (t : List ℕ) (m b : ℕ) (rest : List ℕ) → IsNumber t m → digit b ≡ false
    → number_at (t ++ b ∷ rest) ≡ Some (m, b ∷ rest)
unfolding number_at
number_again [] m b rest h e = absurd (h.some refl)
number_again (c ∷ t) m b rest h e =
    let d = (both (digit c) _ h.digits).0 in
    let run = digits_run 0 (c ∷ t) b rest h.digits e in
    let f : number_from 0 (c ∷ t ++ b ∷ rest) ≡ (m, b ∷ rest) = run ∙ ap (λ y. (y, b ∷ rest)) h.value in
    chosen_true _ _ _ _ d (ap small f ∙ fits m (b ∷ rest) h.small)

abbrev value_or : ℕ → Option (ℕ × List ℕ) → ℕ
value_or d None = d
value_or d (Some x) = x.0

abbrev left_or : List ℕ → Option (ℕ × List ℕ) → List ℕ
left_or d None = d
left_or d (Some x) = x.1

no_number : {A : Type 0} (m : ℕ) (rest : List ℕ) → ◌≡◌ {A = Option (ℕ × List ℕ)} None (Some (m, rest)) → A
no_number m rest e = absurd (differ e)
  where
    differ : ◌≡◌ {A = Option (ℕ × List ℕ)} None (Some (m, rest)) → ⊥
    differ e = cc

small_is : (x : ℕ × List ℕ) (m : ℕ) (rest : List ℕ) → small x ≡ Some (m, rest) → (x.0 ≡ m) × (x.1 ≡ rest) × (m ≤ 255)
small_is x m rest e = elim (chosen (leb x.0 255) _ _ _ e) [
  | inl h ↦ (let f = ap (value_or 0) h.1 in let g = ap (left_or []) h.1 in let l =
      leb-true x.0 255 h.0 in (f, g, subst (λ y. y ≤ 255) f l))
  | inr h ↦ no_number m rest h.1
]

number_takes : (t : List ℕ) (m : ℕ) (rest : List ℕ) → number_at t ≡ Some (m, rest) → (w : List ℕ) × (t ≡ w ++ rest)
    × IsNumber w m
unfolding number_at Taken
number_takes [] m rest e = no_number m rest e
number_takes (c ∷ t) m rest e = elim (chosen (digit c) _ _ _ e) [
  | inl h ↦ (
      let (ds, f, a, v) = digits_taken (10 * 0 + (c - 48)) t in
      let x = number_from (10 * 0 + (c - 48)) t in
      let is : number_from 0 (c ∷ t) ≡ x = chosen_true _ _ _ _ h.0 refl in
      let (xm, xr, le) = small_is x m rest (sym (ap small is) ∙ h.1) in (
        c ∷ ds,
        ap (λ y. c ∷ y) (f ∙ ap (λ y. ds ++ y) xr),
        record { some = not_nil ds; digits = rw h.0 a; value = v ∙ xm; small = le },
      ))
  | inr h ↦ no_number m rest h.1
]
  where
    not_nil : (ds : List ℕ) → c ∷ ds ≡ [] → ⊥
    not_nil ds e = cc

strip_again : (cs rest : List ℕ) → strip cs (cs ++ rest) ≡ Some rest
strip_again [] rest = refl
strip_again (c ∷ cs) rest = rw (eq-eqb c c refl) (strip_again cs rest)

strip_takes : (cs t rest : List ℕ) → strip cs t ≡ Some rest → t ≡ cs ++ rest
strip_takes [] t rest e = cc
strip_takes (c ∷ cs) [] rest e = cc
strip_takes (c ∷ cs) (b ∷ t) rest e = elim
    (chosen (eqb b c) _ _ _ e) [
      | inl h ↦ (let f = strip_takes cs t rest h.1 in let g = eqb-true b c h.0 in cc)
      | inr h ↦
          no h.1
    ]
  where
    no : ◌≡◌ {A = Option (List ℕ)} None (Some rest) → b ∷ t ≡ c ∷ cs ++ rest
    no e = cc

strip_other : (b c : ℕ) (cs t : List ℕ) → eqb b c ≡ false → strip (c ∷ cs) (b ∷ t) ≡ None
strip_other b c cs t e = chosen_false _ _ _ _ e refl

pub bounds_again : (c : ℕ) (cs : List ℕ) → digit c ≡ false → eqb 44 c ≡ false
    → (t : List ℕ) (m : ℕ) (n : Option ℕ) (rest : List ℕ) → IsBounds t m n
    → bounds (c ∷ cs) (t ++ (c ∷ cs ++ rest)) ≡ Some (m, n, rest)
unfolding bounds
bounds_again c cs d k t m n rest (I.exactly {m = m'} h) =
    ap (least_at (c ∷ cs)) (number_again _ m' c (cs ++ rest) h d) ∙ rw (strip_again (c ∷ cs) rest) refl
bounds_again c cs d k t m n rest (I.at_least {t = u} {m = m'} h) =
    ap (bounds (c ∷ cs)) (append_assoc u (44 ∷ []) (c ∷ cs ++ rest)) ∙
    (ap (least_at (c ∷ cs)) (number_again u m' 44 (c ∷ cs ++ rest) h refl) ∙
    rw (strip_other 44 c cs (c ∷ cs ++ rest) k, strip_again (c ∷ cs) rest) refl)
bounds_again c cs d k t m n rest (I.from_to {t = u} {u = v} {m = m'} {n = n'} h g le) =
    ap (bounds (c ∷ cs)) (append_assoc u (44 ∷ v) (c ∷ cs ++ rest)) ∙
    (ap (least_at (c ∷ cs)) (number_again u m' 44 (v ++ (c ∷ cs ++ rest)) h refl) ∙
    rw (
      strip_other 44 c cs (v ++ (c ∷ cs ++ rest)) k,
      not_closed v g,
      number_again v n' c (cs ++ rest) g d,
      within,
      strip_again (c ∷ cs) rest,
    ) refl)
  where
    within : leb m' n' ≡ true
    within = grind (arith, nat_tests)

    not_closed : (v : List ℕ) → IsNumber v n' → strip (c ∷ cs) (v ++ (c ∷ cs ++ rest)) ≡ None
    not_closed [] g = absurd (g.some refl)
    not_closed (x ∷ v) g =
        let f = (both (digit x) _ g.digits).0 in
        strip_other x c cs (v ++ (c ∷ cs ++ rest)) (ne_eqb x c (λ e. false≢true (sym d ∙ (ap digit (sym e) ∙ f))))

no_bounds : {A : Type 0} (x : ℕ × Option ℕ × List ℕ) → ◌≡◌ {A = Bounds} None (Some x) → A
no_bounds x e = absurd (differ e)
  where
    differ : ◌≡◌ {A = Bounds} None (Some x) → ⊥
    differ e = cc

Read : List ℕ → List ℕ → ℕ → Option ℕ → List ℕ → Type 0
Read close t m n rest = (w : List ℕ) × (t ≡ (w ++ close) ++ rest) × IsBounds w m n

abbrev onto : ℕ → Option ℕ → List ℕ → Bounds
onto m n rest = Some (m, n, rest)

or_is : (a b : Bounds) (x : ℕ × Option ℕ × List ℕ) → or_else a b ≡ Some x → (a ≡ Some x) ⊎ (b ≡ Some x)
or_is None b x e = inr e
or_is (Some a) b x e = inl e

closed_is : (close : List ℕ) (m m' : ℕ) (n n' : Option ℕ) (t rest : List ℕ)
    → closed_by close m n t ≡ Some (m', n', rest) → (m ≡ m') × (n ≡ n') × (t ≡ close ++ rest)
closed_is close m m' n n' t rest e = go (strip close t) refl e
  where
    go : (o : Option (List ℕ)) → strip close t ≡ o → option_and_then (onto m n) o ≡ Some (m', n', rest) → (m ≡ m')
        × (n ≡ n') × (t ≡ close ++ rest)
    go None f h = no_bounds _ h
    go (Some r) f h =
        let g : r ≡ rest = ap (λ (x : Bounds). elim x [ None ↦ rest | Some y ↦ y.2 ]) h in (
          ap (λ (x : Bounds). elim x [ None ↦ m' | Some y ↦ y.0 ]) h,
          ap (λ (x : Bounds). elim x [ None ↦ n' | Some y ↦ y.1 ]) h,
          strip_takes close t rest (f ∙ ap Some g),
        )

pub bounds_take : (close t : List ℕ) (m : ℕ) (n : Option ℕ) (rest : List ℕ) → bounds close t ≡ Some (m, n, rest)
    → (w : List ℕ) × (t ≡ (w ++ close) ++ rest) × IsBounds w m n
unfolding bounds Read
bounds_take close t m n rest e = least (number_at t) refl e
  where
    -- after a comma
    upper : (w u : List ℕ) (k : ℕ) → IsNumber w k → t ≡ w ++ 44 ∷ u → (o : Option (ℕ × List ℕ)) → number_at u ≡ o
        → upper_at close k o ≡ Some (m, n, rest) → Read close t m n rest
    upper w u k h f None g e = no_bounds _ e
    upper w u k h f (Some x) g e = elim (chosen (leb k x.0) _ _ _ e) [
      | inl y ↦ (
          let (km, xn, xt) = closed_is close k m (Some x.0) n x.1 rest y.1 in
          let (v, vu, number) = number_takes u x.0 x.1 g in
          let le = leb-true k x.0 y.0 in (
            w ++ 44 ∷ v,
            joined w u v x.1 f vu xt,
            subst (λ z. IsBounds (w ++ 44 ∷ v) z n) km
                (subst (λ z. IsBounds (w ++ 44 ∷ v) k z) xn (I.from_to h number le)),
          ))
      | inr y ↦ no_bounds _ y.1
    ]
      where
        joined : (w u v r : List ℕ) → t ≡ w ++ 44 ∷ u → u ≡ v ++ r → r ≡ close ++ rest
            → t ≡ ((w ++ 44 ∷ v) ++ close) ++ rest
        joined w u v r f g h = rw (f, g, h) (simp append_assoc)

    most : (w u : List ℕ) (k : ℕ) → IsNumber w k → t ≡ w ++ u → most_at close k u ≡ Some (m, n, rest)
        → Read close t m n rest
    most w [] k h f e = no_bounds _ e
    most w (c ∷ u) k h f e = elim (chosen (eqb c 44) _ _ _ e) [
      | inl y ↦ (
          let comma : t ≡ w ++ 44 ∷ u = f ∙ ap (λ z. w ++ z ∷ u) (eqb-true c 44 y.0) in
          elim (or_is (closed_by close k None u) _ _ y.1) [
            | inl z ↦ (
                let (km, xn, xt) = closed_is close k m None n u rest z in (
                  w ++ 44 ∷ [],
                  open_end w u comma xt,
                  subst (λ y. IsBounds (w ++ 44 ∷ []) y n) km
                      (subst (λ y. IsBounds (w ++ 44 ∷ []) k y) xn (I.at_least h)),
                ))
            | inr z ↦ upper w u k h comma (number_at u) refl z
          ])
      | inr y ↦ no_bounds _ y.1
    ]
      where
        open_end : (w u : List ℕ) → t ≡ w ++ 44 ∷ u → u ≡ close ++ rest → t ≡ ((w ++ 44 ∷ []) ++ close) ++ rest
        open_end w u f g = rw (f, g) (simp append_assoc)

    least : (o : Option (ℕ × List ℕ)) → number_at t ≡ o → least_at close o ≡ Some (m, n, rest) → Read close t m n rest
    least None f h = no_bounds _ h
    least (Some x) f h =
        let (w, tw, number) = number_takes t x.0 x.1 f in
        elim (or_is (closed_by close x.0 (Some x.0) x.1) _ _ h) [
          | inl z ↦ (
              let (km, xn, xt) = closed_is close x.0 m (Some x.0) n x.1 rest z in (
                w,
                tw ∙ (ap (λ y. w ++ y) xt ∙ sym (append_assoc w close rest)),
                subst (λ y. IsBounds w y n) km (subst (λ y. IsBounds w x.0 y) xn (I.exactly number)),
              ))
          | inr z ↦ most w x.1 x.0 number tw z
        ]

-- in the code's words
pub number_found : (t r : List ℕ) (n : ℕ) → number_from 0 t ≡ (n, r) → length r < length t → n ≤ 255
    → number_at t ≡ Some (n, r)
unfolding number_at
number_found [] r n e l s = absurd (omega arith)
number_found (c ∷ t) r n e l s = go (digit c) refl
  where
    second : ℕ × List ℕ → List ℕ
    second x = x.1

    go : (b : Bool) → digit c ≡ b → cond (digit c) (small (number_from 0 (c ∷ t))) None ≡ Some (n, r)
    go true d = chosen_true _ _ _ _ d (ap small e ∙ fits n r s)
    go false d =
        let f : number_from 0 (c ∷ t) ≡ (0, c ∷ t) = chosen_false _ _ _ _ d refl in
        let g : c ∷ t ≡ r = ap second (sym f ∙ e) in
        absurd (omega (arith, ap length g))

pub number_stops : (n : ℕ) (t : List ℕ) → (t ≡ []) ⊎ ((c : ℕ) × (u : List ℕ) × (t ≡ c ∷ u) × (digit c ≡ false))
    → number_from n t ≡ (n, t)
number_stops n t (inl e) = subst (λ y. number_from n y ≡ (n, y)) (sym e) refl
number_stops n t (inr f) = let (c, u, e, d) =
    f in subst (λ y. number_from n y ≡ (n, y)) (sym e) (chosen_false _ _ _ _ d refl)
