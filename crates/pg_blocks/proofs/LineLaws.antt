-- Bytes have exactly one list of lines.
use Rattle.std.proofs.Common.{◌≡◌, ◌≢◌, ℕ, zero, suc, ◌<◌, ◌⊎◌, get_or, inl, inr, List, [], ◌∷◌, ◌++◌, length, refl}
use Rattle.std.proofs.Common.{sym, ap, ◌∙◌, subst, arith, append_assoc}
use Rattle.std.specs.List.{AllByRecursion}
use Rattle.std.proofs.lemmas.List.{append-nil}
use Rattle.pg_blocks.specs.Lines.{lines, terminated, IsLine, AreLines, EndsIncomplete}
use Rattle.pg_blocks.proofs.LineLemmas.{Made, none, ended, alone, onto, made, lines-line, lines-alone}

empty_line : (end : ℕ) → IsLine end []
empty_line end c = omega (arith, c.1)

one_byte : (end b : ℕ) → b ≢ end → (k : ℕ) → k < 1 → get_or (b ∷ []) k end ≡ end → ⊥
one_byte end b ne zero h e = ne e
one_byte end b ne (suc k) h e = omega arith

longer_line : (end b : ℕ) (l : List ℕ) → b ≢ end → IsLine end l → (k : ℕ) → k < length (b ∷ l)
    → get_or (b ∷ l) k end ≡ end → ⊥
longer_line end b l ne h zero below e = ne e
longer_line end b l ne h (suc k) below e = h (k, omega arith, e)

each_made : (end : ℕ) (bytes : List ℕ) (ls : List (List ℕ)) → Made end bytes ls → AllByRecursion (IsLine end) ls
each_made end _ _ none = tt
each_made end _ _ (ended {bytes} {ls} m) = (empty_line end, each_made end bytes ls m)
each_made end _ _ (alone {b} ne) = ((λ c. one_byte end b ne c.0 c.1 c.2), tt)
each_made end _ _ (onto {b} {bytes} {l} {ls} ne m) = let h =
    each_made end bytes (l ∷ ls) m in ((λ c. longer_line end b l ne h.0 c.0 c.1 c.2), h.1)

abbrev Whole : ℕ → List ℕ → List (List ℕ) → Type 0
Whole end bytes ls = (bytes ≡ terminated end ls) ⊎ EndsIncomplete end bytes ls

behind_ended : (end : ℕ) (bytes : List ℕ) (ls : List (List ℕ)) → Whole end bytes ls → Whole end (end ∷ bytes) ([] ∷ ls)
behind_ended end bytes ls (inl e) = inl (ap (λ bs. end ∷ bs) e)
behind_ended end bytes ls (inr h) = inr (record {
  front = [] ∷ h.front;
  last = h.last;
  some = h.some;
  joins = ap (λ ts. [] ∷ ts) h.joins;
  whole = ap (λ bs. end ∷ bs) h.whole;
})

onto_incomplete : (end b : ℕ) (bytes l : List ℕ) (ls front : List (List ℕ)) (last : List ℕ) → last ≢ []
    → l ∷ ls ≡ front ++ last ∷ [] → bytes ≡ terminated end front ++ last
    → EndsIncomplete end (b ∷ bytes) ((b ∷ l) ∷ ls)
onto_incomplete end b bytes l ls [] last some joins whole =
    let same : l ≡ last = cc in
    let rest : ls ≡ [] = cc in
    record { front = []; last = b ∷ last; some = λ e. absurd (cc); joins = cc; whole = ap (λ bs. b ∷ bs) whole }
onto_incomplete end b bytes l ls (f ∷ front) last some joins whole =
    let same : l ≡ f = cc in
    let rest : ls ≡ front ++ last ∷ [] = cc in
    record { front = (b ∷ f) ∷ front; last = last; some = some; joins = cc; whole = ap (λ bs. b ∷ bs) whole }

behind_onto : (end b : ℕ) (bytes l : List ℕ) (ls : List (List ℕ)) → Whole end bytes (l ∷ ls)
    → Whole end (b ∷ bytes) ((b ∷ l) ∷ ls)
behind_onto end b bytes l ls (inl e) = inl (ap (λ bs. b ∷ bs) e)
behind_onto end b bytes l ls (inr h) = inr (onto_incomplete end b bytes l ls h.front h.last h.some h.joins h.whole)

whole_made : (end : ℕ) (bytes : List ℕ) (ls : List (List ℕ)) → Made end bytes ls → Whole end bytes ls
whole_made end _ _ none = inl refl
whole_made end _ _ (ended {bytes} {ls} m) = behind_ended end bytes ls (whole_made end bytes ls m)
whole_made end _ _ (alone {b} ne) = inr (record
    { front = []; last = b ∷ []; some = λ e. absurd (cc); joins = refl; whole = refl })
whole_made end _ _ (onto {b} {bytes} {l} {ls} ne m) = behind_onto end b bytes l ls (whole_made end bytes (l ∷ ls) m)

pub lines_are_lines : (end : ℕ) (bytes : List ℕ) → AreLines end bytes (lines end bytes)
lines_are_lines end bytes = record {
  each = each_made end bytes (lines end bytes) (made end bytes);
  whole =
      whole_made end bytes (lines end bytes) (made end bytes);
}

-- texts that are lines, each with the terminator, in front of others
lines-texts : (end : ℕ) (texts : List (List ℕ)) (rest : List ℕ) → AllByRecursion (IsLine end) texts
    → lines end (terminated end texts ++ rest) ≡ texts ++ lines end rest
lines-texts end [] rest h = refl
lines-texts end (l ∷ texts) rest h =
    ap (lines end) (append_assoc (l ++ end ∷ []) (terminated end texts) rest
    ∙ append_assoc l (end ∷ []) (terminated end texts ++ rest))
    ∙ (lines-line end l (terminated end texts ++ rest) h.0 ∙ ap (λ ls. l ∷ ls) (lines-texts end texts rest h.1))

each_front : (end : ℕ) (front : List (List ℕ)) (last : List ℕ) → AllByRecursion (IsLine end) (front ++ last ∷ [])
    → AllByRecursion (IsLine end) front × IsLine end last
each_front end [] last h = (tt, h.0)
each_front end (l ∷ front) last h = let r = each_front end front last h.1 in ((h.0, r.0), r.1)

pub some_bytes : (xs : List ℕ) → xs ≢ [] → 0 < length xs
some_bytes [] ne = absurd (ne refl)
some_bytes (x ∷ xs) ne = omega arith

one_whole : (end : ℕ) (bytes : List ℕ) (texts : List (List ℕ)) → AllByRecursion (IsLine end) texts
    → Whole end bytes texts → texts ≡ lines end bytes
one_whole end bytes texts each (inl e) =
    sym (ap (lines end) (e ∙ sym (append-nil (terminated end texts)))
    ∙ (lines-texts end texts [] each ∙ append-nil texts))
one_whole end bytes texts each (inr h) =
    let P : List (List ℕ) → Type 0 = λ ts. AllByRecursion (IsLine end) ts in
    let apart = each_front end h.front h.last (subst P h.joins each) in
    h.joins ∙ sym (ap (lines end) h.whole
    ∙ (lines-texts end h.front h.last apart.0
    ∙ ap (λ ls. h.front ++ ls) (lines-alone end h.last (some_bytes h.last h.some) apart.1)))

pub lines_are_one : (end : ℕ) (bytes : List ℕ) (texts : List (List ℕ)) → AreLines end bytes texts
    → texts ≡ lines end bytes
lines_are_one end bytes texts h = one_whole end bytes texts h.each h.whole
