-- Merges: how long they are, and how one is made of numbered values.
use Rattle.std.proofs.Common.{◌≡◌, ◌≢◌, ℕ, zero, suc, Bool, ◌+◌, ◌<◌, ◌≤◌, List, [], ◌∷◌, ◌++◌, length, map, set, sym}
use Rattle.std.proofs.Common.{refl, ap, ◌∙◌, subst, arith, if◌then◌else◌, ◌==◌, eq-eqb, ne_eqb, length-append}
use Rattle.std.proofs.Common.{slice_index_or}
use Rattle.std.specs.List.{AllByRecursion}
use Rattle.std.proofs.lemmas.List.{length-map}
use mathlib.Core.Option.{some, some-injective, some-ne-none}
use lib.ListN.{get_elem?}
use native.Mathlib.Decide.{ℕ_discrete, dec_lt}
use mathlib.Core.Logic.{dite}
use Rattle.std.proofs.lemmas.Bool.Decides.{nat_tests}
use Rattle.pg_board.specs.declared.puts.Entry.{Entry}
use Rattle.pg_board.specs.declared.puts.Puts.{Puts}
use Rattle.pg_board.specs.Counts.{total, once_below}
use Rattle.pg_board.specs.Merge.{given_to, IsMerge}
use Rattle.pg_board.specs.TrayRule.{put_by, values_in, lists_of, passes_numbered}
use Rattle.pg_board.proofs.CountLemmas.{total_at}

pub all_weaker : {X : Type 0} (P Q : X → Type 0) (xs : List X) → ((x : X) → P x → Q x) → AllByRecursion P xs
    → AllByRecursion Q xs
all_weaker P Q [] f h = tt
all_weaker P Q (x ∷ xs) f h = (f x h.0, all_weaker P Q xs f h.1)

one_if : (n m : ℕ) → n ≡ m → ◌≡◌ {A = ℕ} (if n == m then 1 else 0) 1
one_if n m e = ap (λ (b : Bool). if b then 1 else 0) (eq-eqb n m e)

none_if : (n m : ℕ) → n ≢ m → ◌≡◌ {A = ℕ} (if n == m then 1 else 0) 0
none_if n m ne = ap (λ (b : Bool). if b then 1 else 0) (ne_eqb n m ne)

module _ {T : Type 0} where
  -- where every member was given away, the lists are empty
  none_left : (ls : List (List T)) → ((k : ℕ) → slice_index_or ls k [] ≡ []) → total (λ (l : List T). length l) ls ≡ 0
  none_left [] h = refl
  none_left (l ∷ ls) h = let a : length l ≡ 0 = ap (length {A = T}) (h 0) in let b =
      none_left ls (λ k. h (suc k)) in omega arith

  -- the list k loses its first member
  shorter : (ls : List (List T)) (k : ℕ) (x : T) (l : List T) → slice_index_or ls k [] ≡ x ∷ l
      → total (λ (l : List T). length l) ls ≡ total (λ (l : List T). length l) (set ls k l) + 1
  shorter [] k x l e = absurd (cc)
  shorter (m ∷ ls) zero x l e = let a : length m ≡ length l + 1 = ap (length {A = T}) e ∙ (omega arith) in omega arith
  shorter (m ∷ ls) (suc k) x l e = let a = shorter ls k x l e in omega arith

  shorter_here : (ls : List (List T)) (k : ℕ) (x : T) (l : List T) → slice_index_or ls k [] ≡ x ∷ l
      → slice_index_or (set ls k l) k [] ≡ l
  shorter_here [] k x l e = absurd (cc)
  shorter_here (m ∷ ls) zero x l e = refl
  shorter_here (m ∷ ls) (suc k) x l e = shorter_here ls k x l e

  shorter_else : (ls : List (List T)) (k j : ℕ) (l : List T) → k ≢ j
      → slice_index_or (set ls k l) j [] ≡ slice_index_or ls j []
  shorter_else [] k j l ne = refl
  shorter_else (m ∷ ls) zero zero l ne = absurd (ne refl)
  shorter_else (m ∷ ls) zero (suc j) l ne = refl
  shorter_else (m ∷ ls) (suc k) zero l ne = refl
  shorter_else (m ∷ ls) (suc k) (suc j) l ne = shorter_else ls k j l (λ e. ne (ap suc e))

  given_length : (given : List (ℕ × T)) (ls : List (List T)) → ((k : ℕ) → given_to k given ≡ slice_index_or ls k [])
      → length given ≡ total (λ (l : List T). length l) ls
  given_length [] ls h = sym (none_left ls (λ k. sym (h k)))
  given_length (g ∷ given) ls h =
      let k : ℕ = g.0 in let later : List T = given_to k given in
      let here : g.1 ∷ later ≡ slice_index_or ls k [] =
      ap (λ (b : Bool). if b then g.1 ∷ later else later) (sym (eq-eqb k k refl)) ∙ h k in
      let rest = given_length given (set ls k later) (λ j. dite (ℕ_discrete k j)
      (λ is. subst (λ (i : ℕ). given_to i given ≡ slice_index_or (set ls k later) i []) is
      (sym (shorter_here ls k g.1 later (sym here))))
      (λ ne. ap (λ (b : Bool). if b then g.1 ∷ given_to j given else given_to j given) (sym (ne_eqb k j ne)) ∙ h j
      ∙ sym (shorter_else ls k j later ne))) in
      let one = shorter ls k g.1 later (sym here) in omega arith

  -- a merge is as long as its lists together
  pub merge_length : (ls : List (List T)) (whole : List T) → IsMerge ls whole
      → length whole ≡ total (λ (l : List T). length l) ls
  merge_length ls whole m = ap (length {A = T}) (sym m.is_whole) ∙ length-map m.given (λ (g : ℕ × T). g.1)
      ∙ given_length m.given ls m.are_lists

  -- so it is no beginning of a longer one
  pub merge_ends : (ls : List (List T)) (front rest : List T) → IsMerge ls front → IsMerge ls (front ++ rest)
      → rest ≡ []
  merge_ends ls front [] m n = refl
  merge_ends ls front (x ∷ rest) m n = let a = merge_length ls front m in let b =
      merge_length ls (front ++ x ∷ rest) n in let c = length-append front (x ∷ rest) in absurd (omega arith)

  -- the place of the first pass with this number
  abbrev rank : ℕ → List (Puts T) → ℕ
  rank n [] = 0
  rank n (p ∷ ps) = if p.pass == n then 0 else suc (rank n ps)

  abbrev at_zero : ℕ → List (Puts T) → Bool → ℕ
  at_zero n ps b = if b then 0 else suc (rank n ps)

  counts_at : (ps : List (Puts T)) (k : ℕ) (p : Puts T) → get_elem? ps k ≡ some p → 1 ≤ passes_numbered p.pass ps
  counts_at ps k p e = let a = total_at (λ (q : Puts T). if q.pass == p.pass then 1 else 0) ps k p e in let o =
      one_if p.pass p.pass refl in omega arith

  rank_here : (ps : List (Puts T)) (k : ℕ) (p : Puts T) → get_elem? ps k ≡ some p → passes_numbered p.pass ps ≡ 1
      → rank p.pass ps ≡ k
  rank_here [] k p e one = absurd (some-ne-none p (sym e))
  rank_here (q ∷ ps) zero p e one = ap (at_zero p.pass ps)
      (eq-eqb q.pass p.pass (ap (λ (x : Puts T). x.pass) (some-injective q p e)))
  rank_here (q ∷ ps) (suc k) p e one = let later = counts_at ps k p e in dite (ℕ_discrete q.pass p.pass)
      (λ is. absurd (let o = one_if q.pass p.pass is in omega arith))
      (λ ne. ap (at_zero p.pass ps) (ne_eqb q.pass p.pass ne)
      ∙ ap suc (rank_here ps k p e (let o = none_if q.pass p.pass ne in omega arith)))

  rank_else : (ps : List (Puts T)) (k : ℕ) (p : Puts T) (n : ℕ) → get_elem? ps k ≡ some p → p.pass ≢ n → rank n ps ≢ k
  rank_else [] k p n e ne = absurd (some-ne-none p (sym e))
  rank_else (q ∷ ps) zero p n e ne = λ is.
      let r : rank n (q ∷ ps) ≡ suc (rank n ps) =
      ap (at_zero n ps) (ne_eqb q.pass n (λ x. ne (sym (ap (λ (y : Puts T). y.pass) (some-injective q p e)) ∙ x)))
      in absurd (omega arith)
  rank_else (q ∷ ps) (suc k) p n e ne = λ is. dite (ℕ_discrete q.pass n)
      (λ eq. let r : rank n (q ∷ ps) ≡ 0 = ap (at_zero n ps) (eq-eqb q.pass n eq) in absurd (omega arith))
      (λ no. let r : rank n (q ∷ ps) ≡ suc (rank n ps) =
      ap (at_zero n ps) (ne_eqb q.pass n no) in rank_else ps k p n e ne (omega arith))

  rank_within : (ps : List (Puts T)) (n : ℕ) → 1 ≤ passes_numbered n ps → rank n ps < length ps
  rank_within [] n some_pass = absurd (omega arith)
  rank_within (q ∷ ps) n some_pass = dite (ℕ_discrete q.pass n)
      (λ is. let r : rank n (q ∷ ps) ≡ 0 = ap (at_zero n ps) (eq-eqb q.pass n is) in omega arith)
      (λ ne. let r : rank n (q ∷ ps) ≡ suc (rank n ps) = ap (at_zero n ps) (ne_eqb q.pass n ne) in let w =
      rank_within ps n (let o = none_if q.pass n ne in omega arith) in omega arith)

  -- a value is given to the list of its pass
  abbrev give : List (Puts T) → Entry T → ℕ × T
  give ps e = (rank e.pass ps, e.value)

  given_list : (ps : List (Puts T)) (k : ℕ) (p : Puts T) → get_elem? ps k ≡ some p → passes_numbered p.pass ps ≡ 1
      → (es : List (Entry T)) → given_to k (map (give ps) es) ≡ put_by p.pass es
  given_list ps k p at one [] = refl
  given_list ps k p at one (e ∷ es) =
      let r = given_list ps k p at one es in
      let a : Bool → List T = λ b. if b then e.value ∷ given_to k (map (give ps) es) else given_to k
      (map (give ps) es) in
      let b : Bool → List T = λ b. if b then e.value ∷ put_by p.pass es else put_by p.pass es in dite
      (ℕ_discrete e.pass p.pass)
      (λ is. ap a (eq-eqb (rank e.pass ps) k (ap (λ (n : ℕ). rank n ps) is ∙ rank_here ps k p at one))
      ∙ ap (λ (l : List T). e.value ∷ l) r ∙ sym (ap b (eq-eqb e.pass p.pass is)))
      (λ ne. ap a (ne_eqb (rank e.pass ps) k (rank_else ps k p e.pass at (λ x. ne (sym x)))) ∙ r
      ∙ sym (ap b (ne_eqb e.pass p.pass ne)))

  given_none : (ps : List (Puts T)) (k : ℕ) → length ps ≤ k → (es : List (Entry T))
      → AllByRecursion (λ e. 1 ≤ passes_numbered e.pass ps) es → given_to k (map (give ps) es) ≡ []
  given_none ps k high [] h = refl
  given_none ps k high (e ∷ es) h =
      ap (λ (b : Bool). if b then e.value ∷ given_to k (map (give ps) es) else given_to k (map (give ps) es))
      (ne_eqb (rank e.pass ps) k (λ is. absurd (let w = rank_within ps e.pass h.0 in omega arith)))
      ∙ given_none ps k high es h.1

  pick : (P : Puts T → Type 0) (ps : List (Puts T)) (k : ℕ) → k < length ps → AllByRecursion P ps → (p : Puts T)
      × (get_elem? ps k ≡ some p) × (slice_index_or (lists_of ps) k [] ≡ p.values) × P p
  pick P [] k low h = absurd (omega arith)
  pick P (p ∷ ps) zero low h = (p, refl, refl, h.0)
  pick P (p ∷ ps) (suc k) low h = pick P ps k (omega arith) h.1

  past_end : (ps : List (Puts T)) (k : ℕ) → length ps ≤ k → slice_index_or (lists_of ps) k [] ≡ []
  past_end [] k high = refl
  past_end (p ∷ ps) zero high = absurd (omega arith)
  past_end (p ∷ ps) (suc k) high = past_end ps k (omega arith)

  values_given : (ps : List (Puts T)) (es : List (Entry T)) → map (λ (g : ℕ × T). g.1) (map (give ps) es)
      ≡ values_in es
  values_given ps [] = refl
  values_given ps (e ∷ es) = ap (λ (l : List T). e.value ∷ l) (values_given ps es)

  -- numbered values are a merge of what the passes of these numbers put
  pub merges : (ps : List (Puts T)) (made : ℕ) (whole : List (Entry T))
      → ((n : ℕ) → passes_numbered n ps ≡ once_below n made) → AllByRecursion (λ e. e.pass < made) whole
      → AllByRecursion (λ p. p.values ≡ put_by p.pass whole) ps
      → IsMerge (lists_of ps) (values_in whole)
  merges ps made whole each numbered put = record {
    given = map (give ps) whole;
    is_whole = values_given ps whole;
    are_lists = λ k. dite (dec_lt k (length ps))
        (λ low. let p = pick (λ p. p.values ≡ put_by p.pass whole) ps k low put in
        let one : passes_numbered p.0.pass ps ≡ 1 =
        (let a = counts_at ps k p.0 p.1 in let b = each p.0.pass in let c : once_below p.0.pass made ≤ 1 =
        grind (arith, nat_tests) in omega arith) in
        given_list ps k p.0 p.1 one whole ∙ sym p.3 ∙ sym p.2)
        (λ high. let h : ¬ (k < length ps) = high in
        given_none ps k (omega arith) whole
        (all_weaker (λ (e : Entry T). e.pass < made) (λ e. 1 ≤ passes_numbered e.pass ps) whole
        (λ e low. let a = each e.pass in let b : once_below e.pass made ≡ 1 =
        grind (arith, nat_tests) in omega arith) numbered)
        ∙ sym (past_end ps k (omega arith)));
  }
