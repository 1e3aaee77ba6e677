-- Where all numbers were drawn, and each worker put a result for each of its numbers, there is a result of each number.
use Rattle.std.proofs.Common.{◌≡◌, inl, inr, ℕ, zero, suc, Bool, true, false, ◌<◌, ◌≤◌, List, [], ◌∷◌, length, map, All}
use Rattle.std.proofs.Common.{slice_index_or, if◌then◌else◌, ◌==◌, flat_map, sym, refl, ap, subst, arith}
use mathlib.Core.Logic.{dite}
use native.Mathlib.Decide.{ℕ_discrete, dec_le}
use Rattle.std.proofs.lemmas.Bool.Decides.{nat_tests}
use Rattle.pg_board.specs.Counts.{times, once_below}
use Rattle.pg_board.specs.Merge.{IsMerge, given_to}
use Rattle.pg_board.specs.Board.{SeatView}
use Rattle.pg_board.specs.Tray.{PutView}
use Rattle.pg_board.proofs.CountLemmas.{total-append}
use Rattle.pg_selection.specs.Searched.{SearchedBlock}
use Rattle.pg_workers.specs.Results.{IsBlockResult, AreResultsOf, HasResultOf}
use Rattle.pg_workers.specs.Workers.{Task, AreWorks}

not_same : (m n : ℕ) → ¬ (m ≡ n) → ◌≡◌ {A = ℕ} (if m == n then 1 else 0) 0
not_same m n ne = grind (arith, nat_tests)

module _ {B F : Type 0} (finds : B → F → Type 0) (blocks : List B) (n : ℕ) where
  in_results : (ns : List ℕ) (rs : List F) → AreResultsOf finds blocks ns rs → 1 ≤ times n ns
      → HasResultOf finds blocks n rs
  in_results [] [] h k = absurd (omega arith)
  in_results [] (r ∷ rs) h k = absurd h
  in_results (m ∷ ms) [] h k = absurd h
  in_results (m ∷ ms) (r ∷ rs) h k = dite (ℕ_discrete m n)
      (λ is. inl (subst (λ (j : ℕ). IsBlockResult finds blocks j r) is h.0))
      (λ ne. let z = not_same m n ne in inr (in_results ms rs h.1 (omega arith)))

  in_either : (b : Bool) (x : F) (l m : List F) → (HasResultOf finds blocks n l → HasResultOf finds blocks n m)
      → HasResultOf finds blocks n (if b then x ∷ l else l) → HasResultOf finds blocks n (x ∷ m)
  in_either true x l m f (inl a) = inl a
  in_either true x l m f (inr a) = inr (f a)
  in_either false x l m f a = inr (f a)

  in_given : (i : ℕ) (given : List (ℕ × F)) → HasResultOf finds blocks n (given_to i given)
      → HasResultOf finds blocks n (map (λ (g : ℕ × F). g.1) given)
  in_given i [] h = h
  in_given i (g ∷ given) h = in_either (g.0 == i) g.1 (given_to i given) (map (λ (g : ℕ × F). g.1) given)
      (in_given i given) h

module _ {A C : Type 0} (t : Task A C) where
  abbrev Has : ℕ → List SearchedBlock → Type 0
  Has n rs = HasResultOf t.search.finds t.blocks n rs

  in_works : (n : ℕ) (ss : List SeatView) (ps : List (PutView SearchedBlock A)) → AreWorks t ss ps
      → 1 ≤ times n (flat_map (λ s. s.drawn) ss)
      → (i : ℕ) × Has n (slice_index_or (map (λ p. p.put) ps) i [])
  in_works n [] [] h l = absurd (omega arith)
  in_works n [] (p ∷ ps) h l = absurd h
  in_works n (s ∷ ss) [] h l = absurd h
  in_works n (s ∷ ss) (p ∷ ps) h l = dite (dec_le 1 (times n s.drawn))
      (λ here. (0, in_results t.search.finds t.blocks n s.drawn p.put h.0.2 here))
      (λ not. let a = total-append (λ (y : ℕ). if y == n then 1 else 0) s.drawn
      (flat_map (λ s. s.drawn) ss) in let q : ¬ (1 ≤ times n s.drawn) = not in
      let r = in_works n ss ps h.1 (omega arith) in (suc r.0, r.1))

  pub covers : (n : ℕ) (ss : List SeatView) (ps : List (PutView SearchedBlock A)) (upto : ℕ)
      (whole : List SearchedBlock) → AreWorks t ss ps
      → times n (flat_map (λ s. s.drawn) ss) ≡ once_below n upto → n < upto → IsMerge (map (λ p. p.put) ps) whole
      → Has n whole
  covers n ss ps upto whole h drawn low merge =
      let one : once_below n upto ≡ 1 = grind (arith, nat_tests) in
      let w = in_works n ss ps h (omega arith) in
      subst (λ (l : List SearchedBlock). Has n l) merge.is_whole
      (in_given t.search.finds t.blocks n w.0 merge.given
      (subst (λ (l : List SearchedBlock). Has n l) (sym (merge.are_lists w.0)) w.1))

  pub of_board : (ss : List SeatView) (ps : List (PutView SearchedBlock A)) → AreWorks t ss ps
      → All (λ (s : SeatView). s.board ≡ t.board) ss
  of_board [] ps h i d l = absurd (omega arith)
  of_board (s ∷ ss) [] h i d l = absurd h
  of_board (s ∷ ss) (p ∷ ps) h zero d l = h.0.0
  of_board (s ∷ ss) (p ∷ ps) h (suc i) d l = of_board ss ps h.1 i d (omega arith)

  pub of_tray : (ss : List SeatView) (ps : List (PutView SearchedBlock A)) → AreWorks t ss ps
      → All (λ (p : PutView SearchedBlock A). p.tray ≡ t.tray) ps
  of_tray ss [] h i d l = absurd (omega arith)
  of_tray [] (p ∷ ps) h i d l = absurd h
  of_tray (s ∷ ss) (p ∷ ps) h zero d l = h.0.1
  of_tray (s ∷ ss) (p ∷ ps) h (suc i) d l = of_tray ss ps h.1 i d (omega arith)

  pub works_length : (ss : List SeatView) (ps : List (PutView SearchedBlock A)) → AreWorks t ss ps
      → length ps ≡ length ss
  works_length [] [] h = refl
  works_length [] (p ∷ ps) h = absurd h
  works_length (s ∷ ss) [] h = absurd h
  works_length (s ∷ ss) (p ∷ ps) h = ap suc (works_length ss ps h.1)
