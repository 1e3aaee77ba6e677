-- One number more, and one result more.
use Rattle.std.proofs.Common.{◌≡◌, ℕ, ◌<◌, false, List, [], ◌∷◌, ◌++◌, sym, refl, ap, ◌∙◌, subst, append_assoc}
use Rattle.std.proofs.Common.{append-nil, Option, None, Some, IfSome}
use Rattle.std.specs.Prelude.{option_to_list}
use Rattle.pg_selection.specs.Searched.{SearchedBlock}
use Rattle.pg_board.specs.Board.{SeatView, seat_view}
use Rattle.pg_board.specs.Tray.{PutView, put_view}
use Rattle.pg_workers.specs.Results.{IsBlockResult, AreResultsOf}
use Rattle.pg_workers.specs.declared.worker.Worker.{Worker}
use Rattle.pg_workers.specs.Workers.{Task, GrowAlike, GrowBut, HasPut, IsWork, HasWorked, HasFinished, AreWorks}

module _ {B F : Type 0} (finds : B → F → Type 0) (blocks : List B) where
  pub results_join : (ns ms : List ℕ) (rs ts : List F) → AreResultsOf finds blocks ns rs
      → AreResultsOf finds blocks ms ts → AreResultsOf finds blocks (ns ++ ms) (rs ++ ts)
  results_join [] ms [] ts h k = k
  results_join [] ms (r ∷ rs) ts h k = absurd h
  results_join (n ∷ ns) ms [] ts h k = absurd h
  results_join (n ∷ ns) ms (r ∷ rs) ts h k = (h.0, results_join ns ms rs ts h.1 k)

module _ {A C : Type 0} (t : Task A C) where
  pub grow_none : (d : List ℕ) (p : List SearchedBlock) → GrowAlike t d d p p
  grow_none d p = ([], [], sym (append-nil d), sym (append-nil p), tt)

  pub grow_more : (d d' d'' : List ℕ) (p p' p'' : List SearchedBlock) (n : ℕ) (r : SearchedBlock)
      → GrowAlike t d d' p p'
      → d'' ≡ d' ++ n ∷ [] → p'' ≡ p' ++ r ∷ [] → IsBlockResult t.search.finds t.blocks n r → GrowAlike t d d'' p p''
  grow_more d d' d'' p p' p'' n r h e f k = (
    h.0 ++ n ∷ [],
    h.1 ++ r ∷ [],
    e ∙ ap (λ (l : List ℕ). l ++ n ∷ []) h.2 ∙ append_assoc d h.0 (n ∷ []),
    f ∙ ap (λ (l : List SearchedBlock). l ++ r ∷ []) h.3 ∙ append_assoc p h.1 (r ∷ []),
    results_join t.search.finds t.blocks h.0 (n ∷ []) h.1 (r ∷ []) h.4 (k, tt),
  )

  -- a number was drawn, and there is no result for it
  pub grow_but : (d d' d'' : List ℕ) (p p' p'' : List SearchedBlock) (n : ℕ) → GrowAlike t d d' p p'
      → d'' ≡ d' ++ n ∷ [] → p'' ≡ p' → GrowBut t n d d'' p p''
  grow_but d d' d'' p p' p'' n h e f = (d', e, subst (λ (l : List SearchedBlock). GrowAlike t d d' p l) (sym f) h)

  -- what a seat drew and a pass put goes on
  pub grown : (d d' : List ℕ) (p p' : List SearchedBlock) → AreResultsOf t.search.finds t.blocks d p
      → GrowAlike t d d' p p' → AreResultsOf t.search.finds t.blocks d' p'
  grown d d' p p' k h =
      subst (λ (l : List ℕ). AreResultsOf t.search.finds t.blocks l p') (sym h.2)
      (subst (λ (l : List SearchedBlock). AreResultsOf t.search.finds t.blocks (d ++ h.0) l) (sym h.3)
      (results_join t.search.finds t.blocks d h.0 p h.1 k h.4))

  -- who has put a result for each number has finished
  pub finished_of : (w : Worker A C) → IsWork t w.seat w.pass → t.search.fits w.scratch → w.unfinished ≡ None
      → HasFinished t w
  unfolding HasWorked
  finished_of w h f e = (
    (
      w.seat.drawn,
      subst (λ (o : Option ℕ). w.seat.drawn ≡ w.seat.drawn ++ option_to_list o) (sym e) (sym (append-nil w.seat.drawn)),
      h,
      subst (λ (o : Option ℕ). IfSome o (λ n. n < t.board.limit)) (sym e) tt,
      f,
    ),
    e,
  )

  -- who has finished has put a result for each number
  pub work_of : (w : Worker A C) → HasFinished t w → IsWork t w.seat w.pass
  unfolding HasWorked
  work_of w h =
      let same : w.seat.drawn ≡ h.0.0 =
      subst (λ (o : Option ℕ). w.seat.drawn ≡ h.0.0 ++ option_to_list o) h.1 h.0.1 ∙ append-nil h.0.0 in
      (h.0.2.0, h.0.2.1, subst (λ (l : List ℕ). AreResultsOf t.search.finds t.blocks l w.pass.put) (sym same) h.0.2.2)

  -- the scratch of who has worked is for the query
  pub fits_of : (w : Worker A C) → HasWorked t w → t.search.fits w.scratch
  unfolding HasWorked
  fits_of w h = h.4

  -- who put a result for each number but the last has worked
  pub left_of : (w : Worker A C) (ns : List ℕ) (n : ℕ) → w.unfinished ≡ Some n → w.seat.drawn ≡ ns ++ n ∷ []
      → IsWork t (record w.seat { drawn = ns }) w.pass → n < t.board.limit → t.search.fits w.scratch
      → HasWorked t w
  unfolding HasWorked
  left_of w ns n is e h l f = (
    ns,
    subst (λ (o : Option ℕ). w.seat.drawn ≡ ns ++ option_to_list o) (sym is) e,
    h,
    subst (λ (o : Option ℕ). IfSome o (λ n. n < t.board.limit)) (sym is) l,
    f,
  )

  -- the number that was left unfinished is a block's
  pub below_of : (w : Worker A C) (n : ℕ) → HasWorked t w → w.unfinished ≡ Some n → n < t.board.limit
  unfolding HasWorked
  below_of w n h is = subst (λ (o : Option ℕ). IfSome o (λ n. n < t.board.limit)) is h.3

  -- the pass of who has worked is the tray's
  pub tray_of : (w : Worker A C) → HasWorked t w → w.pass.tray ≡ t.tray
  unfolding HasWorked
  tray_of w h = h.2.1

  -- who puts the missing result has put one for each number
  pub completed : (w : Worker A C) (p : PutView SearchedBlock A) (n : ℕ) → HasWorked t w → w.unfinished ≡ Some n
      → p.tray ≡ t.tray → HasPut t n w.pass.put p.put → IsWork t w.seat p
  unfolding HasWorked
  completed w p n h is same put =
      let drawn : w.seat.drawn ≡ h.0 ++ n ∷ [] =
      subst (λ (o : Option ℕ). w.seat.drawn ≡ h.0 ++ option_to_list o) is h.1 in (
        h.2.0,
        same,
        subst (λ (l : List ℕ). AreResultsOf t.search.finds t.blocks l p.put) (sym drawn)
            (subst (λ (l : List SearchedBlock). AreResultsOf t.search.finds t.blocks (h.0 ++ n ∷ []) l) (sym put.1)
            (results_join t.search.finds t.blocks h.0 (n ∷ []) w.pass.put (put.0 ∷ []) h.2.2 (put.2, tt))),
      )

  pub works_more : (ss : List SeatView) (ps : List (PutView SearchedBlock A)) (s : SeatView)
      (p : PutView SearchedBlock A) → AreWorks t ss ps → IsWork t s p → AreWorks t (ss ++ s ∷ []) (ps ++ p ∷ [])
  works_more [] [] s p h k = (k, tt)
  works_more [] (q ∷ qs) s p h k = absurd h
  works_more (x ∷ xs) [] s p h k = absurd h
  works_more (x ∷ xs) (q ∷ qs) s p h k = (h.0, works_more xs qs s p h.1 k)

-- nothing was drawn, and nothing was put
pub fresh_work : {A C : Type 0} (t : Task A C) (s : SeatView) (p : PutView SearchedBlock A)
    → s ≡ seat_view t.board [] false → p ≡ put_view t.tray [] → IsWork t s p
fresh_work {A} {C} t s p e f = subst (λ (x : SeatView). IsWork t x p) (sym e)
    (subst (λ (y : PutView SearchedBlock A). IsWork t (seat_view t.board [] false) y) (sym f) (refl, refl, tt))
