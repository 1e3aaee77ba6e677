-- The steps of a plan that are still to come.
use Rattle.std.proofs.Common.{◌≡◌, ℕ, ◌+◌, ◌<◌, ◌⊎◌, inl, inr, Bool, true, false, not, ◌&&◌, eqb, List, [], ◌∷◌}
use Rattle.std.proofs.Common.{◌++◌, length, take, drop, cond, refl, sym, ap, ◌∙◌, arith, append_assoc}
use Rattle.std.specs.List.{list_all}
use Rattle.std.proofs.lemmas.Bool.{false≢true, cases_Bool, eqb-true, eqb-false}
use Rattle.std.proofs.lemmas.List.{append-nil}
use Rattle.std.proofs.Math.Seq.{take-append_seam, drop-append_seam, drop-append-add}
use Rattle.pg_blocks.specs.Blocks.{BlockData}
use Rattle.pg_selection.specs.Search.{Search}
use Rattle.pg_rows.specs.declared.format.Format.{Format}
use Rattle.pg_rows.specs.Output.{output}
use Rattle.pg_plan.specs.Plan.{Step, Opens, Announces, Ends, Misses, IsShaped, is_open, announced, entries_of}
use Rattle.pg_plan.specs.History.{is_taken, all_taken, front}
use Rattle.pg_plan.specs.Cursor.{cursor_of}
use Rattle.pg_seq.specs.Coming.{behind, openings}
use Rattle.pg_seq.proofs.FrontLemmas.{front_all}

-- their blocks
abbrev pub blocks_of : List Step → List BlockData
blocks_of [] = []
blocks_of (Opens name ∷ coming) = blocks_of coming
blocks_of (Announces block ∷ coming) = block ∷ blocks_of coming
blocks_of (Ends failed ∷ coming) = blocks_of coming
blocks_of (Misses name ∷ coming) = blocks_of coming

pub behind_push : (done coming : List Step) (s : Step) → behind done (coming ++ s ∷ []) ≡ s ∷ behind done coming
behind_push done [] s = refl
behind_push done (t ∷ coming) s = behind_push (t ∷ done) coming s

-- a step that comes last
pub openings_push : (n total : ℕ) (coming : List Step) (s : Step) → total ≡ n + length (blocks_of coming)
    → openings n (coming ++ s ∷ []) ≡ openings n coming ++ openings total (s ∷ [])
openings_push n total [] s e = ap (λ k. openings k (s ∷ [])) (omega arith)
openings_push n total (Opens name ∷ coming) s e = ap (λ xs. (n, name) ∷ xs) (openings_push n total coming s e)
openings_push n total (Announces b ∷ coming) s e = openings_push (n + 1) total coming s (omega arith)
openings_push n total (Ends failed ∷ coming) s e = openings_push n total coming s e
openings_push n total (Misses name ∷ coming) s e = openings_push n total coming s e

pub announced_behind : (done coming : List Step) → announced (behind done coming) ≡ announced done ++ blocks_of coming
announced_behind done [] = sym (append-nil (announced done))
announced_behind done (Opens name ∷ coming) = announced_behind (Opens name ∷ done) coming
announced_behind done (Announces b ∷ coming) =
    announced_behind (Announces b ∷ done) coming ∙ append_assoc (announced done) (b ∷ []) (blocks_of coming)
announced_behind done (Ends failed ∷ coming) = announced_behind (Ends failed ∷ done) coming
announced_behind done (Misses name ∷ coming) = announced_behind (Misses name ∷ done) coming

-- what holds of a plan and of each beginning of it holds of the steps that are done
pub of_done : (P : List Step → Type 0) → ((s : Step) (p : List Step) → P (s ∷ p) → P p) → (done coming : List Step)
    → P (behind done coming) → P done
of_done P tail done [] h = h
of_done P tail done (s ∷ coming) h = tail s done (of_done P tail (s ∷ done) coming h)

shaped_done : (end : ℕ) (done coming : List Step) → IsShaped end (behind done coming) → IsShaped end done
shaped_done end done coming h = of_done (λ p. IsShaped end p) (λ s p h. h.1) done coming h

-- two lists that are joined at the same place
pub parts_same : {X : Type 0} (xs ys us vs : List X) → xs ++ ys ≡ us ++ vs → length xs ≡ length us
    → (xs ≡ us) × (ys ≡ vs)
parts_same xs ys us vs e n = (
  sym (take-append_seam xs ys) ∙ (ap (λ zs. take (length xs) zs) e ∙ (ap (λ k. take k (us ++ vs)) n
      ∙ take-append_seam us vs)),
  sym (drop-append_seam xs ys) ∙ (ap (λ zs. drop (length xs) zs) e ∙ (ap (λ k. drop k (us ++ vs)) n
      ∙ drop-append_seam us vs)),
)

-- what stands behind a longer front of the same list
pub rest_same : {X : Type 0} (xs ys us vs : List X) (n : ℕ) → xs ++ ys ≡ us ++ vs → length xs ≡ length us + n
    → ys ≡ drop n vs
rest_same xs ys us vs n e m =
    sym (drop-append_seam xs ys) ∙ (ap (λ zs. drop (length xs) zs) e ∙ (ap (λ k. drop k (us ++ vs)) m
    ∙ drop-append-add us vs n))

-- The front.

abbrev lacks : List (ℕ × ℕ) → List Step → Type 0
lacks taken p = all_taken taken p ≡ false

pub all_push : (t : BlockData → Bool) (xs : List BlockData) (b : BlockData)
    → list_all t (xs ++ b ∷ []) ≡ (list_all t xs && t b)
all_push t [] b = one (t b)
  where
    one : (v : Bool) → (v && true) ≡ v
    one true = refl
    one false = refl
all_push t (x ∷ xs) b = ap (λ v. t x && v) (all_push t xs b) ∙ turn (t x) (list_all t xs) (t b)
  where
    turn : (a c d : Bool) → (a && (c && d)) ≡ ((a && c) && d)
    turn true c d = refl
    turn false c d = refl

pub lacks_more : (taken : List (ℕ × ℕ)) (s : Step) (p : List Step) → lacks taken p → lacks taken (s ∷ p)
lacks_more taken (Opens name) p h = h
lacks_more taken (Announces b) p h =
    all_push (is_taken taken) (announced p) b ∙ ap (λ v. v && is_taken taken b) h
lacks_more taken (Ends failed) p h = h
lacks_more taken (Misses name) p h = h

lacks_block : (taken : List (ℕ × ℕ)) (b : BlockData) (p : List Step) → is_taken taken b ≡ false
    → lacks taken (Announces b ∷ p)
lacks_block taken b p h =
    all_push (is_taken taken) (announced p) b ∙ (ap (λ v. list_all (is_taken taken) (announced p) && v) h
    ∙ none (list_all (is_taken taken) (announced p)))
  where
    none : (v : Bool) → (v && false) ≡ false
    none true = refl
    none false = refl

front_lacks : (taken : List (ℕ × ℕ)) (p coming : List Step) → lacks taken p
    → front taken (behind p coming) ≡ front taken p
front_lacks taken p [] h = refl
front_lacks taken p (s ∷ coming) h =
    front_lacks taken (s ∷ p) coming (lacks_more taken s p h)
    ∙ ap (λ t. cond t (s ∷ p) (front taken p)) (lacks_more taken s p h)

-- where the next block wasn't taken, the front ends before it
pub front_stops : (taken : List (ℕ × ℕ)) (done : List Step) (b : BlockData) (coming : List Step)
    → all_taken taken done ≡ true → is_taken taken b ≡ false → front taken (behind (Announces b ∷ done) coming) ≡ done
front_stops taken done b coming all none =
    let h = lacks_block taken b done none in
    front_lacks taken (Announces b ∷ done) coming h
    ∙ (ap (λ t. cond t (Announces b ∷ done) (front taken done)) h ∙ front_all taken done all)

-- the front goes on from steps all of whose blocks were taken
pub front_has : (taken : List (ℕ × ℕ)) (p coming : List Step) → all_taken taken p ≡ true
    → (more : List Step) × (front taken (behind p coming) ≡ more ++ p)
front_has taken p [] h = ([], front_all taken p h)
front_has taken p (s ∷ coming) h = elim (cases_Bool (all_taken taken (s ∷ p))) [
  | inl all ↦
      let r = front_has taken (s ∷ p) coming all in
      (r.0 ++ s ∷ [], r.1 ∙ sym (append_assoc r.0 (s ∷ []) p))
  | inr some ↦ (
    [],
    front_lacks taken (s ∷ p) coming some
        ∙ (ap (λ t. cond t (s ∷ p) (front taken p)) some ∙ front_all taken p h),
  )
]

eqb_same : (k : ℕ) → eqb k k ≡ true
eqb_same k = elim (cases_Bool (eqb k k)) [
  | inl e ↦ e
  | inr e ↦ absurd (eqb-false k k e refl)
]

eqb_apart : (a b : ℕ) → (a ≡ b → ⊥) → eqb a b ≡ false
eqb_apart a b h = elim (cases_Bool (eqb a b)) [
  | inl e ↦ absurd (h (eqb-true a b e))
  | inr e ↦ e
]

-- What comes next.

-- no file is open, and none comes
pub record AreMissed (q : Search) (format : Format) (done coming : List Step) : Type 0 where
  pub same : output q format (entries_of (behind done coming)) ≡ output q format (entries_of done)
  pub all : announced (behind done coming) ≡ announced done
  pub cursor : cursor_of q format (behind done coming) ≡ cursor_of q format done
  pub closed : is_open (behind done coming) ≡ is_open done
  pub waiting : (n : ℕ) → openings n coming ≡ []

-- a file comes next, behind names that were missed
pub record OpensNext (q : Search) (format : Format) (done coming : List Step) (n : ℕ) : Type 0 where
  pub misses : List Step
  pub name : List ℕ
  pub later : List Step
  pub split : behind done coming ≡ behind misses (Opens name ∷ later)
  pub blocks : announced misses ≡ announced done
  pub waiting : openings n coming ≡ (n, name) ∷ openings n later
  pub cursor : cursor_of q format misses ≡ cursor_of q format done
  pub same : output q format (entries_of misses) ≡ output q format (entries_of done)

pub next_file : (q : Search) (format : Format) (end n : ℕ) (done coming : List Step) → is_open done ≡ false
    → IsShaped end (behind done coming) → AreMissed q format done coming ⊎ OpensNext q format done coming n
next_file q format end n done [] closed h =
    inl (record { same = refl; all = refl; cursor = refl; closed = refl; waiting = λ n. refl })
next_file q format end n done (Opens name ∷ coming) closed h = inr (record {
  misses = done;
  name = name;
  later = coming;
  split = refl;
  blocks = refl;
  waiting = refl;
  cursor = refl;
  same = refl;
})
next_file q format end n done (Announces b ∷ coming) closed h =
    absurd (false≢true (sym closed ∙ (shaped_done end (Announces b ∷ done) coming h).0.running))
next_file q format end n done (Ends failed ∷ coming) closed h =
    absurd (false≢true (sym closed ∙ (shaped_done end (Ends failed ∷ done) coming h).0))
next_file q format end n done (Misses name ∷ coming) closed h =
    elim (next_file q format end n (Misses name ∷ done) coming closed h) [
      | inl m ↦ inl (record { same = m.same; all = m.all; cursor = m.cursor; closed = m.closed; waiting = m.waiting })
      | inr o ↦ inr (record {
        misses = o.misses;
        name = o.name;
        later = o.later;
        split = o.split;
        blocks = o.blocks;
        waiting = o.waiting;
        cursor = o.cursor;
        same = o.same;
      })
    ]

-- whether the file's blocks came all, by the openings that come
abbrev pub is_over : List (ℕ × List ℕ) → Bool → ℕ → ℕ → Bool
is_over [] more held n = not more && eqb held 0
is_over (w ∷ ws) more held n = eqb w.0 n

-- behind a file's end either no file comes or the next one, with no block before it
over_closed : (end n : ℕ) (done coming : List Step) → is_open done ≡ false → IsShaped end (behind done coming)
    → is_over (openings n coming) (is_open (behind done coming)) (length (blocks_of coming)) n ≡ true
over_closed end n done [] closed h = ap (λ b. not b && true) closed
over_closed end n done (Opens name ∷ coming) closed h = eqb_same n
over_closed end n done (Announces b ∷ coming) closed h =
    absurd (false≢true (sym closed ∙ (shaped_done end (Announces b ∷ done) coming h).0.running))
over_closed end n done (Ends failed ∷ coming) closed h =
    absurd (false≢true (sym closed ∙ (shaped_done end (Ends failed ∷ done) coming h).0))
over_closed end n done (Misses name ∷ coming) closed h = over_closed end n (Misses name ∷ done) coming closed h

-- openings behind a block stand behind its place
openings_behind : (n : ℕ) (more : Bool) (held : ℕ) (k : ℕ) (coming : List Step) → n < k → 0 < held
    → is_over (openings k coming) more held n ≡ false
openings_behind n more held k [] below some = none more held some
  where
    none : (m : Bool) (h : ℕ) → 0 < h → (not m && eqb h 0) ≡ false
    none true h some = refl
    none false h some = eqb_apart h 0 (λ e. omega (arith, some, e))
openings_behind n more held k (Opens name ∷ coming) below some = eqb_apart k n (λ e. omega (arith, below, e))
openings_behind n more held k (Announces b ∷ coming) below some =
    openings_behind n more held (k + 1) coming (omega arith) some
openings_behind n more held k (Ends failed ∷ coming) below some = openings_behind n more held k coming below some
openings_behind n more held k (Misses name ∷ coming) below some = openings_behind n more held k coming below some

pub data NextStep (coming : List Step) (over : Bool) : Type 0 where
  Nothing : coming ≡ [] → over ≡ false → NextStep coming over
  Block : (b : BlockData) (later : List Step) → coming ≡ Announces b ∷ later → over ≡ false → NextStep coming over
  End : (failed : Bool) (later : List Step) → coming ≡ Ends failed ∷ later → over ≡ true → NextStep coming over

-- what comes next in an open file
pub next_step : (end n : ℕ) (done coming : List Step) → is_open done ≡ true → IsShaped end (behind done coming)
    → NextStep coming (is_over (openings n coming) (is_open (behind done coming)) (length (blocks_of coming)) n)
next_step end n done [] running h = Nothing refl (ap (λ b. not b && true) running)
next_step end n done (Opens name ∷ coming) running h =
    absurd (false≢true (sym (shaped_done end (Opens name ∷ done) coming h).0 ∙ running))
next_step end n done (Announces b ∷ coming) running h =
    Block b coming refl (openings_behind n _ _ (n + 1) coming (omega arith) (omega arith))
next_step end n done (Ends failed ∷ coming) running h =
    End failed coming refl (over_closed end n (Ends failed ∷ done) coming refl h)
next_step end n done (Misses name ∷ coming) running h =
    absurd (false≢true (sym (shaped_done end (Misses name ∷ done) coming h).0 ∙ running))
