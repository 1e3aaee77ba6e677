-- What follows what was given, step by step.
use Rattle.std.proofs.Common.{◌≡◌, ◌⊎◌, inl, inr, ℕ, Bool, true, false, cond, List, [], ◌∷◌, ◌++◌, refl, sym, ap, ◌∙◌}
use Rattle.std.proofs.Common.{subst, append_assoc}
use Rattle.std.proofs.lemmas.Bool.{false≢true}
use Rattle.std.proofs.lemmas.List.{append-nil}
use Rattle.pg_selection.specs.Search.{Search, terminator}
use Rattle.pg_blocks.specs.Lines.{AreWhole}
use Rattle.pg_blocks.proofs.LineLemmas.{whole_append}
use Rattle.pg_rows.specs.declared.format.Format.{Format}
use Rattle.pg_base.specs.Entries.{Entry, Missed, Read, Ending, Running, Ended, Failed, Left, is_running}
use Rattle.pg_plan.specs.Plan.{with_bytes, with_end}
use Rattle.pg_rows.specs.Enough.{is_enough}
use Rattle.pg_run.specs.Cover.{is_left, IsEntryOf, Covers, HasOpenFile}

append_none : (xs ys : List ℕ) → xs ++ ys ≡ [] → (xs ≡ []) × (ys ≡ [])
append_none [] ys e = (refl, e)
append_none (x ∷ xs) ys e = absurd (cc)

abbrev pub closed_by : Bool → Ending
closed_by failed = cond failed Failed Ended

pub closed_left : (failed : Bool) → is_left (closed_by failed) ≡ false
closed_left true = refl
closed_left false = refl

module _ (q : Search) (format : Format) where
  -- a file was given, and is opened
  pub opens : (name : List ℕ) (planned given : List Entry) → Covers q format planned given
      → HasOpenFile q format name [] [] Left (Read name [] Running ∷ planned) (Read name [] Left ∷ given)
  opens name planned given h = record {
    earlier = planned;
    before = given;
    planned_is = refl;
    given_is = refl;
    stopped = refl;
    seam = inl (inl refl);
    covers = h;
  }

  -- a name that gives no file is missed
  pub misses : (name : List ℕ) (planned given : List Entry) → Covers q format planned given
      → Covers q format (Missed name ∷ planned) (Missed name ∷ given)
  misses name planned given h = (refl, h)

  module _ (name front rest : List ℕ) (planned given : List Entry) where
    pub left_whole : HasOpenFile q format name front rest Left planned given → AreWhole (terminator q) front
    left_whole h = go h.seam
      where
        go : AreWhole (terminator q) front ⊎ ((rest ≡ []) × (is_left Left ≡ false)) → AreWhole (terminator q) front
        go (inl w) = w
        go (inr n) = absurd (false≢true (sym n.1))

    -- reads give more, and may meet the end or fail
    pub reads : (more : List ℕ) (ending : Ending) (given' : List Entry) → is_running ending ≡ false
        → (h : HasOpenFile q format name front rest Left planned given)
        → given' ≡ Read name ((front ++ rest) ++ more) ending ∷ h.before
        → HasOpenFile q format name front (rest ++ more) ending planned given'
    reads more ending given' stopped h is = record {
      earlier = h.earlier;
      before = h.before;
      planned_is = h.planned_is;
      given_is = is ∙ ap (λ xs. Read name xs ending ∷ h.before) (append_assoc front rest more);
      stopped = stopped;
      seam = inl (left_whole h);
      covers = h.covers;
    }

    -- the file isn't read again, where that is enough
    pub leaves : HasOpenFile q format name front rest Left planned given → is_enough q format planned ≡ true
        → Covers q format (with_end false planned) given
    leaves h e =
        let P : List Entry → Type 0 = λ ps. Covers q format (with_end false ps) given in
        let Q : List Entry → Type 0 = λ gs. Covers q format (Read name front Ended ∷ h.earlier) gs in
        subst P (sym h.planned_is) (subst Q (sym h.given_is) (
          inr (record {
            rest = rest;
            is = refl;
            whole = left_whole h;
            enough = ap (is_enough q format) (sym h.planned_is) ∙ e;
          }),
          h.covers,
        ))

  -- the next bytes are announced: whole lines, or what is left once the file can't go on
  pub announces : (name front block rest : List ℕ) (ending : Ending) (planned given : List Entry)
      → AreWhole (terminator q) block ⊎ ((rest ≡ []) × (is_left ending ≡ false))
      → HasOpenFile q format name front (block ++ rest) ending planned given
      → HasOpenFile q format name (front ++ block) rest ending (with_bytes block planned) given
  announces name front block rest ending planned given s h = record {
    earlier = h.earlier;
    before = h.before;
    planned_is = ap (with_bytes block) h.planned_is;
    given_is = h.given_is ∙ ap (λ xs. Read name xs ending ∷ h.before) (sym (append_assoc front block rest));
    stopped = h.stopped;
    seam = go h.seam s;
    covers = h.covers;
  }
    where
      go : AreWhole (terminator q) front ⊎ ((block ++ rest ≡ []) × (is_left ending ≡ false))
          → AreWhole (terminator q) block ⊎ ((rest ≡ []) × (is_left ending ≡ false))
          → AreWhole (terminator q) (front ++ block) ⊎ ((rest ≡ []) × (is_left ending ≡ false))
      go (inl f) (inl b) = inl (whole_append (terminator q) front block f b)
      go (inl f) (inr n) = inr n
      go (inr n) t = inr ((append_none block rest n.0).1, n.1)

  -- the file has ended, and all of it was announced
  pub ends : (name front : List ℕ) (failed : Bool) (planned given : List Entry)
      → HasOpenFile q format name front [] (closed_by failed) planned given
      → Covers q format (with_end failed planned) given
  ends name front failed planned given h =
      let P : List Entry → Type 0 = λ ps. Covers q format (with_end failed ps) given in
      let Q : List Entry → Type 0 = λ gs. Covers q format (Read name front (closed_by failed) ∷ h.earlier) gs in
      let is : given ≡ Read name front (closed_by failed) ∷ h.before =
      h.given_is ∙ ap (λ xs. Read name xs (closed_by failed) ∷ h.before) (append-nil front) in
      subst P (sym h.planned_is) (subst Q (sym is) (entry failed, h.covers))
    where
      entry : (failed : Bool) → IsEntryOf q format h.earlier (Read name front (closed_by failed))
          (Read name front (closed_by failed))
      entry true = refl
      entry false = inl refl
