-- The numbers of a `Progress` behind stretches of lines.
use Rattle.std.proofs.Common.{◌≡◌, ℕ, ◌+◌, ◌-◌, ◌≤◌, inl, inr, ◌||◌, nat_lt, min, ◌∷◌, ◌++◌, length, drop, sym, ap, ◌∙◌}
use Rattle.std.proofs.Common.{arith, length-append, length-drop}
use Rattle.std.proofs.lemmas.Bool.{lt-ltb, le-ltb, cases_lt}
use Rattle.pg_rows.specs.declared.format.Format.{Format}
use Rattle.pg_rows.specs.declared.progress.Progress.{Progress}
use Rattle.pg_rows.specs.Output.{context}
use Rattle.pg_rows.specs.Trail.{Trail, run}
use Rattle.pg_rows.specs.Progress.{IsOfTrail, Passes, KeepsLines, TellsPassed, TellsKept}
use Rattle.pg_rows.proofs.StretchLemmas.{passed_trail, kept_trail, length_keep_last}

skipped_more : (before behind more : ℕ)
    → (nat_lt before behind || nat_lt before (min before behind + more)) ≡ nat_lt before (behind + more)
skipped_more before behind more = elim (cases_lt before behind) [
  | inl less ↦ ap (λ b. b || nat_lt before (min before behind + more)) (lt-ltb before behind less)
      ∙ sym (lt-ltb before (behind + more) (omega arith))
  | inr fits ↦ let sum : min before behind + more ≡ behind + more = omega arith in
      ap (λ b. b || nat_lt before (min before behind + more)) (le-ltb before behind fits) ∙ ap (nat_lt before) sum
]

-- the window holds no more than it may
pub told_fits : (p : Progress) (format : Format) (t : Trail) → IsOfTrail p format t
    → length t.window ≤ context format.before
told_fits p format t told = let e = told.window in omega arith

-- behind lines of which none is kept
pub passes_tells : (p : Progress) (count : ℕ) (later : Progress) → Passes p count later → TellsPassed p count later
passes_tells p count later h q format t ls long unkept told =
    let before = context format.before in
    let fits = told_fits p format t told in
    let u = run q format t ls in
    let d = passed_trail q format t ls fits unkept in
    let others : length (drop t.countdown ls) ≡ count - p.countdown = let e = told.countdown in
    omega (arith, length-drop t.countdown ls) in
    let skipped : (t.skipped || nat_lt before (length t.window + length (drop t.countdown ls)))
    ≡ nat_lt before later.behind =
    ap (λ b. b || nat_lt before (length t.window + length (drop t.countdown ls))) told.skipped
    ∙ (ap (λ k. nat_lt before p.behind || nat_lt before (k + length (drop t.countdown ls))) told.window
    ∙ (ap (λ k. nat_lt before p.behind || nat_lt before (min before p.behind + k)) others
    ∙ (skipped_more before p.behind (count - p.countdown)
    ∙ ap (nat_lt before) (sym h.behind)))) in
    let window : length u.window ≡ min before (length t.window + length (drop t.countdown ls)) =
    ap (λ xs. length xs) d.window
    ∙ (length_keep_last before (t.window ++ drop t.countdown ls)
    ∙ ap (min before) (length-append t.window (drop t.countdown ls))) in
    record {
      number = let a = h.number in let b = d.number in let e = told.number in omega arith;
      kept = h.kept ∙ (told.kept ∙ sym d.kept);
      countdown = let a = h.countdown in let b = d.countdown in let e = told.countdown in omega arith;
      some = h.shown ∙ (told.some ∙ sym d.some);
      skipped = d.skipped ∙ skipped;
      window = let a = h.behind in let e = told.window in omega arith;
    }

-- behind lines that are all kept
pub keeps_tells : (p : Progress) (format : Format) (count : ℕ) (later : Progress) → KeepsLines p format count later
    → TellsKept p format count later
keeps_tells p format count later h q t l ls long selected below told =
    let before = context format.before in
    let u = run q format t (l ∷ ls) in
    let d = kept_trail q format t l ls selected below in
    record {
      number = let a = h.number in let b = d.number in let e = told.number in omega arith;
      kept = let a = h.kept in let b = d.kept in let e = told.kept in omega arith;
      countdown = h.countdown ∙ sym d.countdown;
      some = h.shown ∙ sym d.some;
      skipped = d.skipped ∙ (sym (le-ltb before 0 (omega arith)) ∙ ap (nat_lt before) (sym h.behind));
      window = let a = h.behind in let b = ap (λ xs. length xs) d.window in omega arith;
    }
