-- The lines of a block by its runs of selected lines.
use Rattle.std.proofs.Common.{◌≡◌, ◌≢◌, ℕ, zero, suc, ◌+◌, ◌-◌, ◌<◌, ◌≤◌, ◌⊎◌, inl, inr, true, false, min, Option, Some}
use Rattle.std.proofs.Common.{None, List, [], ◌∷◌, ◌++◌, length, take, drop, refl, sym, ap, ◌∙◌, subst, arith}
use Rattle.std.proofs.Common.{append_assoc, length-append, length-drop}
use Rattle.std.specs.List.{AllByRecursion}
use Rattle.std.proofs.lemmas.Bool.{lt-ltb, le-ltb, ltb-false, cases_lt}
use Rattle.std.proofs.lemmas.List.{take-append-drop, length-take-le, drop_all}
use Rattle.pg_blocks.specs.Lines.{lines}
use Rattle.pg_selection.specs.Search.{Search, terminator}
use Rattle.pg_selection.specs.Selection.{selects}
use Rattle.pg_blocks.proofs.LineLemmas.{lines-append, some_line}
use Rattle.pg_rows.specs.declared.format.Format.{Format}
use Rattle.pg_rows.specs.declared.progress.Progress.{Progress}
use Rattle.pg_selection.specs.declared.run.Run.{Run}
use Rattle.pg_rows.specs.Output.{is_below}
use Rattle.pg_rows.specs.Trail.{Trail, run}
use Rattle.pg_rows.specs.Stretch.{AllSelected, AreUnkept}
use Rattle.pg_selection.specs.Runs.{AreRuns}
use Rattle.pg_rows.specs.Progress.{IsOfTrail, Passes, KeepsLines, kept_of}
use Rattle.pg_rows.proofs.StretchLemmas.{run_append, unselected_unkept, full_unkept}
use Rattle.pg_selection.proofs.RunLemmas.{lines_behind}
use Rattle.pg_rows.proofs.ProgressLemmas.{passes_tells, keeps_tells}

-- How many of some selected lines are kept: those fit, and no other one where there are more.

pub kept_few : (limit : Option ℕ) (kept count : ℕ) → kept_of limit kept count ≤ count
kept_few None kept count = omega arith
kept_few (Some limit) kept count = omega arith

pub kept_fits : (limit : Option ℕ) (kept count more : ℕ) → more < kept_of limit kept count
    → is_below (kept + more) limit ≡ true
kept_fits None kept count more less = refl
kept_fits (Some limit) kept count more less = lt-ltb (kept + more) limit (omega arith)

pub kept_full : (limit : Option ℕ) (kept count : ℕ) → kept_of limit kept count < count
    → is_below (kept + kept_of limit kept count) limit ≡ false
kept_full None kept count less = absurd (omega arith)
kept_full (Some limit) kept count less = le-ltb (kept + min count (limit - kept)) limit (omega arith)

pub full_none : (limit : Option ℕ) (kept count : ℕ) → is_below kept limit ≡ false → kept_of limit kept count ≡ 0
full_none None kept count full = absurd (cc)
full_none (Some limit) kept count full = let le = ltb-false kept limit full in omega arith

pub none_full : (limit : Option ℕ) (kept count : ℕ) → kept_of limit kept count ≡ 0 → 0 < count
    → is_below kept limit ≡ false
none_full limit kept count none some =
    let same : kept + kept_of limit kept count ≡ kept = omega arith in
    ap (λ k. is_below k limit) (sym same) ∙ kept_full limit kept count (omega arith)

-- Runs of lines instead of bytes.

-- the first run in lines that stand behind others, and the lines behind it
pub record IsNextStretch (q : Search) (seen : ℕ) (ls : List (List ℕ)) (here : Run) : Type 0 where
  pub gap : List (List ℕ)
  pub text : List (List ℕ)
  pub later : List (List ℕ)
  pub joins : ls ≡ gap ++ (text ++ later)
  pub gap_unselected : AllSelected q false gap
  pub text_selected : AllSelected q true text
  pub text_some : 0 < length text
  pub first : here.first ≡ seen + length gap
  pub count : here.count ≡ length text

-- these runs hold the selected lines, and no other line
abbrev pub AreStretches : Search → ℕ → List (List ℕ) → List Run → Type 0
AreStretches q seen ls [] = AllSelected q false ls
AreStretches q seen ls (here ∷ runs) =
    (next : IsNextStretch q seen ls here) × AreStretches q (here.first + here.count) next.later runs

some_lines : (end : ℕ) (text : List ℕ) → text ≢ [] → 0 < length (lines end text)
some_lines end [] some = absurd (some refl)
some_lines end (b ∷ text) some = some_line end b text

pub stretches : (q : Search) (at seen : ℕ) (bytes : List ℕ) (runs : List Run) → AreRuns q at seen bytes runs
    → AreStretches q seen (lines (terminator q) bytes) runs
stretches q at seen bytes [] h = h
stretches q at seen bytes (here ∷ runs) h =
    let end = terminator q in
    let n = h.0 in
    let joins : lines end bytes ≡ lines end n.gap ++ (lines end n.text ++ lines end n.later) =
    ap (lines end) (n.joins ∙ append_assoc n.gap n.text n.later)
    ∙ (lines-append end n.gap (n.text ++ n.later) n.gap_whole
    ∙ ap (λ xs. lines end n.gap ++ xs) (lines_behind end n.text n.later n.text_whole)) in
    let next : IsNextStretch q seen (lines end bytes) here = record {
      gap = lines end n.gap;
      text = lines end n.text;
      later = lines end n.later;
      joins = joins;
      gap_unselected = n.gap_unselected;
      text_selected = n.text_selected;
      text_some = some_lines end n.text n.text_some;
      first = n.first;
      count = n.count;
    } in
    (next, stretches q here.span.end (here.first + here.count) n.later runs h.1)

-- From run to run.

abbrev pub no_run : Run
no_run = record { span = record { start = 0; end = 0 }; first = 0; count = 0 }

-- so many lines are left, and they have these runs or the limit is reached
pub record IsReached (q : Search) (format : Format) (t : Trail) (ls : List (List ℕ)) (left : ℕ) (runs : List Run)
    (p : Progress) : Type 0 where
  pub front : List (List ℕ)
  pub rest : List (List ℕ)
  pub joins : ls ≡ front ++ rest
  pub remain : length rest ≡ left
  pub told : IsOfTrail p format (run q format t front)
  pub ahead : AreStretches q (length front) rest runs ⊎ (is_below p.kept format.limit ≡ false)

pub reached_none : (q : Search) (format : Format) (t : Trail) (bytes : List ℕ) (left : ℕ) (runs : List Run)
    (p : Progress) → AreRuns q 0 0 bytes runs → left ≡ length (lines (terminator q) bytes) → IsOfTrail p format t
    → IsReached q format t (lines (terminator q) bytes) left runs p
reached_none q format t bytes left runs p are count told = record {
  front = [];
  rest = lines (terminator q) bytes;
  joins = refl;
  remain = sym count;
  told = told;
  ahead = inl (stretches q 0 0 bytes runs are);
}

pass_rest : (q : Search) (format : Format) (t : Trail) (ls : List (List ℕ)) (left : ℕ) (runs : List Run)
    (p last : Progress) → (h : IsReached q format t ls left runs p) → AreUnkept q format (run q format t h.front) h.rest
    → Passes p left last → IsOfTrail last format (run q format t ls)
pass_rest q format t ls left runs p last h unkept passes =
    let P : Trail → Type 0 = λ u. IsOfTrail last format u in
    subst P (sym (ap (run q format t) h.joins ∙ run_append q format t h.front h.rest))
    (passes_tells p left last passes q format (run q format t h.front) h.rest h.remain unkept h.told)

rest_full : (q : Search) (format : Format) (t : Trail) (ls : List (List ℕ)) (left : ℕ) (runs : List Run)
    (p last : Progress) → IsReached q format t ls left runs p → is_below p.kept format.limit ≡ false
    → Passes p left last → IsOfTrail last format (run q format t ls)
rest_full q format t ls left runs p last h full passes =
    let same : is_below (run q format t h.front).kept format.limit ≡ false =
    ap (λ k. is_below k format.limit) (sym h.told.kept) ∙ full in
    pass_rest q format t ls left runs p last h (full_unkept q format (run q format t h.front) h.rest same) passes

-- behind the last run
pub reached_all : (q : Search) (format : Format) (t : Trail) (ls : List (List ℕ)) (left : ℕ) (p last : Progress)
    → IsReached q format t ls left [] p → Passes p left last → IsOfTrail last format (run q format t ls)
reached_all q format t ls left p last h passes = go h.ahead
  where
    go : AreStretches q (length h.front) h.rest [] ⊎ (is_below p.kept format.limit ≡ false)
        → IsOfTrail last format (run q format t ls)
    go (inl none) = pass_rest q format t ls left [] p last h
        (unselected_unkept q format (run q format t h.front) h.rest none) passes
    go (inr full) = rest_full q format t ls left [] p last h full passes

-- how many of the lines that are left stand before the run, and how many of its lines are kept
pub record IsRoom (format : Format) (total left : ℕ) (here : Run) (p : Progress) (gap count : ℕ) : Type 0 where
  pub before : gap ≡ min (here.first - (total - left)) left
  pub kept : count ≡ min (kept_of format.limit p.kept here.count) (left - gap)

-- at a run of which no line is kept
pub reached_full : (q : Search) (format : Format) (t : Trail) (ls : List (List ℕ)) (total left gap : ℕ) (here : Run)
    (runs : List Run) (p last : Progress) → IsReached q format t ls left (here ∷ runs) p → total ≡ length ls
    → IsRoom format total left here p gap 0 → Passes p left last → IsOfTrail last format (run q format t ls)
reached_full q format t ls total left gap here runs p last h whole room passes = go h.ahead
  where
    go : AreStretches q (length h.front) h.rest (here ∷ runs) ⊎ (is_below p.kept format.limit ≡ false)
        → IsOfTrail last format (run q format t ls)
    go (inr full) = rest_full q format t ls left (here ∷ runs) p last h full passes
    go (inl s) =
        let n = s.0 in
        let a = ap length h.joins ∙ length-append h.front h.rest in
        let b = ap length n.joins ∙ (length-append n.gap (n.text ++ n.later)
        ∙ ap (λ k. length n.gap + k) (length-append n.text n.later)) in
        let first = n.first in
        let count = n.count in
        let some = n.text_some in
        let remain = h.remain in
        let before = room.before in
        let kept = room.kept in
        let none : kept_of format.limit p.kept here.count ≡ 0 = omega arith in
        rest_full q format t ls left (here ∷ runs) p last h
        (none_full format.limit p.kept here.count none (omega arith)) passes

-- the numbers behind lines that are all kept, of which there is one
keeps_some : (q : Search) (format : Format) (t : Trail) (ls : List (List ℕ)) (p : Progress) (count : ℕ)
    (later : Progress) → KeepsLines p format count later → length ls ≡ count → 0 < count → AllSelected q true ls
    → is_below (t.kept + (count - 1)) format.limit ≡ true → IsOfTrail p format t
    → IsOfTrail later format (run q format t ls)
keeps_some q format t [] p count later keeps long some selected below told = absurd (omega arith)
keeps_some q format t (l ∷ ls) p count later keeps long some selected below told =
    let less : t.kept + length ls ≡ t.kept + (count - 1) = omega arith in
    keeps_tells p format count later keeps q t l ls long selected (ap (λ k. is_below k format.limit) less ∙ below) told

pub all_take : {X : Type 0} (P : X → Type 0) (n : ℕ) (xs : List X) → AllByRecursion P xs → AllByRecursion P (take n xs)
all_take P zero xs h = tt
all_take P (suc n) [] h = tt
all_take P (suc n) (x ∷ xs) h = (h.0, all_take P n xs h.1)

regroup : (front gap taken others later : List (List ℕ))
    → front ++ (gap ++ ((taken ++ others) ++ later)) ≡ (front ++ (gap ++ taken)) ++ (others ++ later)
regroup front gap taken others later = simp append_assoc

-- behind a run of which a line is kept
pub reached_more : (q : Search) (format : Format) (t : Trail) (ls : List (List ℕ)) (total left gap count : ℕ)
    (here : Run) (runs : List Run) (p mid next : Progress) → IsReached q format t ls left (here ∷ runs) p
    → total ≡ length ls → IsRoom format total left here p gap count → 0 < count →
    Passes p gap mid → KeepsLines mid format count next → IsReached q format t ls (left - (gap + count)) runs next
reached_more q format t ls total left gap count here runs p mid next h whole room some passes keeps = go h.ahead
  where
    go : AreStretches q (length h.front) h.rest (here ∷ runs) ⊎ (is_below p.kept format.limit ≡ false)
        → IsReached q format t ls (left - (gap + count)) runs next
    go (inr full) =
        let none = full_none format.limit p.kept here.count full in
        let kept = room.kept in
        absurd (omega arith)
    go (inl s) =
        let n = s.0 in
        let a = ap length h.joins ∙ length-append h.front h.rest in
        let b = ap length n.joins ∙ (length-append n.gap (n.text ++ n.later)
        ∙ ap (λ k. length n.gap + k) (length-append n.text n.later)) in
        let first = n.first in
        let many = n.count in
        let remain = h.remain in
        let before = room.before in
        let kept = room.kept in
        let few = kept_few format.limit p.kept here.count in
        let is_gap : length n.gap ≡ gap = omega arith in
        let is_kept : kept_of format.limit p.kept here.count ≡ count = omega arith in
        let within : count ≤ length n.text = omega arith in
        let taken = take count n.text in
        let others = drop count n.text in
        let long : length taken ≡ count = length-take-le count n.text within in
        let u = run q format t h.front in
        let v = run q format u n.gap in
        let unkept = unselected_unkept q format u n.gap n.gap_unselected in
        let told_mid : IsOfTrail mid format v = passes_tells p gap mid passes q format u n.gap is_gap unkept h.told in
        let same : p.kept + (count - 1) ≡ v.kept + (count - 1) =
        ap (λ k. k + (count - 1)) (sym passes.kept ∙ told_mid.kept) in
        let below : is_below (v.kept + (count - 1)) format.limit ≡ true = ap (λ k. is_below k format.limit) (sym same)
        ∙ kept_fits format.limit p.kept here.count (count - 1) (omega arith) in
        let selected = all_take (λ l. selects q l ≡ true) count n.text n.text_selected in
        let told_next : IsOfTrail next format (run q format v taken) =
        keeps_some q format v taken mid count next keeps long some selected below told_mid in
        let P : Trail → Type 0 = λ w. IsOfTrail next format w in
        let whole_run : run q format v taken ≡ run q format t (h.front ++ (n.gap ++ taken)) =
        sym (run_append q format t h.front (n.gap ++ taken) ∙ run_append q format u n.gap taken) in
        let joins : ls ≡ (h.front ++ (n.gap ++ taken)) ++ (others ++ n.later) =
        h.joins
        ∙ (ap (λ xs. h.front ++ xs) (n.joins
        ∙ ap (λ xs. n.gap ++ (xs ++ n.later)) (sym (take-append-drop count n.text)))
        ∙ regroup h.front n.gap taken others n.later) in
        let c = length-append others n.later in
        let d = length-drop count n.text in
        let e = length-append h.front (n.gap ++ taken) ∙ ap (λ k. length h.front + k) (length-append n.gap taken) in
        let ahead : AreStretches q (length (h.front ++ (n.gap ++ taken))) (others ++ n.later) runs ⊎
        (is_below next.kept format.limit ≡ false) = elim (cases_lt count (length n.text)) [
          | inl less ↦
              let sum : next.kept ≡ p.kept + count = keeps.kept ∙ ap (λ k. k + count) passes.kept in
              let full = kept_full format.limit p.kept here.count (omega arith) in
              inr (ap (λ k. is_below k format.limit) (sum ∙ ap (λ k. p.kept + k) (sym is_kept)) ∙ full)
          | inr all ↦
              let seen : here.first + here.count ≡ length (h.front ++ (n.gap ++ taken)) = omega arith in
              let none : others ≡ [] = drop_all count n.text all in
              let Q : ℕ → Type 0 = λ k. AreStretches q k n.later runs in
              let R : List (List ℕ) → Type 0 =
              λ xs. AreStretches q (length (h.front ++ (n.gap ++ taken))) (xs ++ n.later) runs in
              inl (subst R (sym none) (subst Q seen s.1))
        ] in
        record {
          front = h.front ++ (n.gap ++ taken);
          rest = others ++ n.later;
          joins = joins;
          remain = omega arith;
          told = subst P whole_run told_next;
          ahead = ahead;
        }
