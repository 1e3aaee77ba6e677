use Rattle.std.proofs.Common.{ℕ, ◌+◌, ◌-◌, List, length, take, drop, sym, ◌∙◌, subst, arith, refl, inl, inr}
use Rattle.std.proofs.Common.{ap, length-drop}
use Rattle.std.proofs.lemmas.List.{take_rest}
use Rattle.pg_selection.specs.Search.{search_of, uninverted, terminator_of}
use Rattle.pg_prefilter.specs.NextHits.{IsNextLine}
use Rattle.pg_prefilter.proofs.JudgeLemmas.{judges_behind}
use Rattle.pg_prefilter.proofs.LineLemmas.{line_found, line_passed, line_unselected}
use Rattle.pg_lines.proofs.ScanLemmas.{GoesOn, scanned, not_passed, scanned_short}
use Rattle.pg_lines.proofs.search.next_matched.Goals as goal
use Rattle.pg_lines.proofs.search.next_matched.Goals.{then-stop-rest, else-stop-rest}

pub returns-then-has_hit-clause-found : goal.returns-then-has_hit-clause-found
returns-then-has_hit-clause-found g c =
    let bytes = c.args.bytes.now in
    let at = c.args.at in
    let text = c.args.query.now.text in
    let rest = take (length bytes - at) (drop at bytes) in
    let s = c.loop-start.start in
    let stop = c.judge_line-stop.result.0 in
    let next = c.if-stop-rest.next in
    let t = c.judge_line-stop.ensures.text in
    let i = c.loop-start.invariant in
    let goes : GoesOn rest stop next = elim c.if-stop-rest.branch [
      | then-stop-rest w ↦ inl (w.if-stop-rest.true, w.next-is)
      | else-stop-rest w ↦ inr (w.if-stop-rest.false, w.next-is)
    ] in
    let line = scanned (terminator_of text) rest s stop next c.loop-start-test.true t goes in
    let front = not_passed (terminator_of text) rest s c.loop-start-test.true i.passed in
    let long = ap length (take_rest bytes at) in
    let behind = length-drop at bytes in
    let some = c.loop-start-test.true in
    record {
      within = elim goes [
        | inl h ↦ (omega arith, omega (arith, h.1, t.onward), omega (arith, h.0, h.1, long, behind, c.requires.at))
        | inr h ↦ (
          omega arith,
          omega (arith, h.0, h.1, some),
          omega (arith, h.1, t.within, long, behind, c.requires.at),
        )
      ];
      first = λ trees spelled.
          let q = search_of (uninverted text) trees in
          let P : List ℕ → Type 0 = λ xs. IsNextLine q at xs (record { start = at + s; end = at + next }) in
          subst P (take_rest bytes at) (line_found q rest at s stop next _ line front (i.unselected trees spelled)
          (sym (c.judge_line-stop.ensures.hit trees spelled) ∙ c.if-has_hit.true) refl refl);
    }

pub loop-start-preserved : goal.loop-start-preserved
loop-start-preserved g c =
    let bytes = c.args.bytes.now in
    let at = c.args.at in
    let text = c.args.query.now.text in
    let rest = take (length bytes - at) (drop at bytes) in
    let s = c.loop-start.start in
    let stop = c.judge_line-stop.result.0 in
    let next = c.if-stop-rest.next in
    let t = c.judge_line-stop.ensures.text in
    let i = c.loop-start.invariant in
    let goes : GoesOn rest stop next = elim c.if-stop-rest.branch [
      | then-stop-rest w ↦ inl (w.if-stop-rest.true, w.next-is)
      | else-stop-rest w ↦ inr (w.if-stop-rest.false, w.next-is)
    ] in
    let line = scanned (terminator_of text) rest s stop next c.loop-start-test.true t goes in
    let front = not_passed (terminator_of text) rest s c.loop-start-test.true i.passed in
    record {
      fits = c.judge_line-stop.ensures.fits;
      within = elim goes [ inl h ↦ omega (arith, h.0, h.1) | inr h ↦ omega (arith, h.1, t.within) ];
      passed = line_passed (terminator_of text) rest s stop next line front;
      unselected = λ trees spelled. line_unselected (search_of (uninverted text) trees) rest s stop next line front
          (i.unselected trees spelled) (sym (c.judge_line-stop.ensures.hit trees spelled) ∙ c.if-has_hit.false);
      short = (scanned_short (terminator_of text) rest s stop next c.loop-start-test.true t i.short goes).1;
    }

pub judge_line-stop-requires-clause-lines : goal.judge_line-stop-requires-clause-lines
judge_line-stop-requires-clause-lines g c = λ stop low high.
    let bytes = c.args.bytes.now in
    let at = c.args.at in
    let long = ap length (take_rest bytes at) in
    let behind = length-drop at bytes in
    judges_behind c.args.query.now.text bytes c.args.judge.now c.requires.judge at c.loop-start.start stop
    c.requires.at low (omega (arith, high, long, behind))
