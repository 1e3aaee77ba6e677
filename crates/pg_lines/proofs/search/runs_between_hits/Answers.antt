use Rattle.std.proofs.Common.{◌≡◌, ℕ, ◌+◌, Bool, true, false, List, length, slice_range, cond, ap, sym, ◌∙◌, subst}
use Rattle.std.proofs.Common.{arith, refl}
use Rattle.pg_blocks.specs.Lines.{lines}
use Rattle.pg_selection.specs.Search.{search_of, uninverted, terminator_of}
use Rattle.pg_selection.specs.Runs.{AreRuns}
use Rattle.pg_selection.specs.declared.run.Run.{Run}
use Rattle.pg_lines.proofs.BetweenLemmas.{passed_none, passed_more, last_run, all_lines, no_part}
use Rattle.pg_lines.proofs.GatherLemmas.{short_behind}
use Rattle.pg_lines.proofs.search.runs_between_hits.Goals as goal

-- the number of lines from one place up to another, by the terminator that was asked for
counted : (bytes : List ℕ) (at stop n given end : ℕ) → given ≡ end
    → n ≡ length (lines given (slice_range bytes at stop)) → n ≡ length (lines end (slice_range bytes at stop))
counted bytes at stop n given end same count = count ∙ ap (λ t. length (lines t (slice_range bytes at stop))) same

pub loop-line-init : goal.loop-line-init
loop-line-init g c = record {
  fits = c.requires.ready.fits;
  within = omega arith;
  few = omega arith;
  needles = c.requires.ready.needles;
  short = c.requires.ready.short;
  passed = λ trees spelled.
      passed_none (search_of c.args.query.now.text trees) c.args.bytes.now c.new-runs.result.items
      c.new-runs.ensures.items;
}

pub loop-line-preserved : goal.loop-line-preserved
loop-line-preserved g c =
    let text = c.args.query.now.text in
    let own = c.requires.compiled in
    let bytes = c.args.bytes.now in
    let i = c.loop-line.invariant in
    let at = c.loop-line.at in
    let seen = c.loop-line.seen in
    let line = c.in-Some.line in
    let run = c.run_between-run.result in
    let between = c.run_between-run.ensures in
    let within = c.in-Some.ensures.found.within in
    record {
      fits = c.in-Some.ensures.fits;
      within = within.2;
      few = omega (arith, between.few, within.1);
      needles = c.in-Some.ensures.needles;
      short = short_behind (search_of (uninverted text) own.0) bytes at 0 _
          (c.in-Some.ensures.found.first own.0 own.1).1 i.short;
      passed = λ trees spelled.
          passed_more text trees c.requires.inverted bytes c.loop-line.runs.items at seen (i.passed trees spelled) line
          (c.in-Some.ensures.found.first trees spelled) run between.span.0 between.span.1 between.first
          (counted bytes at line.start run.count c.terminator-end.result (terminator_of text) c.terminator-end.ensures
          between.count) c.push_run.new.runs.items c.in_ok-push_run.ensures (seen + (run.count + 1)) refl;
    }

no_parts : {X : Type 0} {xs ys : List X} (b : Bool) → xs ≡ ys → cond b xs ys ≡ ys
no_parts true e = e
no_parts false e = refl

pub returns-clause-found : goal.returns-clause-found
returns-clause-found g c =
    let text = c.args.query.now.text in
    let bytes = c.args.bytes.now in
    let at = c.loop-line.at in
    let seen = c.loop-line.seen in
    let kept = c.loop-line.runs.items in
    let passed = c.loop-line.invariant.passed in
    let last = c.run_between-last.result in
    let between = c.run_between-last.ensures in
    let count = counted bytes at (length bytes) last.count c.terminator-end.result (terminator_of text)
    c.terminator-end.ensures between.count in
    record {
      runs = λ trees spelled.
          let P : List Run → Type 0 = λ runs. AreRuns (search_of text trees) 0 0 bytes runs in
          subst P (sym c.in_ok-push_run-2.ensures) (last_run text trees c.requires.inverted bytes kept at seen
          (passed trees spelled) last between.span.0 between.span.1 between.first count
          (c.in_default.ensures.found trees spelled));
      parts = λ trees spelled.
          let all = lines (terminator_of text) bytes in
          c.new.ensures.items
          ∙ sym (no_parts text.with_parts (no_part (search_of text trees) 0 0 all c.requires.inverted));
      lines =
          let own = c.requires.compiled in
          sym (all_lines text own.0 c.requires.inverted bytes kept at seen (passed own.0 own.1) last between.span.0
          between.span.1 between.first count);
    }

pub next_hit-requires : goal.next_hit-requires
next_hit-requires g c =
    let i = c.loop-line.invariant in
    record {
      within = i.within;
      judge = c.requires.ready.judge;
      needles = i.needles;
      fits = i.fits;
      short = i.short;
    }
