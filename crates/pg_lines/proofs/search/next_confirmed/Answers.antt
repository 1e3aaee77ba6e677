use Rattle.std.proofs.Common.{◌≤◌, ◌^◌, ℕ, Option, Some, None, List, length, drop, sym, ap, ◌∙◌, subst, arith}
use Rattle.std.specs.Option.{MatchOption}
use Rattle.pg_selection.specs.Search.{SearchText, Pattern, AreTreesOf, search_of, uninverted, terminator_of}
use Rattle.pg_selection.specs.Selection.{selects}
use Rattle.pg_prefilter.specs.NextHits.{HasNoNextHit, IsNextHit}
use Rattle.pg_blocks.specs.declared.span.Span.{Span}
use Rattle.pg_prefilter.proofs.CandidateLemmas.{IsSkipped, skipped_all, skipped_some, skipped_more}
use Rattle.pg_prefilter.proofs.CandidateLemmas.{first_selected, first_enough, first_short, found_text}
use Rattle.pg_prefilter.proofs.JudgeLemmas.{judges_front}
use Rattle.pg_prefilter.proofs.SoughtLemmas.{needles_later, next_sought}
use Rattle.pg_lines.proofs.search.next_confirmed.Goals as goal
use Rattle.pg_lines.proofs.search.next_confirmed.Goals.{then-found-via-then-found}
use Rattle.pg_lines.proofs.search.next_confirmed.Goals.{then-found-via-else-found+then-has_hit}

pub returns-in-Nowhere-clause-found : goal.returns-in-Nowhere-clause-found
returns-in-Nowhere-clause-found g c = λ trees spelled.
    let text = c.args.query.now.text in
    let bytes = c.args.bytes.now in
    let from = c.loop-in_vain.from in
    let i = c.loop-in_vain.invariant in
    skipped_all (search_of (uninverted text) trees) c.args.at from bytes (i.skipped trees spelled)
    (next_sought text bytes from c.next_candidate.new.needles _ c.in-Nowhere.ensures.needles c.in-Nowhere.ensures.some
    c.in-Nowhere.ensures.next trees spelled)

pub has_hit-requires-clause-short : goal.has_hit-requires-clause-short
has_hit-requires-clause-short g c =
    let text = c.args.query.now.text in
    let E = terminator_of text in
    let bytes = c.args.bytes.now in
    let i = c.loop-in_vain.invariant in
    let from = c.loop-in_vain.from in
    let found = c.in-Found.found in
    let next = next_sought text bytes from c.next_candidate.new.needles _ c.in-Found.ensures.needles
    c.in-Found.ensures.some c.in-Found.ensures.next in
    let first = next.3 in
    let cut = found_text text from bytes found c.terminator-end.result c.text_of-text.result.now
    c.terminator-end.ensures first c.text_of-text.ensures.text in
    let P : List ℕ → Type 0 = λ l. length l ≤ 2 ^ 30 in
    subst P (sym cut) (first_short text from bytes found first i.short).0

pub returns-then-found-clause-found : goal.returns-then-found-clause-found
returns-then-found-clause-found g c =
    let text = c.args.query.now.text in
    let E = terminator_of text in
    let bytes = c.args.bytes.now in
    let i = c.loop-in_vain.invariant in
    let from = c.loop-in_vain.from in
    let found = c.in-Found.found in
    let next = next_sought text bytes from c.next_candidate.new.needles _ c.in-Found.ensures.needles
    c.in-Found.ensures.some c.in-Found.ensures.next in
    let first = next.3 in
    record {
      within = (omega (arith, i.low, next.0), next.1, next.2);
      first = λ trees spelled.
          let q = search_of (uninverted text) trees in
          skipped_some q c.args.at from bytes (i.skipped trees spelled) found.line (elim c.then-found.branch [
            | then-found-via-then-found w ↦
                first_enough text trees spelled from (drop from bytes) found first w.if-found.true
            | then-found-via-else-found+then-has_hit w ↦
                let cut = found_text text from bytes found c.terminator-end.result
                c.text_of-text.result.now c.terminator-end.ensures first c.text_of-text.ensures.text in
                first_selected text trees spelled from (drop from bytes) found first
                (ap (selects q) (sym cut) ∙ (sym (w.has_hit.ensures.hit trees spelled) ∙ w.if-has_hit.true))
          ]);
    }

pub loop-in_vain-preserved : goal.loop-in_vain-preserved
loop-in_vain-preserved g c =
    let text = c.args.query.now.text in
    let E = terminator_of text in
    let bytes = c.args.bytes.now in
    let i = c.loop-in_vain.invariant in
    let from = c.loop-in_vain.from in
    let found = c.in-Found.found in
    let next = next_sought text bytes from c.next_candidate.new.needles _ c.in-Found.ensures.needles
    c.in-Found.ensures.some c.in-Found.ensures.next in
    let first = next.3 in
    let cut = found_text text from bytes found c.terminator-end.result c.text_of-text.result.now
    c.terminator-end.ensures first c.text_of-text.ensures.text in
    record {
      fits = c.has_hit.ensures.fits;
      low = omega (arith, i.low, next.0, next.1);
      within = next.2;
      few = c.with_one_in_vain-in_vain.ensures.few;
      needles = c.with_one_in_vain-in_vain.ensures.needles bytes found.line.end
          (needles_later text bytes from found.line.end c.next_candidate.new.needles (omega (arith, next.0, next.1))
          c.in-Found.ensures.needles);
      some = λ few. c.with_one_in_vain-in_vain.ensures.some few c.in-Found.ensures.some;
      short = (first_short text from bytes found first i.short).1;
      skipped = λ trees spelled.
          let q = search_of (uninverted text) trees in
          skipped_more text trees spelled c.args.at from bytes found (i.skipped trees spelled)
          first (ap (selects q) (sym cut) ∙ (sym (c.has_hit.ensures.hit trees spelled) ∙ c.if-has_hit.false));
    }

-- what is found behind lines that have no hit is found behind what stands before them
found_later : (text : SearchText) (bytes : List ℕ) (at from : ℕ) (line : Option Span) → at ≤ from
    → ((trees : List Pattern) → AreTreesOf text trees → IsSkipped (search_of (uninverted text) trees) at from bytes)
    → MatchOption line (HasNoNextHit text bytes from) (IsNextHit text bytes from)
    → MatchOption line (HasNoNextHit text bytes at) (IsNextHit text bytes at)
found_later text bytes at from None low skipped none = λ trees spelled.
    skipped_all (search_of (uninverted text) trees) at from bytes (skipped trees spelled) (none trees spelled)
found_later text bytes at from (Some line) low skipped next = record {
  within = (omega (arith, low, next.within.0), next.within.1, next.within.2);
  first = λ trees spelled. skipped_some (search_of (uninverted text) trees) at from bytes (skipped trees spelled) line
      (next.first trees spelled);
}

pub returns-clause-found : goal.returns-clause-found
returns-clause-found g c =
    let i = c.loop-in_vain.invariant in
    found_later c.args.query.now.text c.args.bytes.now c.args.at c.loop-in_vain.from c.next_matched.result i.low
    i.skipped c.next_matched.ensures.found

pub returns-in-GaveUp-clause-found : goal.returns-in-GaveUp-clause-found
returns-in-GaveUp-clause-found g c =
    let i = c.loop-in_vain.invariant in
    found_later c.args.query.now.text c.args.bytes.now c.args.at c.loop-in_vain.from c.next_by_automaton.result i.low
    i.skipped c.next_by_automaton.ensures.found

pub returns-in-Nowhere-clause-needles : goal.returns-in-Nowhere-clause-needles
returns-in-Nowhere-clause-needles g c = tt

pub has_hit-requires-clause-line : goal.has_hit-requires-clause-line
has_hit-requires-clause-line g c =
    let line = c.in-Found.found.line in
    let next = next_sought c.args.query.now.text c.args.bytes.now c.loop-in_vain.from c.next_candidate.new.needles _
    c.in-Found.ensures.needles c.in-Found.ensures.some c.in-Found.ensures.next in
    let text = c.text_of-text.ensures in
    judges_front c.args.query.now.text c.args.bytes.now c.args.judge.now c.requires.ready.judge
    c.text_of-text.result.now
    line.start line.end (omega (arith, next.1)) next.2 text.front text.short

-- the literals of a row are looked for from the same place on
pub loop-in_vain-preserved-then-fall_back : goal.loop-in_vain-preserved-then-fall_back
loop-in_vain-preserved-then-fall_back g c =
    let text = c.args.query.now.text in
    let i = c.loop-in_vain.invariant in
    record {
      fits = i.fits;
      low = i.low;
      within = i.within;
      few = omega arith;
      needles = c.fall_back.ensures.needles text c.args.bytes.now c.loop-in_vain.from c.next_candidate.ensures.needles;
      some = λ few. c.fall_back.ensures.some c.if-fall_back.true;
      short = i.short;
      skipped = i.skipped;
    }
