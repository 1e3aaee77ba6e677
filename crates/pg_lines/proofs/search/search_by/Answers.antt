use Rattle.std.proofs.Common.{◌≡◌, ◌∙◌, length, arith, map, subst, sym}
use Rattle.std.specs.Prelude.{IfSome}
use Rattle.std.proofs.lemmas.Option.{IfSome_then}
use Rattle.pg_prefilter.specs.Literals.{AreLiterals, TellHeads, data_of}
use Rattle.pg_literal.specs.Literals.{as_searched}
use Rattle.pg_prefilter.specs.Strings.{IsJudgeOf, IsNear, IsTextReach, IsSetOf, ReadsSearched}
use Rattle.pg_prefilter.proofs.JudgeLemmas.{judge_known, judge_reads, sought_known}
use Rattle.pg_lines.proofs.search.search_by.Goals as goal

pub near_text-requires-clause-heads : goal.near_text-requires-clause-heads
near_text-requires-clause-heads g c =
    subst (λ text. TellHeads text c.args.literals.now) (sym c.text-options.ensures.text) c.requires.heads

pub near_text-requires-clause-literals : goal.near_text-requires-clause-literals
near_text-requires-clause-literals g c =
    subst (λ text. AreLiterals text (map data_of c.args.literals.now)) (sym c.text-options.ensures.text)
    c.requires.literals

pub near_text-requires-clause-reach : goal.near_text-requires-clause-reach
near_text-requires-clause-reach g c =
    subst (λ text. IfSome c.reach.result (IsTextReach text)) (sym c.text-options.ensures.text)
    (c.reach.ensures c.args.query.now.text c.prefilter-found.ensures)

pub selected_runs-requires-clause-ready : goal.selected_runs-requires-clause-ready
selected_runs-requires-clause-ready g c =
    let text = c.args.query.now.text in
    let bytes = c.args.bytes.now in
    let searched = c.args.searched.now in
    let set = c.args.set in
    let fixed = c.fixed_strings in
    let some = c.non_empty in
    let suffix = c.suffix in
    let near = c.near_text in
    let new = c.new-judge in
    let first = new.ensures.judge ∙ c.first_of-judge.ensures in
    let stands = subst (λ t. IfSome near.result (λ near. IsNear t near.finder near.before)) c.text-options.ensures.text
    near.ensures.near in
    let sought = c.sought_set.ensures in
    let known = IfSome_then set c.requires.set (λ set (of : IsSetOf text set.now). of.0) in
    record {
      within = omega arith;
      judge = record {
        judge = subst (IsJudgeOf text) (sym first)
            (judge_known set text fixed.result some.result suffix.result near.result c.requires.set fixed.ensures
            (some.ensures text c.prefilter-found.ensures) (suffix.ensures text c.prefilter-found.ensures) stands);
        searched = λ reads. new.ensures.searched
            ∙ judge_reads set (searched ≡ as_searched text.fold bytes) (length c.args.literals.now) fixed.result
            some.result suffix.result near.result fixed.ensures near.ensures.some c.requires.set_searched
            c.requires.searched
            (subst ReadsSearched first reads);
      };
      needles = c.in_ok-needles.ensures.needles text bytes c.requires.literals (sought_known _ _ _ sought known)
          (c.first_row.ensures text c.prefilter-found.ensures) c.requires.searched
          (sought_known _ _ _ sought c.requires.set_searched);
      fits = c.requires.fits;
      short = c.requires.short;
    }
