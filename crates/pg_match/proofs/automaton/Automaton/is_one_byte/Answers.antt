use Rattle.std.proofs.Common.{◌∙◌, ◌+◌, get_or, arith, sym, true≢false}
use Rattle.std.proofs.lemmas.Option.{slice_get-get_or}
use Rattle.pg_pattern.specs.Bounds.{MayBegin, MayEnd}
use Rattle.pg_match.specs.Views.{nfa}
use Rattle.pg_match.proofs.ScanLemmas.{best_one}
use Rattle.pg_match.proofs.automaton.Automaton.is_one_byte.Goals as goal
use Rattle.pg_match.proofs.automaton.Automaton.is_one_byte.Goals.{then-may_begin, else-may_begin}

pub returns-then-may_end : goal.returns-then-may_end
returns-then-may_end g c = λ behind.
    let m = nfa c.args.self.now in
    let l = c.args.line.now in
    let i = c.args.place in
    let bounds : MayBegin m.bounds l i × MayEnd m.bounds l (i + 1) = elim c.if-may_begin.branch [
      | then-may_begin w ↦ (
        c.may_begin.ensures.0 w.if-may_begin.true,
        w.may_end.ensures.0 (sym w.value-is ∙ c.if-may_end.true),
      )
      | else-may_begin w ↦ absurd (true≢false (sym c.if-may_end.true ∙ w.value-is ∙ w.if-may_begin.false))
    ] in
    best_one m l i (get_or l i 0) c.args.self.now.seeds.items c.requires.built.seeds c.requires.built.runs
    (slice_get-get_or l i 0 (omega (arith, c.if-place-line.false))) c.if-place-eq0.false
    (omega (arith, c.if-place-line.false))
    bounds.0 bounds.1 (c.ends_behind.ensures behind)
