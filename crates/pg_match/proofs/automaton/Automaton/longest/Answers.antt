use Rattle.std.proofs.Common.{◌/◌, ◌<◌, ◌∙◌, length, get_or, arith, sym, true≢false, true, false, None}
use Rattle.std.proofs.lemmas.List.{get_or_read}
use Rattle.pg_match.specs.Dfas.{In}
use Rattle.pg_match.specs.Views.{nfa, dfa}
use Rattle.pg_match.proofs.AnchoredLemmas.{in_rows, in_steps, begun_dead, begun_no_more, best_at_end, ends_told}
use Rattle.pg_match.proofs.AnchoredLemmas.{nothing_here}
use Rattle.pg_match.proofs.automaton.Automaton.longest.Goals as goal

pub index-next-requires : goal.index-next-requires
index-next-requires g c =
    let f = c.follow_start-state.ensures in
    let inside = in_steps (nfa c.args.self.now) (dfa c.args.cache.now) c.requires.cache
    c.follow_start-state.result.state (get_or c.args.line.now c.follow_start-state.result.place 0) f.row
    (omega (arith, c.type_inv.line c.follow_start-state.result.place)) in
    omega (arith, inside)

pub returns-then-next-eq-DEAD : goal.returns-then-next-eq-DEAD
returns-then-next-eq-DEAD g c =
    let f = c.follow_start-state in
    rw c.outcome_at.ensures (begun_dead (nfa c.args.self.now) (dfa c.args.cache.now) c.requires.cache
    c.args.line.now c.args.start c.requires.built.runs f.result.place f.result.state c.index-next.result.now
    f.result.last f.ensures (c.may_begin.ensures.0 c.if-not-may_begin.false)
    (omega (arith, c.type_inv.line f.result.place)) c.if-place-line.true c.index-next.ensures c.if-next-eq-DEAD.true)

pub returns-then-is_end : goal.returns-then-is_end
returns-then-is_end g c =
    let m = nfa c.args.self.now in
    let t = dfa c.args.cache.now in
    let f = c.follow_start-state.ensures in
    let at = c.follow_start-state.result.state in
    let inside : at / 256 < length t.ends = omega (
      arith,
      in_rows m t c.requires.cache at f.row,
      c.requires.cache.shape.ends_size,
    ) in
    let told = get_or_read t.ends (at / 256) c.index.result.now inside c.index.ensures None in
    best_at_end m c.args.line.now c.args.start c.requires.built.runs c.follow_start-state.result.place (In t (at / 256))
    f.stands (omega (arith, f.within)) (c.may_begin.ensures.0 c.if-not-may_begin.false) (omega arith)
    (ends_told m t c.requires.cache (at / 256) c.index.result.now c.in-Some.is_end true told c.in-Some.is
    c.if-is_end.true)

pub returns-else-is_end : goal.returns-else-is_end
returns-else-is_end g c =
    let m = nfa c.args.self.now in
    let t = dfa c.args.cache.now in
    let f = c.follow_start-state.ensures in
    let at = c.follow_start-state.result.state in
    let inside : at / 256 < length t.ends = omega (
      arith,
      in_rows m t c.requires.cache at f.row,
      c.requires.cache.shape.ends_size,
    ) in
    let told = get_or_read t.ends (at / 256) c.index.result.now inside c.index.ensures None in
    rw c.outcome_at-else-is_end.ensures (begun_no_more m c.args.line.now c.args.start c.requires.built.runs
    c.follow_start-state.result.place c.follow_start-state.result.last (In t (at / 256)) f.stands f.found
    (omega (arith, f.within)) (c.may_begin.ensures.0 c.if-not-may_begin.false) (omega arith)
    (ends_told m t c.requires.cache (at / 256) c.index.result.now c.in-Some.is_end false told c.in-Some.is
    c.if-is_end.false))

pub returns-then-not-may_begin : goal.returns-then-not-may_begin
returns-then-not-may_begin g c =
    nothing_here (nfa c.args.self.now) c.args.line.now c.args.start
    (λ may. true≢false (sym (c.may_begin.ensures.1 may) ∙ c.if-not-may_begin.true))
