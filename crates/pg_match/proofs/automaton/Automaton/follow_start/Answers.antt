use Rattle.std.proofs.Common.{◌∙◌, arith, sym, true≢false}
use Rattle.pg_match.specs.Views.{nfa, dfa}
use Rattle.pg_match.proofs.AnchoredLemmas.{start_row_few, follows_first, follows_on, follows_end, in_flags}
use Rattle.pg_match.proofs.automaton.Automaton.follow_start.Goals as goal
use Rattle.pg_match.proofs.automaton.Automaton.follow_start.Goals.{else-index-via-then-index+else-may_end}
use Rattle.pg_match.proofs.automaton.Automaton.follow_start.Goals.{else-index-via-else-index}

pub loop-place-init : goal.loop-place-init
loop-place-init g c =
    follows_first (nfa c.args.self.now) (dfa c.args.cache.now) c.requires.cache c.args.line.now c.args.start
    c.requires.built.runs c.start_row.result c.start_row.ensures (omega arith) (omega arith)

pub overflow_cast-state : goal.overflow_cast-state
overflow_cast-state g c = omega (arith, c.start_row.ensures, start_row_few c.args.start)

pub index-requires : goal.index-requires
index-requires g c =
    let size = c.args.cache.now.flags.ok.0 in
    let m = nfa c.args.self.now in
    let t = dfa c.args.cache.now in
    let p = c.loop-place.place in
    let inside = in_flags m t c.requires.cache c.args.line.now c.args.start c.requires.built.runs p c.loop-place.state
    c.index-next.result.now c.loop-place.last c.loop-place.invariant (omega (arith, c.type_inv.line p))
    c.loop-place-test.true c.index-next.ensures c.if-next-lt-STRIDE.false in
    omega arith

pub loop-place-preserved-then-may_end : goal.loop-place-preserved-then-may_end
loop-place-preserved-then-may_end g c =
    let p = c.loop-place.place in
    follows_end (nfa c.args.self.now) (dfa c.args.cache.now) c.requires.cache c.args.line.now c.args.start
    c.requires.built.runs p c.loop-place.state c.index-next.result.now c.loop-place.last c.loop-place.invariant
    (omega (arith, c.type_inv.line p)) c.loop-place-test.true c.index-next.ensures c.if-next-lt-STRIDE.false
    c.index.result.now c.index.ensures c.if-index.true (c.may_end.ensures.0 c.if-may_end.true)

pub loop-place-preserved : goal.loop-place-preserved
loop-place-preserved g c =
    let p = c.loop-place.place in
    follows_on (nfa c.args.self.now) (dfa c.args.cache.now) c.requires.cache c.args.line.now c.args.start
    c.requires.built.runs p c.loop-place.state c.index-next.result.now c.loop-place.last c.loop-place.invariant
    (omega (arith, c.type_inv.line p)) c.loop-place-test.true c.index-next.ensures c.if-next-lt-STRIDE.false
    c.index.result.now c.index.ensures
    (λ flag may. elim c.else-index.branch [
      | else-index-via-then-index+else-may_end w ↦ true≢false (sym (w.may_end.ensures.1 may) ∙ w.if-may_end.false)
      | else-index-via-else-index w ↦ true≢false (sym flag ∙ w.if-index.false)
    ])
