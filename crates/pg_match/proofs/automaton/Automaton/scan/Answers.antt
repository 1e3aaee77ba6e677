use Rattle.std.proofs.Common.{◌+◌, ◌∙◌, arith, sym, true≢false}
use Rattle.pg_match.specs.Dfas.{HasScanned}
use Rattle.pg_match.specs.Views.{nfa, dfa}
use Rattle.pg_match.proofs.ScanLemmas.{has_flag, scan_first, scan_later, scan_read, scan_read_fresh, scan_reach}
use Rattle.pg_match.proofs.automaton.Automaton.scan.Given.{Over}
use Rattle.pg_match.proofs.automaton.Automaton.scan.Goals as goal
use Rattle.pg_match.proofs.automaton.Automaton.scan.Goals.{Else-next-lt-STRIDE}
use Rattle.pg_match.proofs.automaton.Automaton.scan.Goals.{then-from-eq0, else-from-eq0}

pub follow_rows-state-requires-clause-scanned : goal.follow_rows-state-requires-clause-scanned
follow_rows-state-requires-clause-scanned g c =
    let m = nfa c.args.self.now in
    let table = dfa c.args.cache.now in
    let l = c.args.line.now in
    let place = c.saturating_sub.ensures in
    elim c.if-from-eq0.branch [
      | then-from-eq0 w ↦
          rw (w.first-is, w.if-from-eq0.true)
          (scan_first m table l c.saturating_sub.result c.requires.cache
          (omega (arith, c.if-cache-eq0.false)) c.requires.bytes
          (omega (arith, w.if-from-eq0.true)))
      | else-from-eq0 w ↦
          rw w.first-is
          (scan_later m table l c.args.from c.saturating_sub.result c.requires.cache w.if-from-eq0.false
          c.requires.from_in (omega arith))
    ]

-- the line was scanned behind the next byte
next : (g : Over) (c : Else-next-lt-STRIDE g)
    → HasScanned (nfa c.args.self.now) (dfa c.args.cache.now) c.args.line.now c.args.from (c.loop-place.place + 1)
    c.index-next.result.now c.loop-place.start
next g c = scan_read _ _ _ _ c.loop-place.place _ _ _ _ (omega arith) c.requires.built.runs c.requires.cache
    (omega (arith, c.type_inv.line c.loop-place.place)) (omega (arith, c.loop-place-test.true)) c.index-next.ensures
    c.if-next-lt-STRIDE.false c.loop-place.invariant

pub index-requires : goal.index-requires
index-requires g c =
    let size = c.args.cache.now.flags.ok.0 in
    let s = next g (goal.at.index-requires g c).Else-next-lt-STRIDE in
    let inside = has_flag _ _ _ c.requires.cache s.row in
    omega arith

pub loop-place-preserved-then-index : goal.loop-place-preserved-then-index
loop-place-preserved-then-index g c = scan_read_fresh _ _ _ _ c.loop-place.place _ _ _ c.index-next.result.now _
    (omega arith) c.requires.built.runs c.requires.cache (omega (arith, c.type_inv.line c.loop-place.place))
    (omega (arith, c.loop-place-test.true)) c.index-next.ensures c.if-next-lt-STRIDE.false c.index.ensures
    c.if-index.true c.loop-place.invariant

pub loop-place-preserved : goal.loop-place-preserved
loop-place-preserved g c = next g (goal.at.loop-place-preserved g c).Else-next-lt-STRIDE

pub returns-in-Some-false : goal.returns-in-Some-false
returns-in-Some-false g c = λ run.
    let s = c.loop-place.invariant in
    let so = c.in-Some-false.ensures c.args.from s.near s.stands in
    true≢false (sym (so.1 run) ∙ c.in-Some-false.field-0-test)

pub returns-in-Some-true : goal.returns-in-Some-true
returns-in-Some-true g c = rw c.latest_start-start.ensures
    (scan_reach (nfa c.args.self.now) (dfa c.args.cache.now) c.args.line.now c.args.from c.loop-place.place
    c.loop-place.state c.loop-place.start c.args.self.now.reach c.requires.built.reach c.loop-place.invariant)

pub returns-in-None : goal.returns-in-None
returns-in-None g c = rw c.latest_start-start.ensures
    (scan_reach (nfa c.args.self.now) (dfa c.args.cache.now) c.args.line.now c.args.from c.loop-place.place
    c.loop-place.state c.loop-place.start c.args.self.now.reach c.requires.built.reach c.loop-place.invariant)
