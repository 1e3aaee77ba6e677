use Rattle.std.proofs.Common.{ℕ, ◌+◌, get_or, arith}
use Rattle.pg_match.specs.Dfas.{HasScanned}
use Rattle.pg_match.specs.Views.{nfa, dfa}
use Rattle.pg_match.proofs.CacheLemmas.{in_table}
use Rattle.pg_match.proofs.ScanLemmas.{has_flag, scan_read, scan_read_fresh}
use Rattle.pg_match.proofs.automaton.Automaton.follow_rows.Given.{Over}
use Rattle.pg_match.proofs.automaton.Automaton.follow_rows.Goals as goal
use Rattle.pg_match.proofs.automaton.Automaton.follow_rows.Goals.{Else-one-lt-STRIDE, Else-two-lt-STRIDE}
use Rattle.pg_match.proofs.automaton.Automaton.follow_rows.Goals.{Else-three-lt-STRIDE, Joined-index}
use Rattle.pg_match.proofs.automaton.Automaton.follow_rows.Goals.{then-index, else-index+then-index-2}
use Rattle.pg_match.proofs.automaton.Automaton.follow_rows.Goals.{else-index+else-index-2+then-index-3}
use Rattle.pg_match.proofs.automaton.Automaton.follow_rows.Goals.{else-index+else-index-2+else-index-3+then-index-4}
use Rattle.pg_match.proofs.automaton.Automaton.follow_rows.Goals.{else-index+else-index-2+else-index-3+else-index-4}

-- the line was scanned behind the first byte, and where it was up to a byte, it was behind the next one
first : (g : Over) (c : Else-one-lt-STRIDE g)
    → HasScanned (nfa c.args.self.now) (dfa c.args.cache.now) c.args.line.now c.args.from (c.loop-here.here + 1)
    c.index-one.result.now c.loop-here.start
first g c = scan_read _ _ _ _ c.loop-here.here _ _ _ _ (omega arith) c.requires.built.runs c.requires.cache
    (omega (arith, c.type_inv.line c.loop-here.here)) (omega (arith, c.loop-here-test.true)) c.index-one.ensures
    c.if-one-lt-STRIDE.false c.loop-here.invariant

second : (g : Over) (c : Else-two-lt-STRIDE g) {start : ℕ}
    → HasScanned (nfa c.args.self.now) (dfa c.args.cache.now) c.args.line.now c.args.from (c.loop-here.here + 1)
    c.index-one.result.now start
    → HasScanned (nfa c.args.self.now) (dfa c.args.cache.now) c.args.line.now c.args.from (c.loop-here.here + 2)
    c.index-two.result.now start
second g c = scan_read _ _ _ _ (c.loop-here.here + 1) _ _ _ _ (omega arith) c.requires.built.runs c.requires.cache
    (omega (arith, c.type_inv.line (c.loop-here.here + 1))) (omega (arith, c.loop-here-test.true)) c.index-two.ensures
    c.if-two-lt-STRIDE.false

third : (g : Over) (c : Else-three-lt-STRIDE g) {start : ℕ}
    → HasScanned (nfa c.args.self.now) (dfa c.args.cache.now) c.args.line.now c.args.from (c.loop-here.here + 2)
    c.index-two.result.now start
    → HasScanned (nfa c.args.self.now) (dfa c.args.cache.now) c.args.line.now c.args.from (c.loop-here.here + 3)
    c.index-three.result.now start
third g c = scan_read _ _ _ _ (c.loop-here.here + 2) _ _ _ _ (omega arith) c.requires.built.runs c.requires.cache
    (omega (arith, c.type_inv.line (c.loop-here.here + 2))) (omega (arith, c.loop-here-test.true))
    c.index-three.ensures c.if-three-lt-STRIDE.false

fourth : (g : Over) (c : Joined-index g) {start : ℕ}
    → HasScanned (nfa c.args.self.now) (dfa c.args.cache.now) c.args.line.now c.args.from (c.loop-here.here + 3)
    c.index-three.result.now start
    → HasScanned (nfa c.args.self.now) (dfa c.args.cache.now) c.args.line.now c.args.from (c.loop-here.here + 4)
    c.index-four.result.now start
fourth g c = scan_read _ _ _ _ (c.loop-here.here + 3) _ _ _ _ (omega arith) c.requires.built.runs c.requires.cache
    (omega (arith, c.type_inv.line (c.loop-here.here + 3))) (omega (arith, c.loop-here-test.true)) c.index-four.ensures
    c.if-four-lt-STRIDE.false

pub index-three-requires : goal.index-three-requires
index-three-requires g c =
    let at = goal.at.index-three-requires g c in
    let size = c.args.cache.now.steps.ok.0 in
    let s = second g at.Else-two-lt-STRIDE (first g at.Else-one-lt-STRIDE) in
    let inside = in_table _ _ _ (get_or c.args.line.now (c.loop-here.here + 2) 0) c.requires.cache s.row
    (omega (arith, c.type_inv.line (c.loop-here.here + 2))) in
    omega arith

pub index-four-requires : goal.index-four-requires
index-four-requires g c =
    let at = goal.at.index-four-requires g c in
    let size = c.args.cache.now.steps.ok.0 in
    let s = third g at.Else-three-lt-STRIDE (second g at.Else-two-lt-STRIDE (first g at.Else-one-lt-STRIDE)) in
    let inside = in_table _ _ _ (get_or c.args.line.now (c.loop-here.here + 3) 0) c.requires.cache s.row
    (omega (arith, c.type_inv.line (c.loop-here.here + 3))) in
    omega arith

pub index-requires : goal.index-requires
index-requires g c =
    let at = goal.at.index-requires g c in
    let size = c.args.cache.now.flags.ok.0 in
    let s = scan_read _ _ _ _ (c.loop-here.here + 3) (c.loop-here.here + 4) _ _ c.index-four.result.now (omega arith)
    c.requires.built.runs c.requires.cache (omega (arith, c.type_inv.line (c.loop-here.here + 3)))
    (omega (arith, c.loop-here-test.true)) c.index-four.ensures c.if-four-lt-STRIDE.false
    (third g at.Else-three-lt-STRIDE (second g at.Else-two-lt-STRIDE (first g at.Else-one-lt-STRIDE))) in
    let inside = has_flag _ _ _ c.requires.cache s.row in
    omega arith

pub index-requires-else-index : goal.index-requires-else-index
index-requires-else-index g c =
    let at = goal.at.index-requires-else-index g c in
    let size = c.args.cache.now.flags.ok.0 in
    let s = third g at.Else-three-lt-STRIDE (second g at.Else-two-lt-STRIDE (first g at.Else-one-lt-STRIDE)) in
    let inside = has_flag _ _ _ c.requires.cache s.row in
    omega arith

pub index-requires-else-index-2 : goal.index-requires-else-index-2
index-requires-else-index-2 g c =
    let at = goal.at.index-requires-else-index-2 g c in
    let size = c.args.cache.now.flags.ok.0 in
    let s = second g at.Else-two-lt-STRIDE (first g at.Else-one-lt-STRIDE) in
    let inside = has_flag _ _ _ c.requires.cache s.row in
    omega arith

pub index-requires-else-index-3 : goal.index-requires-else-index-3
index-requires-else-index-3 g c =
    let size = c.args.cache.now.flags.ok.0 in
    let s = first g (goal.at.index-requires-else-index-3 g c).Else-one-lt-STRIDE in
    let inside = has_flag _ _ _ c.requires.cache s.row in
    omega arith

pub loop-here-preserved : goal.loop-here-preserved
loop-here-preserved g c =
    let at = goal.at.loop-here-preserved g c in
    let p = c.loop-here.here in
    let is_m = c.requires.built.runs in
    let is = c.requires.cache in
    let more = c.loop-here-test.true in
    let fresh = scan_read_fresh (nfa c.args.self.now) (dfa c.args.cache.now) c.args.line.now c.args.from in
    let s1 = first g at.Else-one-lt-STRIDE in
    let s2 = second g at.Else-two-lt-STRIDE s1 in
    let s3 = third g at.Else-three-lt-STRIDE s2 in
    elim c.if-index.branch [
      | then-index w ↦
          rw w.start-is (fresh (p + 3) (p + 4) _ _ c.index-four.result.now c.index.result.now (omega arith) is_m is
          (omega (arith, c.type_inv.line (p + 3))) (omega (arith, more)) c.index-four.ensures c.if-four-lt-STRIDE.false
          c.index.ensures w.if-index.true s3)
      | else-index+then-index-2 w ↦
          rw w.start-is (fourth g at.Joined-index (fresh (p + 2) (p + 3) _ _ c.index-three.result.now
          w.index-else-index.result.now (omega arith) is_m is (omega (arith, c.type_inv.line (p + 2)))
          (omega (arith, more)) c.index-three.ensures c.if-three-lt-STRIDE.false w.index-else-index.ensures
          w.if-index-2.true s2))
      | else-index+else-index-2+then-index-3 w ↦
          rw w.start-is (fourth g at.Joined-index (third g at.Else-three-lt-STRIDE (fresh (p + 1) (p + 2) _ _
          c.index-two.result.now w.index-else-index-2.result.now (omega arith) is_m is
          (omega (arith, c.type_inv.line (p + 1))) (omega (arith, more)) c.index-two.ensures c.if-two-lt-STRIDE.false
          w.index-else-index-2.ensures w.if-index-3.true s1)))
      | else-index+else-index-2+else-index-3+then-index-4 w ↦
          rw w.start-is (fourth g at.Joined-index (third g at.Else-three-lt-STRIDE (second g at.Else-two-lt-STRIDE
          (fresh p (p + 1) _ _ c.index-one.result.now w.index-else-index-3.result.now (omega arith) is_m is
          (omega (arith, c.type_inv.line p)) (omega (arith, more)) c.index-one.ensures c.if-one-lt-STRIDE.false
          w.index-else-index-3.ensures w.if-index-4.true c.loop-here.invariant))))
      | else-index+else-index-2+else-index-3+else-index-4 w ↦ rw w.start-is (fourth g at.Joined-index s3)
    ]
