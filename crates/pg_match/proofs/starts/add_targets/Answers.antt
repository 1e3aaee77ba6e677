use Rattle.std.proofs.Common.{◌<◌, length, get_or, sym, refl}
use Rattle.std.specs.Prelude.{slice_index}
use Rattle.pg_match.specs.declared.state.State.TheVariants.{Fail}
use Rattle.pg_match.proofs.ClosureLemmas.{stands}
use Rattle.pg_match.proofs.StartLemmas.{targeted_over, targeted_next, not_reading, refusing}
use Rattle.pg_match.proofs.starts.add_targets.Goals as goal
use Rattle.pg_match.proofs.starts.add_targets.Goals.{in-Read+then-contains+in_ok-push, in-Read+else-contains}
use Rattle.pg_match.proofs.starts.add_targets.Goals.{in_default}

pub loop-k-preserved : goal.loop-k-preserved
loop-k-preserved g c =
    let t = c.args.states.now in
    let seeds = c.args.seeds.now in
    let b = c.args.byte in
    let k = c.loop-k.k in
    let lt : k < length seeds = c.loop-k-test.true in
    let q = slice_index seeds k in
    let inside : q < length t = c.requires.inside k lt in
    elim c.match-states-state.branch [
      | in-Read+then-contains+in_ok-push w ↦
          let is = stands t q _ inside w.in-Read.is in
          rw w.targets-is
          (targeted_next t seeds b c.args.targets.now.items c.loop-k.targets.items _ k w.in-Read.to w.in-Read.set
          c.loop-k.invariant is (sym w.if-contains.ensures) w.in_ok-push.ensures.items)
      | in-Read+else-contains w ↦
          let is = stands t q _ inside w.in-Read.is in
          rw w.targets-is
          (targeted_over t seeds b c.args.targets.now.items c.loop-k.targets.items k c.loop-k.invariant
          (refusing t seeds b c.args.targets.now.items k w.in-Read.to w.in-Read.set is (sym w.if-contains.ensures)))
      | in_default w ↦
          let st = get_or t q Fail in
          let is = stands t q st inside refl in
          rw w.targets-is
          (targeted_over t seeds b c.args.targets.now.items c.loop-k.targets.items k c.loop-k.invariant
          (not_reading t seeds b c.args.targets.now.items k st is w.in_default.not-Read))
    ]
