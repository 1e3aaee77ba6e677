use Rattle.std.proofs.Common.{arith, refl}
use Rattle.std.proofs.lemmas.Grind.{common_steps}
use Rattle.pg_base.proofs.SinkLemmas.{ok_of_err, on_err}
use Rattle.pg_files.proofs.MemStoreLemmas.{left_added}
use Rattle.pg_files.proofs.mem_store.MemStore.add.Goals as goal

pub returns-in_err-from_str-clause-ok : goal.returns-in_err-from_str-clause-ok
returns-in_err-from_str-clause-ok g c = ok_of_err c.from_residual.result _ c.from_residual.ensures.0

pub returns-in_err-from_str-clause-err : goal.returns-in_err-from_str-clause-err
returns-in_err-from_str-clause-err g c = on_err _ c.from_residual.result refl

pub returns-in_err-from_slice-clause-ok : goal.returns-in_err-from_slice-clause-ok
returns-in_err-from_slice-clause-ok g c =
    ok_of_err c.from_residual-in_err-from_slice.result _ c.from_residual-in_err-from_slice.ensures.0

pub returns-in_err-from_slice-clause-err : goal.returns-in_err-from_slice-clause-err
returns-in_err-from_slice-clause-err g c = on_err _ c.from_residual-in_err-from_slice.result refl

pub returns-in_err-push-clause-ok : goal.returns-in_err-push-clause-ok
returns-in_err-push-clause-ok g c =
    ok_of_err c.from_residual-in_err-push.result _ c.from_residual-in_err-push.ensures.0

pub returns-clause-ok : goal.returns-clause-ok
returns-clause-ok g c = grind (arith, common_steps)

pub returns-clause-err : goal.returns-clause-err
returns-clause-err g c = tt

pub returns-clause-left : goal.returns-clause-left
returns-clause-left g c =
    let before = c.args.self.now in
    left_added before.files.items _ _ c.in_ok-push.ensures.items before.open before.at before.is_open
