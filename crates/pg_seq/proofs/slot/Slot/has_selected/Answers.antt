use Rattle.std.proofs.Common.{◌∙◌, not, ap, sym}
use Rattle.pg_seq.specs.Slots.{result_selects}
use Rattle.pg_seq.proofs.SelectLemmas.{runs_of, some_runs}
use Rattle.pg_seq.proofs.SlotLemmas.{query_of}
use Rattle.pg_seq.proofs.slot.Slot.has_selected.Goals as goal

pub returns-in-Some : goal.returns-in-Some
returns-in-Some g c =
    let found = c.in-Some.found in
    record {
      tells = λ q trees is. ap not c.is_empty.ensures
          ∙ (some_runs q found.block.bytes c.runs.result.now
          (runs_of q found.query found.block.bytes c.runs.result.now trees
          (query_of c.args.self.now found q is c.in-Some.is) c.runs.ensures)
          ∙ sym (ap (result_selects q) c.in-Some.is));
    }

pub returns-in-None : goal.returns-in-None
returns-in-None g c = record { tells = λ q trees is. sym (ap (result_selects q) c.in-None.is) }
