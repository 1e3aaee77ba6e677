use Rattle.std.proofs.Common.{List, subst, sym}
use Rattle.pg_selection.specs.Searched.{SearchedBlock}
use Rattle.pg_selection.specs.Runs.{HasRuns}
use Rattle.pg_selection.specs.declared.run.Run.{Run}
use Rattle.pg_selection.proofs.result.BlockResult.runs.Goals as goal

pub returns : goal.returns
returns g c =
    let P : SearchedBlock → Type 0 = λ s. HasRuns s.query s.block.bytes c.self.inside.found.runs.items in
    let Q : List Run → Type 0 = λ runs. HasRuns c.args.self.now.query c.args.self.now.block.bytes runs in
    subst Q (sym c.as_slice.ensures.value) (subst P c.self.view_is c.self.invariant.runs)
