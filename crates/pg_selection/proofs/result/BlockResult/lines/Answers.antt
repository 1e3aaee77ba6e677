use Rattle.std.proofs.Common.{◌≡◌, length, subst}
use Rattle.pg_selection.specs.Searched.{SearchedBlock, lines_of}
use Rattle.pg_selection.proofs.result.BlockResult.lines.Goals as goal

pub returns : goal.returns
returns g c =
    let P : SearchedBlock → Type 0 = λ s. c.self.inside.found.lines ≡ length (lines_of s) in
    subst P c.self.view_is c.self.invariant.lines
