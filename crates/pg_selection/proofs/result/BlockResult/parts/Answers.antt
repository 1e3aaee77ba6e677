use Rattle.std.proofs.Common.{List, subst, sym}
use Rattle.pg_selection.specs.Searched.{SearchedBlock}
use Rattle.pg_selection.specs.BlockParts.{HasParts}
use Rattle.pg_selection.specs.declared.run.Part.{Part}
use Rattle.pg_selection.proofs.result.BlockResult.parts.Goals as goal

pub returns : goal.returns
returns g c =
    let P : SearchedBlock → Type 0 = λ s. HasParts s.query s.block.bytes c.self.inside.found.parts.items in
    let Q : List Part → Type 0 = λ parts. HasParts c.args.self.now.query c.args.self.now.block.bytes parts in
    subst Q (sym c.as_slice.ensures.value) (subst P c.self.view_is c.self.invariant.parts)
