use Rattle.std.proofs.Common.{ap}
use Rattle.pg_selection.specs.Searched.{SearchedBlock}
use Rattle.pg_selection.proofs.result.BlockResult.block.Goals as goal

pub returns : goal.returns
returns g c = ap (λ (s : SearchedBlock). s.block) c.self.view_is
