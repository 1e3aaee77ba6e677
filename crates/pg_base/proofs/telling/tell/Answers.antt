use Rattle.std.proofs.Common.{◌∙◌}
use Rattle.std.specs.List.{flat_map}
use Rattle.pg_base.proofs.WriteLemmas.{writes_as}
use Rattle.pg_base.proofs.telling.tell.Goals as goal

pub returns-in-Ok : goal.returns-in-Ok
returns-in-Ok g c =
    writes_as c.as_slice.result.now (flat_map (λ part. part.now) c.args.parts.now) _ _ _
    (c.as_slice.ensures.value ∙ c.in-Ok.ensures) c.write_all.ensures.writes
