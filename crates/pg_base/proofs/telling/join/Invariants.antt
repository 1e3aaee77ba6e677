use Rattle.std.proofs.Common.{◌≡◌, take}
use Rattle.std.specs.List.{flat_map}
use Rattle.pg_base.proofs.telling.join.Given as goal

abbrev pub invariant-loop-part : goal.invariant-loop-part
invariant-loop-part g l = l.text.items ≡ flat_map (λ part. part.now) (take l.part-index l.parts)
