use Rattle.std.proofs.Common.{ap}
use Rattle.std.proofs.lemmas.List.{drop_all}
use Rattle.std.specs.List.{flat_map}
use Rattle.pg_base.proofs.WriteLemmas.{writes_part, left_none, left_whole}
use Rattle.pg_base.proofs.PartLemmas.{left_of_parts, part_of_parts}
use Rattle.pg_base.proofs.telling.write_each.Goals as goal

pub loop-part-init : goal.loop-part-init
loop-part-init g c = left_whole (flat_map (λ part. part.now) c.args.parts.now) (g.W.Sink.stream c.args.err.now)

pub loop-part-preserved : goal.loop-part-preserved
loop-part-preserved g c =
    left_of_parts (λ part. part.now) c.args.parts.now c.loop-part.part-index _ _ _ _ c.loop-part-test.true
    c.loop-part.invariant c.in_ok-write_all.ensures.writes.ok

pub returns-in_err-write_all : goal.returns-in_err-write_all
returns-in_err-write_all g c =
    writes_part (flat_map (λ part. part.now) c.args.parts.now) _ _ c.from_residual.result c.from_residual.ensures.0
    (part_of_parts (λ part. part.now) c.args.parts.now c.loop-part.part-index _ _ _ _ c.loop-part-test.true
    c.loop-part.invariant c.in_err-write_all.ensures.writes.err)

pub returns : goal.returns
returns g c = record {
  ok = left_none (flat_map (λ part. part.now) c.args.parts.now) _ _ _
      (ap (flat_map (λ part. part.now)) (drop_all c.loop-part.part-index c.args.parts.now c.loop-part-test.false))
      c.loop-part.invariant;
  err = tt;
}
