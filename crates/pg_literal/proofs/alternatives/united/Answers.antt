use Rattle.std.proofs.Common.{arith}
use Rattle.pg_literal.proofs.FrontLemmas.{united_left, united_more, united_none, united_right}
use Rattle.pg_literal.proofs.alternatives.united.Goals as goal

pub loop-k-init : goal.loop-k-init
loop-k-init g c = united_none c.args.one.now c.args.other.now c.new-row.result.items c.new-row.ensures.items

pub loop-k-preserved : goal.loop-k-preserved
loop-k-preserved g c =
    united_more c.args.one.now c.args.other.now c.loop-k.row.items c.push.new.self.items c.loop-k.k _ c.union.result
    (omega arith) (omega arith) c.union.ensures c.in_ok-push.ensures.items c.loop-k.invariant

pub returns-clause-one : goal.returns-clause-one
returns-clause-one g c =
    united_left c.args.one.now c.args.other.now c.loop-k.row.items c.loop-k.k (omega arith) c.loop-k.invariant

pub returns-clause-other : goal.returns-clause-other
returns-clause-other g c =
    united_right c.args.one.now c.args.other.now c.loop-k.row.items c.loop-k.k (omega arith) c.loop-k.invariant
