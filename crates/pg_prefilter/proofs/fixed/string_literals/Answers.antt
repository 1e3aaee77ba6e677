use Rattle.std.proofs.Common.{[]}
use Rattle.pg_prefilter.proofs.FixedLemmas.{string_more}
use Rattle.pg_prefilter.proofs.fixed.string_literals.Goals as goal

pub loop-string-preserved : goal.loop-string-preserved
loop-string-preserved g c =
    string_more c.args.fold c.args.bounds c.args.strings.now c.loop-string.string-index
    (record { ref_ptr = (0, 0); now = [] }) c.loop-string-test.true c.loop-string.literals.items c.push.new.self.items
    c.in_ok-literal_of.field-0 c.in_ok-literal_of.ensures c.in_ok-push.ensures.items c.loop-string.invariant
