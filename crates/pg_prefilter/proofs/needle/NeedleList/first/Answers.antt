use Rattle.std.proofs.Common.{◌≡◌, ◌<◌, List, length, get_or, subst}
use Rattle.pg_prefilter.specs.declared.needle.Needle.{Needle}
use Rattle.pg_prefilter.proofs.NeedleLemmas.{least_more, stands_more}
use Rattle.pg_prefilter.proofs.needle.NeedleList.first.Goals as goal

pub loop-needle-preserved : goal.loop-needle-preserved
loop-needle-preserved g c =
    let i = c.loop-needle.needle-index in
    let n = c.needle-item.result in
    let needles = c.args.self.now.needles.items in
    let At : List Needle → Type 0 = λ ns. (i < length ns) × (n ≡ get_or ns i n) in
    let at = subst At c.deref-needle-items.ensures.value (c.loop-needle-test.true, c.needle-item.is) in
    let old = c.loop-needle.first in
    let new = c.or_before-first.result in
    let says = c.or_before-first.ensures in
    record {
      stands = stands_more needles i n at.0 at.1 old new c.loop-needle.invariant.stands says.stands;
      least = least_more needles i n at.0 at.1 old new says.other says.least c.loop-needle.invariant.least;
    }
