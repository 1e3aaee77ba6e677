use Rattle.std.proofs.Common.{◌<◌, length, ◌∙◌, arith}
use Rattle.std.proofs.lemmas.List.Elements.{All-set, AllWithin-more_set}
use Rattle.pg_prefilter.specs.Candidates.{IsAhead, IsFoundBehind}
use Rattle.pg_prefilter.specs.declared.needle.Needle.{Needle}
use Rattle.pg_prefilter.proofs.NeedleLemmas.{literals_set}
use Rattle.pg_prefilter.proofs.needle.NeedleList.advance.Goals as goal

pub loop-needle-preserved : goal.loop-needle-preserved
loop-needle-preserved g c =
    let needles = c.loop-needle.needle-items in
    let below : c.loop-needle.needle-index < length needles =
    omega (arith, c.loop-needle.auto.needle-items, c.loop-needle-test.true) in
    let i = c.loop-needle.needle-index in
    let old = c.needle-item.result in
    let new = c.advance.new.self in
    let says = c.advance.ensures in
    let at = c.args.at in
    let Found : Needle → Type 0 = IsFoundBehind c.args.self.now.searched.now at in
    record {
      literals = literals_set needles i new old below says.literal
          ∙ c.loop-needle.invariant.literals;
      ahead = All-set (IsAhead c.args.self.now.searched.now at) needles i new says.ahead c.loop-needle.invariant.ahead;
      found = AllWithin-more_set needles i new below Found c.loop-needle.invariant.found says.found;
    }
