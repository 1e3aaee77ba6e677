use Rattle.std.proofs.Common.{◌∙◌, ◌≡◌, ◌<◌, ◌+◌, length, arith, ap, length-set, get_or-set_same, subst, set}
use Rattle.pg_match.specs.Starts.{StartsBelow}
use Rattle.pg_match.proofs.StartLemmas.{starts_next}
use Rattle.pg_match.proofs.starts.starts_of.Goals as goal

pub loop-byte-preserved : goal.loop-byte-preserved
loop-byte-preserved g c =
    let inv = c.loop-byte.invariant in
    let n = c.loop-byte.byte in
    let cuts = c.loop-byte.cuts.items in
    let new = c.add_read.new.targets.items in
    let room : n + 1 < length cuts = omega (arith, inv.size, c.loop-byte-test.true) in
    let len : c.len.result ≡ length new = omega (arith, c.len.ensures, c.add_read.new.targets.ok.0) in
    let targeted = c.in_ok-add_read.ensures in
    record {
      size = length-set cuts (n + 1) c.len.result ∙ inv.size;
      last = get_or-set_same cuts (n + 1) c.len.result 0 room ∙ len;
      few = omega (arith, inv.few, targeted.few, c.requires.few);
      below = starts_next c.args.states.now c.args.seeds.now c.loop-byte.targets.items new cuts _ n inv.below inv.last
          targeted room (ap (λ v. set cuts (n + 1) v) len);
    }

pub returns : goal.returns
returns g c =
    let end : c.loop-byte.byte ≡ 256 = omega (arith, c.loop-byte-test.false, c.loop-byte.auto.byte-end) in
    record {
      size = c.loop-byte.invariant.size;
      below = subst (λ n. StartsBelow c.args.states.now c.args.seeds.now c.loop-byte.targets.items
          c.loop-byte.cuts.items n) end c.loop-byte.invariant.below;
      accepts = c.has_end.ensures;
    }
