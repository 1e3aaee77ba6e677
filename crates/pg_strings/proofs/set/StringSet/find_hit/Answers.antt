use Rattle.std.proofs.Common.{length, ◌+◌, ◌-◌, ℕ, map, arith}
use Rattle.pg_pattern.specs.Strings.{items_of}
use Rattle.pg_strings.specs.Sets.{SomeHit, work}
use Rattle.pg_strings.proofs.PlaceLemmas.{nowhere_joined, nowhere_at, no_hits, further, looked}
use Rattle.pg_strings.proofs.set.StringSet.find_hit.Goals as goal

pub returns-then-next-bytes-clause-outcome : goal.returns-then-next-bytes-clause-outcome
returns-then-next-bytes-clause-outcome g c =
    let P : ℕ → Type 0 = SomeHit (map items_of c.args.self.now.strings.items) c.args.bounds c.args.bytes.now in
    λ k low high.
    nowhere_joined P c.args.from c.loop-place.place c.skip-next.result c.loop-place.invariant.none
    (no_hits (map items_of c.args.self.now.strings.items) c.args.bounds c.args.bytes.now c.loop-place.place
    c.skip-next.result c.skip-next.ensures.none)
    k low (omega (arith, high, c.if-next-bytes.true))

pub returns-in-Stands-clause-outcome : goal.returns-in-Stands-clause-outcome
returns-in-Stands-clause-outcome g c =
    let P : ℕ → Type 0 = SomeHit (map items_of c.args.self.now.strings.items) c.args.bounds c.args.bytes.now in
    let low = c.loop-place.invariant.low in (
      record {
        low = omega (arith, low, c.skip-next.ensures.low);
        high = c.if-next-bytes.false;
        before = nowhere_joined P c.args.from c.loop-place.place c.skip-next.result c.loop-place.invariant.none
            (no_hits (map items_of c.args.self.now.strings.items) c.args.bounds c.args.bytes.now c.loop-place.place
            c.skip-next.result c.skip-next.ensures.none);
      },
      c.in-Stands.ensures.look,
    )

pub returns-in-GaveUp-clause-outcome : goal.returns-in-GaveUp-clause-outcome
returns-in-GaveUp-clause-outcome g c =
    let P : ℕ → Type 0 = SomeHit (map items_of c.args.self.now.strings.items) c.args.bounds c.args.bytes.now in
    let low = c.loop-place.invariant.low in (
      omega (arith, low, c.skip-next.ensures.low),
      c.skip-next.ensures.high,
      nowhere_joined P c.args.from c.loop-place.place c.skip-next.result c.loop-place.invariant.none
          (no_hits (map items_of c.args.self.now.strings.items) c.args.bounds c.args.bytes.now c.loop-place.place
          c.skip-next.result c.skip-next.ensures.none),
    )

pub returns-in-GaveUp-clause-budget : goal.returns-in-GaveUp-clause-budget
returns-in-GaveUp-clause-budget g c =
    let all = work (map items_of c.args.self.now.strings.items) in
    let from = c.args.from in
    let next = c.skip-next.result in
    let low = c.loop-place.invariant.low in
    let reached = further c.args.budget.now.left c.loop-place.budget.left c.earn.new.self.left
    (c.loop-place.place - from) (next - from) all (omega (arith, low, c.skip-next.ensures.low)) c.earn.ensures.more
    c.loop-place.invariant.least in
    let seen = looked c.args.budget.now.left c.earn.new.self.left c.look_at.new.budget.left (next - from)
    (next + 1 - from) all (omega (arith, low, c.skip-next.ensures.low)) c.look_at.ensures.cost reached in
    let none = c.in-GaveUp.ensures.look in
    (none, grind (arith, none, seen))

pub returns-in-Stands-clause-budget : goal.returns-in-Stands-clause-budget
returns-in-Stands-clause-budget g c =
    let all = work (map items_of c.args.self.now.strings.items) in
    let from = c.args.from in
    let next = c.skip-next.result in
    let low = c.loop-place.invariant.low in
    let most = c.loop-place.invariant.most in
    let reached = further c.args.budget.now.left c.loop-place.budget.left c.earn.new.self.left
    (c.loop-place.place - from) (next - from) all (omega (arith, low, c.skip-next.ensures.low)) c.earn.ensures.more
    c.loop-place.invariant.least in (
      omega (arith, low, most, c.skip-next.ensures.low, c.earn.ensures.most, c.look_at.ensures.less),
      looked c.args.budget.now.left c.earn.new.self.left c.look_at.new.budget.left (next - from) (next + 1 - from) all
          (omega (arith, low, c.skip-next.ensures.low)) c.look_at.ensures.cost reached,
    )

pub returns-then-next-bytes-clause-budget : goal.returns-then-next-bytes-clause-budget
returns-then-next-bytes-clause-budget g c =
    let all = work (map items_of c.args.self.now.strings.items) in
    let from = c.args.from in
    let stop = length c.args.bytes.now in
    let low = c.loop-place.invariant.low in
    let most = c.loop-place.invariant.most in (
      omega (arith, low, most, c.skip-next.ensures.low, c.skip-next.ensures.high, c.earn.ensures.most),
      further c.args.budget.now.left c.loop-place.budget.left c.earn.new.self.left (c.loop-place.place - from)
          (stop - from) all (omega (arith, low, c.loop-place.invariant.high)) c.earn.ensures.more
          c.loop-place.invariant.least,
    )

pub returns-clause-budget : goal.returns-clause-budget
returns-clause-budget g c =
    let all = work (map items_of c.args.self.now.strings.items) in
    let from = c.args.from in
    let stop = length c.args.bytes.now in
    let low = c.loop-place.invariant.low in
    let high = c.loop-place.invariant.high in
    let most = c.loop-place.invariant.most in
    let left = c.loop-place.budget.left in (
      omega (arith, low, most, high, c.loop-place-test.false),
      further c.args.budget.now.left left left (c.loop-place.place - from) (stop - from) all
          (omega (arith, low, high)) (omega arith) c.loop-place.invariant.least,
    )

pub loop-place-preserved : goal.loop-place-preserved
loop-place-preserved g c =
    let P : ℕ → Type 0 = SomeHit (map items_of c.args.self.now.strings.items) c.args.bounds c.args.bytes.now in
    let all = work (map items_of c.args.self.now.strings.items) in
    let from = c.args.from in
    let next = c.skip-next.result in
    let low = c.loop-place.invariant.low in
    let most = c.loop-place.invariant.most in
    let reached = further c.args.budget.now.left c.loop-place.budget.left c.earn.new.self.left
    (c.loop-place.place - from)
    (next - from) all (omega (arith, low, c.skip-next.ensures.low)) c.earn.ensures.more c.loop-place.invariant.least in
    let seen = looked c.args.budget.now.left c.earn.new.self.left c.look_at.new.budget.left (next - from)
    (next + 1 - from)
    all (omega (arith, low, c.skip-next.ensures.low)) c.look_at.ensures.cost reached in
    let place = c.next_begin-place.result in
    record {
      low = omega (arith, low, c.skip-next.ensures.low, c.next_begin-place.ensures.low);
      high = c.next_begin-place.ensures.high;
      none = nowhere_joined P from (next + 1) place (nowhere_joined P from next (next + 1)
          (nowhere_joined P from c.loop-place.place next c.loop-place.invariant.none
          (no_hits (map items_of c.args.self.now.strings.items) c.args.bounds c.args.bytes.now c.loop-place.place
          c.skip-next.result c.skip-next.ensures.none))
          (nowhere_at P next c.in-NoneStands.ensures.look))
          (λ k least less hit. c.next_begin-place.ensures.none k least less hit.0);
      most = omega (
        arith,
        low,
        most,
        c.skip-next.ensures.low,
        c.earn.ensures.most,
        c.look_at.ensures.less,
        c.earn-in-loop-place.ensures.most,
        c.next_begin-place.ensures.low,
      );
      least = further c.args.budget.now.left c.look_at.new.budget.left c.earn-in-loop-place.new.self.left
          (next + 1 - from) (place - from) all (omega (arith, c.next_begin-place.ensures.low))
          c.earn-in-loop-place.ensures.more seen;
    }

pub returns-clause-outcome : goal.returns-clause-outcome
returns-clause-outcome g c = λ k low high. c.loop-place.invariant.none k low (omega
    (arith, high, c.loop-place-test.false))
