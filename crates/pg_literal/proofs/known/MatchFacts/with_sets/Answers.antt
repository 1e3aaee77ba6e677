use Rattle.std.proofs.Common.{◌≡◌, add-one, subst, arith}
use Rattle.pg_bytes.specs.ByteSets.{bytes}
use Rattle.pg_pattern.specs.Patterns.{Set}
use Rattle.pg_literal.specs.Known.{Repeats}
use Rattle.pg_literal.proofs.known.MatchFacts.with_sets.Goals as goal

pub loop-round-preserved : goal.loop-round-preserved
loop-round-preserved g c = λ fold.
    rw add-one (c.loop-round.known, c.loop-round.invariant fold, c.in_ok-known.ensures fold)

pub returns : goal.returns
returns g c = λ fold.
    let all : c.loop-round._round ≡ c.args.count = omega arith in
    subst (λ n. Repeats fold (Set (bytes c.args.set.now)) n c.args.self c.loop-round.known) all
    (c.loop-round.invariant fold)
