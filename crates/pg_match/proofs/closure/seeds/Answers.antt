use Rattle.std.proofs.Common.{arith, ◌∙◌, [], ◌∷◌}
use Rattle.pg_match.specs.Views.{members}
use Rattle.pg_match.proofs.ClosureLemmas.{seeds_found}
use Rattle.pg_match.proofs.closure.seeds.Goals as goal

pub returns : goal.returns
returns g c =
    let size = c.reach.ensures.reached.size in
    rw c.into_states.ensures
    (seeds_found c.args.states.now (0 ∷ 0 ∷ []) 1 (members c.in_ok-set.set) (members c.reach.new.set) c.args.start 1
    (λ e. omega arith) (λ e. omega arith) c.in_ok-set.ensures.empty
    (size ∙ c.in_ok-set.ensures.size) c.reach.ensures.reached c.reach.ensures.paths)

pub reach-requires-clause-within : goal.reach-requires-clause-within
reach-requires-clause-within g c = omega arith

pub reach-requires-clause-some : goal.reach-requires-clause-some
reach-requires-clause-some g c = omega arith

pub reach-requires-clause-size : goal.reach-requires-clause-size
reach-requires-clause-size g c = omega (arith, c.in_ok-set.ensures.size)

pub reach-requires-clause-closed : goal.reach-requires-clause-closed
reach-requires-clause-closed g c = λ q h. let z = c.in_ok-set.ensures.empty.1 q in absurd (omega arith)

pub reach-requires-clause-ordered : goal.reach-requires-clause-ordered
reach-requires-clause-ordered g c = λ j k le lt. let z = c.in_ok-set.ensures.empty.0 in absurd (omega arith)

pub reach-requires-clause-below : goal.reach-requires-clause-below
reach-requires-clause-below g c = λ q. let z = c.in_ok-set.ensures.empty.1 q in omega arith
