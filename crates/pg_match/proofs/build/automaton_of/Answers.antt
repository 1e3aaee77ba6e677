use Rattle.std.proofs.Common.{List, length, subst, ℕ, refl}
use Rattle.pg_match.specs.Automata.{Nfa}
use Rattle.pg_match.specs.Machines.{IsMachineOf}
use Rattle.pg_match.specs.Starts.{AreStarts}
use Rattle.pg_match.specs.declared.state.State.{State}
use Rattle.pg_match.proofs.BuildLemmas.{built, reach_known, runnable}
use Rattle.pg_match.proofs.build.automaton_of.Goals as goal

pub returns : goal.returns
returns g c = λ patterns proper first some near.
    let starts = c.in_ok-starts.starts in
    let m : Nfa = record {
      states = c.args.states.items;
      start = c.args.start;
      bounds = c.args.bounds;
      some = c.args.some;
    } in
    let machine : IsMachineOf m patterns c.args.bounds =
    built m patterns proper c.args.bounds first refl some.0 some.1 in (
      record {
        runs = runnable m patterns (length patterns) first;
        seeds = rw c.deref.ensures.value at c.in_ok-seeds.ensures;
        starts =
            let P : List State → List ℕ → Type 0 =
            λ t seeds. AreStarts t seeds starts.targets.items starts.cuts.items starts.accepts in
            subst (λ t. P t c.in_ok-seeds.seeds.items) c.deref-2.ensures.value
            (subst (P c.deref-2.result.now) c.deref-3.ensures.value c.in_ok-starts.ensures);
        reach = reach_known m patterns c.args.bounds c.args.reach machine near;
      },
      machine,
    )

pub starts_of-requires-clause-inside : goal.starts_of-requires-clause-inside
starts_of-requires-clause-inside g c =
    let seeds = rw c.deref.ensures.value at c.in_ok-seeds.ensures in
    rw (c.deref-2.ensures.value, c.deref-3.ensures.value) seeds.inside

pub seeds-requires-clause-tidy : goal.seeds-requires-clause-tidy
seeds-requires-clause-tidy g c = rw c.deref.ensures.value c.requires.tidy
