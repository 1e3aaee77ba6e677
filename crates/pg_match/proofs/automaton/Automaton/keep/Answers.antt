use Rattle.std.proofs.Common.{arith, subst, refl}
use Rattle.pg_match.specs.Dfas.{Grown}
use Rattle.pg_match.specs.Views.{nfa, members, dfa}
use Rattle.pg_match.proofs.CacheLemmas.{dfa_grown}
use Rattle.pg_match.proofs.automaton.Automaton.keep.Goals as goal

pub returns-then-add-clause-cache : goal.returns-then-add-clause-cache
returns-then-add-clause-cache g c =
    let some = c.requires.some in
    let old = dfa c.args.cache.now in
    let new = dfa c.add.new.self in
    let s = members c.args.set.now in
    let grown = c.add.ensures.grown c.if-add.true in
    dfa_grown (nfa c.args.self.now) old new s c.args.is_fresh c.requires.cache
    (subst (λ n. Grown n old new s c.args.is_fresh) c.requires.size grown) (λ z. absurd (omega arith))

pub returns-in-Some-clause-keeps : goal.returns-in-Some-clause-keeps
returns-in-Some-clause-keeps g c =
    record { sets = λ r le q. (λ h. h, λ h. h); flags = λ r le. refl; more = omega arith }

pub returns-then-add-clause-keeps : goal.returns-then-add-clause-keeps
returns-then-add-clause-keeps g c = (c.add.ensures.grown c.if-add.true).keeps

pub returns-then-add-clause-same : goal.returns-then-add-clause-same
returns-then-add-clause-same g c = (c.add.ensures.grown c.if-add.true).here

pub returns-then-add-clause-fresh : goal.returns-then-add-clause-fresh
returns-then-add-clause-fresh g c = (c.add.ensures.grown c.if-add.true).flag_here

pub returns-else-add-clause-cache : goal.returns-else-add-clause-cache
returns-else-add-clause-cache g c = rw (c.add.ensures.full c.if-add.false) c.requires.cache

pub returns-else-add-clause-keeps : goal.returns-else-add-clause-keeps
returns-else-add-clause-keeps g c =
    rw (c.add.ensures.full c.if-add.false) (record {
      sets = λ r le q. (λ h. h, λ h. h);
      flags = λ r le. refl;
      more = omega arith;
    })
