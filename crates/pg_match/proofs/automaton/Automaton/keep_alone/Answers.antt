use Rattle.std.proofs.Common.{◌<◌, arith, subst, refl, length, not, eqb}
use Rattle.std.proofs.lemmas.List.{get_or_read}
use Rattle.pg_match.specs.Dfas.{Grown}
use Rattle.pg_match.specs.Views.{nfa, members, dfa}
use Rattle.pg_match.proofs.AnchoredLemmas.{alone_grown, accepts_so}
use Rattle.pg_match.proofs.automaton.Automaton.keep_alone.Goals as goal

pub returns-then-add-clause-cache : goal.returns-then-add-clause-cache
returns-then-add-clause-cache g c =
    let some = c.requires.some in
    let old = dfa c.args.cache.now in
    let new = dfa c.add.new.self in
    let s = members c.args.set.now in
    let mark_0 = c.index.result.now in
    let flag = not (eqb mark_0 0) in
    let start = c.requires.built.runs.start in
    let size = c.requires.size in
    let inside : 0 < length s.marks = omega arith in
    let grown = c.add.ensures.grown c.if-add.true in
    alone_grown (nfa c.args.self.now) old new s flag c.requires.cache
    (subst (λ n. Grown n old new s flag) size grown)
    (accepts_so s mark_0 (get_or_read s.marks 0 mark_0 inside c.index.ensures 0)) (λ less. absurd (omega arith))

pub returns-in-Some-clause-keeps : goal.returns-in-Some-clause-keeps
returns-in-Some-clause-keeps g c =
    record { sets = λ r le q. (λ h. h, λ h. h); flags = λ r le. refl; more = omega arith }

pub returns-then-add-clause-keeps : goal.returns-then-add-clause-keeps
returns-then-add-clause-keeps g c = (c.add.ensures.grown c.if-add.true).keeps

pub returns-then-add-clause-same : goal.returns-then-add-clause-same
returns-then-add-clause-same g c = (c.add.ensures.grown c.if-add.true).here

pub returns-else-add-clause-cache : goal.returns-else-add-clause-cache
returns-else-add-clause-cache g c = rw (c.add.ensures.full c.if-add.false) c.requires.cache

pub returns-else-add-clause-keeps : goal.returns-else-add-clause-keeps
returns-else-add-clause-keeps g c =
    rw (c.add.ensures.full c.if-add.false) (record {
      sets = λ r le q. (λ h. h, λ h. h);
      flags = λ r le. refl;
      more = omega arith;
    })
