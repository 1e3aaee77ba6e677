use Rattle.std.proofs.Common.{◌≡◌, ◌<◌, inl, inr, arith, subst}
use Rattle.std.specs.Prelude.{slice_get}
use Rattle.std.proofs.lemmas.Bool.{cases_lt}
use Rattle.pg_match.specs.StateSets.{listed}
use Rattle.pg_match.specs.Steps.{IsQuiet}
use Rattle.pg_match.specs.Views.{members}
use Rattle.pg_match.proofs.StateSetLemmas.{read_listed, listed_in, list_long}
use Rattle.pg_match.proofs.dfa_search.are_quiet.Goals as goal

pub is_alive-requires : goal.is_alive-requires
is_alive-requires g c =
    let s = members c.args.set.now in
    let lt : c.loop-k.k < c.args.set.now.len = omega (arith, c.loop-k-test.true) in
    let e = read_listed s c.loop-k.k _ c.requires.good lt c.index.ensures in
    let n = listed_in s c.loop-k.k c.requires.good lt in
    omega (arith, e, n, c.requires.size)

pub index-requires : goal.index-requires
index-requires g c =
    let long = list_long (members c.args.set.now) c.requires.good in omega (arith, long, c.loop-k-test.true)

pub loop-k-preserved : goal.loop-k-preserved
loop-k-preserved g c = λ j low.
    let s = members c.args.set.now in
    let lt : c.loop-k.k < c.args.set.now.len = omega (arith, c.loop-k-test.true) in
    let e = read_listed s c.loop-k.k _ c.requires.good lt c.index.ensures in
    elim (cases_lt j c.loop-k.k) [
      | inl before ↦ c.loop-k.invariant j before
      | inr here ↦
          let same : c.loop-k.k ≡ j = omega (arith, low, here) in
          subst (λ n. IsQuiet (slice_get c.args.states.now (listed s n))) same
          (subst (λ q. IsQuiet (slice_get c.args.states.now q)) e (c.is_alive.ensures c.if-is_alive.false))
    ]

pub returns : goal.returns
returns g c = λ yes q here.
    let found = c.requires.good.found q here in
    subst (λ n. IsQuiet (slice_get c.args.states.now n)) found.2
    (c.loop-k.invariant found.0 (omega (arith, found.1, c.loop-k-test.false)))
