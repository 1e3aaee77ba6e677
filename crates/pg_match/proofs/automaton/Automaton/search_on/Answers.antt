use Rattle.std.proofs.Common.{◌≡◌, ◌<◌, ◌≤◌, ◌+◌, ◌*◌, ◌↔◌, ◌∙◌, ℕ, Bool, List, Some, length, arith, sym, subst, refl}
use Rattle.std.proofs.Common.{false, true≢false, IsTrue}
use Rattle.std.specs.Prelude.{slice_get}
use Rattle.std.proofs.lemmas.Option.{slice_get-get_or}
use Rattle.pg_match.specs.Automata.{Nfa, IsRunnable}
use Rattle.pg_pattern.specs.Bounds.{MayBegin}
use Rattle.pg_match.specs.Closures.{AreSeeds}
use Rattle.pg_match.specs.Stands.{Stands}
use Rattle.pg_match.specs.Starts.{WithSeeds, ByteLeads, StandsUnseeded}
use Rattle.pg_match.specs.Steps.{Has, HitBefore}
use Rattle.pg_match.specs.Views.{nfa, members}
use Rattle.pg_match.proofs.StandsLemmas.{stands_next, run_before}
use Rattle.pg_match.proofs.StartLemmas.{goes_whole, with_so}
use Rattle.pg_match.proofs.StateSetLemmas.{few}
use Rattle.pg_match.proofs.CacheLemmas.{ended_so, stands_at}
use Rattle.pg_match.proofs.VisitLemmas.{visits_small, told_on}
use Rattle.pg_match.proofs.automaton.Automaton.search_on.Goals as goal

-- the set of a place, with the starts there
stands_seeded : (m : Nfa) (l seeds : List ℕ) (start p : ℕ) (begins : Bool) (S : ℕ → Type 0)
    → IsTrue begins ↔ MayBegin m.bounds l p
    → StandsUnseeded m seeds l start p S → Stands m l start p (WithSeeds seeds (IsTrue begins) S)
stands_seeded m l seeds start p begins S may s =
    stands_at m l start p (WithSeeds seeds (MayBegin m.bounds l p) S) (WithSeeds seeds (IsTrue begins) S)
    (with_so seeds _ _ S (may.1, may.0)) s

-- the set behind the byte there, but for starts
stands_on : (m : Nfa) (l seeds : List ℕ) (start p b : ℕ) (begins : Bool) (S U : ℕ → Type 0)
    → AreSeeds m.states m.start seeds → IsRunnable m → slice_get l p ≡ Some b → p < length l → start ≤ p
    → IsTrue begins ↔ MayBegin m.bounds l p → ByteLeads m.states seeds b (IsTrue begins) S U
    → (HitBefore m b (WithSeeds seeds (IsTrue begins) S) → ⊥)
    → StandsUnseeded m seeds l start p S → StandsUnseeded m seeds l start (p + 1) U
stands_on m l seeds start p b begins S U are is byte lt le may goes missed s =
    stands_next m l start p b (WithSeeds seeds (IsTrue begins) S) (WithSeeds seeds (MayBegin m.bounds l (p + 1)) U) byte
    lt (stands_seeded m l seeds start p begins S may s)
    (goes_whole m seeds are l p b (IsTrue begins) S U byte goes) (omega arith) is missed

pub returns-then-hits_here-clause-searched : goal.returns-then-hits_here-clause-searched
returns-then-hits_here-clause-searched g c = λ start le s. (
  λ t.
      let m = nfa c.args.self.now in
      let l = c.args.line.now in
      let p = c.loop-place.place in
      let S = Has (members c.loop-place.sets.current) in
      let seeds = c.args.self.now.seeds.items in
      let lt : p < length l = omega arith in
      run_before m l start p _ (WithSeeds seeds (IsTrue c.may_begin-begins.result) S)
      (stands_seeded m l seeds start p _ S c.may_begin-begins.ensures (c.loop-place.invariant.stands start le s))
      c.requires.built.runs (slice_get-get_or l p 0 lt) lt (c.hits_here.ensures.0 c.if-hits_here.true),
  λ run. refl,
)

pub returns-then-sets-eq0-clause-searched : goal.returns-then-sets-eq0-clause-searched
returns-then-sets-eq0-clause-searched g c = λ start le s.
    let m = nfa c.args.self.now in
    let l = c.args.line.now in
    let p = c.loop-place.place in
    let lt : p < length l = omega arith in
    stands_on m l c.args.self.now.seeds.items start p _ _ (Has (members c.loop-place.sets.current))
    (Has (members c.go_on.new.sets.current)) c.requires.built.seeds c.requires.built.runs (slice_get-get_or l p 0 lt) lt
    (omega arith) c.may_begin-begins.ensures c.go_on.ensures.goes
    (λ h. true≢false (sym (c.hits_here.ensures.1 h) ∙ c.if-hits_here.false)) (c.loop-place.invariant.stands start le s)

pub loop-place-preserved : goal.loop-place-preserved
loop-place-preserved g c =
    let m = nfa c.args.self.now in
    let l = c.args.line.now in
    let p = c.loop-place.place in
    let lt : p < length l = omega arith in
    let fewer = few (members c.loop-place.sets.current) c.loop-place.invariant.room.now in
    let size = c.loop-place.invariant.room.now_size in
    record {
      room = c.go_on.ensures.room;
      stands = λ start le s.
          stands_on m l c.args.self.now.seeds.items start p _ _ (Has (members c.loop-place.sets.current))
          (Has (members c.go_on.new.sets.current)) c.requires.built.seeds c.requires.built.runs
          (slice_get-get_or l p 0 lt) lt
          (omega arith) c.may_begin-begins.ensures c.go_on.ensures.goes
          (λ h. true≢false (sym (c.hits_here.ensures.1 h) ∙ c.if-hits_here.false))
          (c.loop-place.invariant.stands start le s);
      visits = let v = c.loop-place.invariant.visits in let w = c.go_on.ensures.visits in omega arith;
      told = omega (arith, c.loop-place.invariant.told, c.go_on.ensures.told);
    }

pub loop-place-init : goal.loop-place-init
loop-place-init g c =
    record { room = c.requires.room; stands = λ start le s. s; visits = c.requires.visits; told = refl }

pub returns-clause-searched : goal.returns-clause-searched
returns-clause-searched g c = λ start le s.
    let m = nfa c.args.self.now in
    let l = c.args.line.now in
    let end : c.loop-place.place ≡ length l = omega arith in
    let S = Has (members c.loop-place.sets.current) in
    let seeds = c.args.self.now.seeds.items in
    let whole = WithSeeds seeds (IsTrue c.may_begin-begins-2.result) S in
    let stand = stands_seeded m l seeds start (length l) _ S c.may_begin-begins-2.ensures
    (subst (λ p. StandsUnseeded m seeds l start p S) end (c.loop-place.invariant.stands start le s)) in
    ended_so m l start whole c.hits_behind.result false c.requires.built.runs stand
    (λ t. absurd (true≢false (sym t))) (λ e. absurd (omega arith)) c.hits_behind.ensures.answer

pub go_on-requires-clause-visits : goal.go_on-requires-clause-visits
go_on-requires-clause-visits g c =
    let inv = c.loop-place.invariant in
    let fewer = few (members c.loop-place.sets.current) inv.room.now in
    let v = visits_small c.loop-place.place (length c.args.self.now.states.items) c.loop-place.sets.visits (omega
    (arith, inv.visits, fewer, inv.room.now_size)) (omega arith) (omega (arith, c.args.self.now.states.ok.0)) in
    omega arith

pub hits_behind-requires-clause-visits : goal.hits_behind-requires-clause-visits
hits_behind-requires-clause-visits g c =
    let inv = c.loop-place.invariant in
    let fewer = few (members c.loop-place.sets.current) inv.room.now in
    let v = visits_small c.loop-place.place (length c.args.self.now.states.items) c.loop-place.sets.visits (omega
    (arith, inv.visits, fewer, inv.room.now_size)) (omega arith) (omega (arith, c.args.self.now.states.ok.0)) in
    omega arith

pub returns-clause-visits : goal.returns-clause-visits
returns-clause-visits g c =
    let end : c.loop-place.place ≡ length c.args.line.now = omega arith in
    let n : ℕ = length c.args.self.now.states.items in
    let v = subst (λ p. c.loop-place.sets.visits ≤ p * n + c.loop-place.sets.current.len)
    end c.loop-place.invariant.visits in
    omega (arith, v, c.hits_behind.ensures.visits)

pub returns-clause-told : goal.returns-clause-told
returns-clause-told g c = omega (arith, c.loop-place.invariant.told, c.hits_behind.ensures.told)

pub returns-then-sets-eq0-clause-visits : goal.returns-then-sets-eq0-clause-visits
returns-then-sets-eq0-clause-visits g c =
    let fewer = few (members c.loop-place.sets.current) c.loop-place.invariant.room.now in
    let size = c.loop-place.invariant.room.now_size in
    omega (arith, c.loop-place.invariant.visits, c.go_on.ensures.visits)

pub returns-then-sets-eq0-clause-told : goal.returns-then-sets-eq0-clause-told
returns-then-sets-eq0-clause-told g c = told_on _ _ _ _ _ _ c.loop-place.invariant.told c.go_on.ensures.told
