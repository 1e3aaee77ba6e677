use Rattle.std.proofs.lemmas.List.{get_or_read}
use Rattle.std.proofs.Common.{◌≤◌, ◌∙◌, arith, sym, refl, inl, inr, true≢false, ◌*◌, ◌+◌, length}
use Rattle.pg_match.specs.Dfas.{In}
use Rattle.pg_match.specs.Steps.{Has}
use Rattle.pg_match.specs.Views.{nfa, members, dfa}
use Rattle.pg_match.proofs.CacheLemmas.{dfa_marked, mark_keeps, hit_there, told_row, learned_row, learned_lost}
use Rattle.pg_match.proofs.CacheLemmas.{hopeless_there}
use Rattle.pg_match.proofs.StandsLemmas.{hopeless}
use Rattle.pg_match.proofs.automaton.Automaton.learn.Goals as goal

pub returns-then-hits_before-clause-cache : goal.returns-then-hits_before-clause-cache
returns-then-hits_before-clause-cache g c =
    let m = nfa c.args.self.now in
    let old = dfa c.args.cache.now in
    let r = c.args.row in
    let s = members c.load.new.set in
    dfa_marked m old (dfa c.mark.new.self) r c.args.byte 1 c.requires.cache c.mark.ensures.marked
    c.requires.known (omega arith)
    (inr (inl (
      refl,
      hit_there m c.args.byte (In old r) (Has s) c.load.ensures.same
          (c.hits_before.ensures.0 c.if-hits_before.true),
    )))

pub returns-then-hits_before-clause-learned : goal.returns-then-hits_before-clause-learned
returns-then-hits_before-clause-learned g c =
    hit_there (nfa c.args.self.now) c.args.byte (In (dfa c.args.cache.now) c.args.row)
    (Has (members c.load.new.set)) c.load.ensures.same
    (c.hits_before.ensures.0 c.if-hits_before.true)

pub returns-in_default-clause-learned : goal.returns-in_default-clause-learned
returns-in_default-clause-learned g c =
    learned_lost (nfa c.args.self.now) (dfa c.args.cache.now)
    (dfa c.mark-in_default.new.self) c.args.row c.args.byte
    (members c.load.new.set) (members c.go-is_fresh.new.sets.current) c.load.ensures.same
    (λ h. true≢false (sym (c.hits_before.ensures.1 h) ∙ c.if-hits_before.false)) c.go-is_fresh.ensures.goes

pub returns-clause-cache : goal.returns-clause-cache
returns-clause-cache g c =
    let m = nfa c.args.self.now in
    let old = dfa c.args.cache.now in
    let mid = dfa c.keep.new.cache in
    let k = c.in-Some.to in
    let kept = c.in-Some.ensures in
    let more = c.keep.ensures.keeps.more in
    let known = c.requires.known in
    dfa_marked m mid (dfa c.mark-2.new.self) c.args.row c.args.byte _ c.keep.ensures.cache
    c.mark-2.ensures.marked (omega arith) (omega arith)
    (told_row m old mid c.args.row c.args.byte k _ (members c.load.new.set)
    (members c.go-is_fresh.new.sets.current) refl kept.known.0 kept.known.1
    c.requires.known c.keep.ensures.keeps c.load.ensures.same
    (λ h. true≢false (sym (c.hits_before.ensures.1 h) ∙ c.if-hits_before.false)) c.go-is_fresh.ensures.goes
    kept.same (λ f. c.go-is_fresh.ensures.fresh (sym kept.fresh ∙ f)))

pub returns-clause-learned : goal.returns-clause-learned
returns-clause-learned g c =
    let m = nfa c.args.self.now in
    let old = dfa c.args.cache.now in
    let mid = dfa c.keep.new.cache in
    let new = dfa c.mark-2.new.self in
    let kept = c.in-Some.ensures in
    learned_row m old mid new c.args.row c.args.byte c.in-Some.to _ (members c.load.new.set)
    (members c.go-is_fresh.new.sets.current) refl kept.known.1
    (mark_keeps mid new _ _ c.mark-2.ensures.marked) c.load.ensures.same
    (λ h. true≢false (sym (c.hits_before.ensures.1 h) ∙ c.if-hits_before.false)) c.go-is_fresh.ensures.goes
    kept.same

pub overflow_mul-row : goal.overflow_mul-row
overflow_mul-row g c = omega arith

pub overflow_add-row : goal.overflow_add-row
overflow_add-row g c = omega arith

pub index-requires : goal.index-requires
index-requires g c = omega arith

pub overflow_cast-to : goal.overflow_cast-to
overflow_cast-to g c = omega (arith, c.in-Some.ensures.known.1)

pub overflow_mul-to : goal.overflow_mul-to
overflow_mul-to g c = omega (arith, c.in-Some.ensures.known.1)

pub overflow_cast-result : goal.overflow_cast-result
overflow_cast-result g c = omega (arith, c.in-Some.ensures.known.1)

pub overflow_mul-result : goal.overflow_mul-result
overflow_mul-result g c = omega (arith, c.in-Some.ensures.known.1)

pub returns-then-index-eq-HIT-clause-some : goal.returns-then-index-eq-HIT-clause-some
returns-then-index-eq-HIT-clause-some g c = omega arith

pub returns-then-index-eq-HIT-clause-visits : goal.returns-then-index-eq-HIT-clause-visits
returns-then-index-eq-HIT-clause-visits g c = omega arith

pub load-requires-clause-known : goal.load-requires-clause-known
load-requires-clause-known g c = omega arith

pub hits_before-requires-clause-size : goal.hits_before-requires-clause-size
hits_before-requires-clause-size g c = omega arith

pub returns-then-hits_before-clause-some : goal.returns-then-hits_before-clause-some
returns-then-hits_before-clause-some g c = omega arith

pub returns-then-hits_before-clause-visits : goal.returns-then-hits_before-clause-visits
returns-then-hits_before-clause-visits g c = omega arith

pub go-is_fresh-requires-clause-visits : goal.go-is_fresh-requires-clause-visits
go-is_fresh-requires-clause-visits g c = omega arith

pub keep-requires-clause-size : goal.keep-requires-clause-size
keep-requires-clause-size g c = omega arith

pub keep-requires-clause-some : goal.keep-requires-clause-some
keep-requires-clause-some g c = omega arith

pub returns-in_default-clause-cache : goal.returns-in_default-clause-cache
returns-in_default-clause-cache g c =
    let mid = dfa c.keep.new.cache in
    let more = c.keep.ensures.keeps.more in
    dfa_marked (nfa c.args.self.now) mid (dfa c.mark-in_default.new.self) c.args.row c.args.byte 3
    c.keep.ensures.cache c.mark-in_default.ensures.marked (omega arith) (omega arith)
    (inl (omega arith, λ one. omega arith, λ two. omega arith))

pub returns-in_default-clause-some : goal.returns-in_default-clause-some
returns-in_default-clause-some g c = omega arith

pub returns-in_default-clause-visits : goal.returns-in_default-clause-visits
returns-in_default-clause-visits g c = omega arith

pub returns-clause-some : goal.returns-clause-some
returns-clause-some g c = omega arith

pub returns-clause-visits : goal.returns-clause-visits
returns-clause-visits g c = omega arith

pub load-requires-clause-shape : goal.load-requires-clause-shape
load-requires-clause-shape g c = rw c.requires.room.now_size c.requires.cache.shape

pub returns-then-hits_before-clause-room : goal.returns-then-hits_before-clause-room
returns-then-hits_before-clause-room g c =
    record {
      now = c.load.ensures.good;
      next = c.requires.room.next;
      now_size = omega (arith, c.load.ensures.size);
      next_size = c.requires.room.next_size;
    }

pub go-is_fresh-requires-clause-room : goal.go-is_fresh-requires-clause-room
go-is_fresh-requires-clause-room g c =
    record {
      now = c.load.ensures.good;
      next = c.requires.room.next;
      now_size = omega (arith, c.load.ensures.size);
      next_size = c.requires.room.next_size;
    }

pub returns-then-index-eq-HIT-clause-learned : goal.returns-then-index-eq-HIT-clause-learned
returns-then-index-eq-HIT-clause-learned g c =
    let table = dfa c.args.cache.now in
    let steps : 256 * (table.count + 1) ≤ length table.steps = c.requires.cache.shape.steps_size in
    let known = c.requires.known in
    let read = get_or_read table.steps (256 * c.args.row + c.args.byte) c.index.result.now (omega arith)
    c.index.ensures 0 in
    elim (c.requires.cache.told c.args.row c.args.byte c.requires.known (omega arith)) [
      | inl unknown ↦ absurd (unknown.1 (sym read ∙ c.if-index-eq-HIT.true))
      | inr rest ↦ elim rest [
        | inl hit ↦ hit.1
        | inr more ↦
            elim more [ inl dead ↦ absurd (omega (arith, dead.0)) | inr go ↦ absurd (omega (arith, go.1, go.2)) ]
      ]
    ]

pub returns-then-index-eq-DEAD-clause-learned : goal.returns-then-index-eq-DEAD-clause-learned
returns-then-index-eq-DEAD-clause-learned g c =
    let table = dfa c.args.cache.now in
    let steps : 256 * (table.count + 1) ≤ length table.steps = c.requires.cache.shape.steps_size in
    let known = c.requires.known in
    let read = get_or_read table.steps (256 * c.args.row + c.args.byte) c.index-2.result.now (omega arith)
    c.index-2.ensures 0 in
    elim (c.requires.cache.told c.args.row c.args.byte c.requires.known (omega arith)) [
      | inl unknown ↦ absurd (unknown.2 (sym read ∙ c.if-index-eq-DEAD.true))
      | inr rest ↦ elim rest [
        | inl hit ↦ absurd (omega (arith, hit.0))
        | inr more ↦ elim more [ inl dead ↦ dead.1 | inr go ↦ absurd (omega (arith, go.1, go.2)) ]
      ]
    ]

pub returns-then-is_dead-clause-cache : goal.returns-then-is_dead-clause-cache
returns-then-is_dead-clause-cache g c =
    let m = nfa c.args.self.now in
    let old = dfa c.args.cache.now in
    let r = c.args.row in
    let s = Has (members c.load.new.set) in
    dfa_marked m old (dfa c.mark-then-is_dead.new.self) r c.args.byte 2 c.requires.cache
    c.mark-then-is_dead.ensures.marked c.requires.known (omega arith)
    (inr (inr (inl (
      refl,
      hopeless_there m c.args.byte s (In old r) c.load.ensures.same
          (hopeless m c.args.byte s (Has (members c.go-is_fresh.new.sets.current)) c.requires.built.runs
          (λ h. true≢false (sym (c.hits_before.ensures.1 h) ∙ c.if-hits_before.false)) c.go-is_fresh.ensures.goes
          (c.is_dead.ensures c.if-is_dead.true)),
    ))))

pub returns-then-is_dead-clause-learned : goal.returns-then-is_dead-clause-learned
returns-then-is_dead-clause-learned g c =
    let m = nfa c.args.self.now in
    let s = Has (members c.load.new.set) in
    hopeless_there m c.args.byte s (In (dfa c.args.cache.now) c.args.row) c.load.ensures.same
    (hopeless m c.args.byte s (Has (members c.go-is_fresh.new.sets.current)) c.requires.built.runs
    (λ h. true≢false (sym (c.hits_before.ensures.1 h) ∙ c.if-hits_before.false)) c.go-is_fresh.ensures.goes
    (c.is_dead.ensures c.if-is_dead.true))
