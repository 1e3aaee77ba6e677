use Rattle.std.proofs.Common.{◌+◌, ℕ, Some, length, subst, arith}
use Rattle.std.specs.Option.{IfSome}
use Rattle.pg_pattern.specs.Bounds.{MayBegin, MayEnd}
use Rattle.pg_match.specs.Searches.{IsBest}
use Rattle.pg_match.specs.Views.{nfa}
use Rattle.pg_match.proofs.AnchoredLemmas.{best_behind}
use Rattle.pg_match.proofs.automaton.Automaton.find_from.Goals as goal

pub returns-in-Some-clause-best : goal.returns-in-Some-clause-best
returns-in-Some-clause-best g c =
    let t = c.try_starts-known in
    let m = nfa c.args.self.now in
    let line = c.args.line.now in
    let Ends : ℕ → Type 0 = λ e. IsBest m.states line m.start (MayBegin m.bounds line) (MayEnd m.bounds line) t.result.0
    (length line + 1) (Some (t.result.0, e)) in
    best_behind m line c.args.start t.result.0 (Some (t.result.0, c.in-Some.end)) t.ensures.onward.0 t.ensures.nothing
    (subst (λ found. IfSome found Ends) c.in-Some.is t.ensures.best)

pub returns-in-Some-found-clause-best : goal.returns-in-Some-found-clause-best
returns-in-Some-found-clause-best g c =
    let t = c.try_starts-known in
    let b = c.study_before-place in
    let m = nfa c.args.self.now in
    let line = c.args.line.now in
    let best = Some (b.result.0, c.in-Some-found.end) in
    let Ends : ℕ → Type 0 = λ e. IsBest m.states line m.start (MayBegin m.bounds line) (MayEnd m.bounds line) b.result.0
    (length line + 1) (Some (b.result.0, e)) in
    best_behind m line c.args.start t.result.0 best t.ensures.onward.0 t.ensures.nothing
    (best_behind m line t.result.0 b.result.0 best b.ensures.onward.0 b.ensures.nothing
    (subst (λ found. IfSome found Ends) c.in-Some-found.is b.ensures.best))

pub returns-clause-best : goal.returns-clause-best
returns-clause-best g c =
    let t = c.try_starts-known in
    let b = c.study_before-place in
    let m = nfa c.args.self.now in
    let line = c.args.line.now in
    best_behind m line c.args.start t.result.0 c.find_long-best.result t.ensures.onward.0 t.ensures.nothing
    (best_behind m line t.result.0 b.result.0 c.find_long-best.result b.ensures.onward.0 b.ensures.nothing
    c.find_long-best.ensures.best)

pub returns-clause-told : goal.returns-clause-told
returns-clause-told g c =
    omega (arith, c.study_before-place.ensures.told, c.find_long-best.ensures.told, c.study_both.ensures.told)
