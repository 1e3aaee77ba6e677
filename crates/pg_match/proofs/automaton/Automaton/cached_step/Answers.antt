use Rattle.std.proofs.Common.{◌∙◌, Some, arith, sym, true≢false}
use Rattle.pg_match.specs.Views.{nfa, dfa}
use Rattle.pg_match.proofs.AnchoredLemmas.{follows_on, follows_end}
use Rattle.pg_match.proofs.automaton.Automaton.cached_step.Goals as goal

pub returns-then-not-index-clause-follows : goal.returns-then-not-index-clause-follows
returns-then-not-index-clause-follows g c =
    let a = c.args in
    follows_on (nfa a.self.now) (dfa a.cache.now) c.requires.cache a.line.now a.run.start
    c.requires.built.runs a.run.place a.state c.index-next.result.now (Some a.run.last) c.requires.follows
    (omega (arith, c.type_inv.line a.run.place)) (omega (arith, c.if-run-line.false)) c.index-next.ensures
    c.if-next-lt-STRIDE.false c.index.result.now c.index.ensures
    (λ flag may. true≢false (sym flag ∙ c.if-not-index.true))

pub returns-then-not-may_end-clause-follows : goal.returns-then-not-may_end-clause-follows
returns-then-not-may_end-clause-follows g c =
    let a = c.args in
    follows_on (nfa a.self.now) (dfa a.cache.now) c.requires.cache a.line.now a.run.start
    c.requires.built.runs a.run.place a.state c.index-next.result.now (Some a.run.last) c.requires.follows
    (omega (arith, c.type_inv.line a.run.place)) (omega (arith, c.if-run-line.false)) c.index-next.ensures
    c.if-next-lt-STRIDE.false c.index.result.now c.index.ensures
    (λ flag may. true≢false (sym (c.may_end.ensures.1 may) ∙ c.if-not-may_end.true))

pub returns-clause-follows : goal.returns-clause-follows
returns-clause-follows g c =
    let a = c.args in
    follows_end (nfa a.self.now) (dfa a.cache.now) c.requires.cache a.line.now a.run.start
    c.requires.built.runs a.run.place a.state c.index-next.result.now (Some a.run.last) c.requires.follows
    (omega (arith, c.type_inv.line a.run.place)) (omega (arith, c.if-run-line.false)) c.index-next.ensures
    c.if-next-lt-STRIDE.false c.index.result.now c.index.ensures c.if-not-index.false
    (c.may_end.ensures.0 c.if-not-may_end.false)
