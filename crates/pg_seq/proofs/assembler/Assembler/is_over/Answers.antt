use Rattle.std.proofs.Common.{refl, arith}
use Rattle.pg_seq.proofs.LastLemmas.{none_behind, over_before, over_at_last, not_over}
use Rattle.pg_seq.proofs.assembler.Assembler.is_over.Goals as goal

pub overflow_cast-result : goal.overflow_cast-result
overflow_cast-result g c = omega arith

pub overflow_add-result : goal.overflow_add-result
overflow_add-result g c = omega (arith, c.args.self.now.buffer.small)

pub returns-in-Some : goal.returns-in-Some
returns-in-Some g c =
    let s = c.args.self.now in
    over_before s c.args.ahead c.in-Some.next.now c.handed.result c.handed.ensures
    (omega (arith, c.in-Some.ensures.variant.0 refl, s.waiting.ok.0)) c.in-Some.ensures.lookup

pub returns-then-not-self : goal.returns-then-not-self
returns-then-not-self g c =
    let s = c.args.self.now in
    over_at_last s c.args.ahead c.len.result c.len.ensures c.if-not-self.true
    (omega (arith, none_behind _ _ c.in-None.ensures.variant.1, s.waiting.ok.0))

pub returns-else-not-self : goal.returns-else-not-self
returns-else-not-self g c =
    let s = c.args.self.now in
    not_over s c.args.ahead c.if-not-self.false
    (omega (arith, none_behind _ _ c.in-None.ensures.variant.1, s.waiting.ok.0))
