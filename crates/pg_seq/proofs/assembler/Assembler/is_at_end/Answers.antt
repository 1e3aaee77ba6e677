use Rattle.std.proofs.Common.{◌∙◌, ◌&&◌, not, eqb, length, refl, sym, ap, arith}
use Rattle.pg_seq.proofs.LastLemmas.{none_behind, still_runs, last_before, last_of_all}
use Rattle.pg_seq.proofs.assembler.Assembler.is_at_end.Goals as goal

pub returns-in-Some : goal.returns-in-Some
returns-in-Some g c =
    let s = c.args.self.now in
    let next = c.in-Some.next.now in
    ap (eqb next.start) c.handed.ensures
    ∙ last_before s.waiting.items 0 next s.running (length s.buffer.slots.items) _
    (omega (arith, c.in-Some.ensures.variant.0 refl, s.waiting.ok.0)) c.in-Some.ensures.lookup

pub returns-then-not-self : goal.returns-then-not-self
returns-then-not-self g c =
    let s = c.args.self.now in
    let held = length s.buffer.slots.items in
    c.is_empty.ensures
    ∙ (sym (ap (λ b. not b && eqb held 0) c.if-not-self.true)
    ∙ last_of_all s.waiting.items 0 s.running held s.buffer.handed
    (omega (arith, none_behind _ _ c.in-None.ensures.variant.1, s.waiting.ok.0)))

pub returns-else-not-self : goal.returns-else-not-self
returns-else-not-self g c =
    let s = c.args.self.now in
    let held = length s.buffer.slots.items in
    still_runs s.running (eqb held 0) c.if-not-self.false
    ∙ last_of_all s.waiting.items 0 s.running held s.buffer.handed
    (omega (arith, none_behind _ _ c.in-None.ensures.variant.1, s.waiting.ok.0))
