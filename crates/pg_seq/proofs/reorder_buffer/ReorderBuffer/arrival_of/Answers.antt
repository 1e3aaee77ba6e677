use Rattle.std.proofs.Common.{◌-◌, ◌∙◌, ◌++◌, None, Some, ap, sym, arith, length-append, ◌≡◌, ◌+◌, ℕ, List, length}
use Rattle.std.proofs.lemmas.Option.{slice_get_past}
use Rattle.pg_blocks.specs.Blocks.{BlockData}
use Rattle.pg_seq.specs.Slots.{arrival_at_slot}
use Rattle.pg_seq.proofs.ArriveLemmas.{arrival_by, gone_double, slot_behind}
use Rattle.pg_seq.proofs.reorder_buffer.ReorderBuffer.arrival_of.Goals as goal

all_of : {X : Type 0} (gone slots : List X) (n : ℕ) → length gone ≡ n → n + length slots ≡ length (gone ++ slots)
all_of gone slots n e = sym (length-append gone slots ∙ ap (λ m. m + length slots) e)

pub returns-in_default : goal.returns-in_default
returns-in_default g c = λ gone are.
    let s = c.args.self.now in
    arrival_by s.starts (gone ++ s.slots.items) _ _ _ c.args.block.now None c.in_default.ensures
    (all_of gone s.slots.items _ are.count)
    (ap (λ (b : BlockData). b.file) c.block.view_is) (ap (λ (b : BlockData). b.number) c.block.view_is)

pub returns-then-place-self : goal.returns-then-place-self
returns-then-place-self g c = λ gone are.
    let s = c.args.self.now in
    gone_double gone s.slots.items c.in-Some.place c.args.block.now are.results
    (omega (arith, c.if-place-self.true, are.count))
    ∙ arrival_by s.starts (gone ++ s.slots.items) _ _ _ c.args.block.now (Some c.in-Some.place) c.in-Some.ensures
    (all_of gone s.slots.items _ are.count)
    (ap (λ (b : BlockData). b.file) c.block.view_is) (ap (λ (b : BlockData). b.number) c.block.view_is)

pub returns-then-at-len : goal.returns-then-at-len
returns-then-at-len g c = λ gone are.
    let s = c.args.self.now in
    let b = c.args.block.now in
    sym (ap (λ o. arrival_at_slot o b) (slice_get_past (gone ++ s.slots.items) c.in-Some.place
    (omega (
      arith,
      length-append gone s.slots.items,
      are.count,
      c.if-place-self.false,
      c.if-at-len.true,
      c.len.ensures,
      s.slots.ok.0,
    ))))
    ∙ arrival_by s.starts (gone ++ s.slots.items) _ _ _ b (Some c.in-Some.place) c.in-Some.ensures
    (all_of gone s.slots.items _ are.count)
    (ap (λ (b : BlockData). b.file) c.block.view_is) (ap (λ (b : BlockData). b.number) c.block.view_is)

pub index-requires : goal.index-requires
index-requires g c = omega (arith, c.if-at-len.false, c.len.ensures)

pub returns : goal.returns
returns g c = λ gone are.
    let s = c.args.self.now in
    let b = c.args.block.now in
    c.arrival_of.ensures
    ∙ (ap (λ o. arrival_at_slot o b) (slot_behind gone s.slots.items (c.in-Some.place - s.handed) c.in-Some.place
    c.index.result.now (omega (arith, are.count, c.if-place-self.false))
    (omega (arith, c.if-at-len.false, c.len.ensures, s.slots.ok.0)) c.index.ensures)
    ∙ arrival_by s.starts (gone ++ s.slots.items) _ _ _ b (Some c.in-Some.place) c.in-Some.ensures
    (all_of gone s.slots.items _ are.count)
    (ap (λ (b : BlockData). b.file) c.block.view_is) (ap (λ (b : BlockData). b.number) c.block.view_is))

pub overflow_cast-len : goal.overflow_cast-len
overflow_cast-len g c = omega arith

pub overflow_cast-at : goal.overflow_cast-at
overflow_cast-at g c = omega arith
