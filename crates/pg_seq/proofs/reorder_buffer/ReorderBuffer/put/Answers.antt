use Rattle.std.proofs.Common.{◌≡◌, ◌∙◌, ◌-◌, ap, refl, arith, length-append}
use Rattle.std.proofs.Math.ListN.{length-set}
use Rattle.pg_blocks.specs.Blocks.{BlockData}
use Rattle.pg_seq.specs.declared.slot.Slot.{Slot}
use Rattle.pg_seq.proofs.ArriveLemmas.{with_behind, with_past, place_same, no_place}
use Rattle.pg_seq.proofs.reorder_buffer.ReorderBuffer.put.Goals as goal

pub returns-then-at-len : goal.returns-then-at-len
returns-then-at-len g c =
    let s = c.args.self.now in
    let place = c.in-Some.place in
    let file : c.block-2.inside.file ≡ c.args.found.block.file =
    ap (λ (b : BlockData). b.file) (c.block-2.view_is ∙ (c.deref-block.ensures ∙ c.block.ensures)) in
    let number : c.block-2.inside.number ≡ c.args.found.block.number =
    ap (λ (b : BlockData). b.number) (c.block-2.view_is ∙ (c.deref-block.ensures ∙ c.block.ensures)) in
    record {
      starts = refl;
      slots = λ gone k count behind is.
          let same : place ≡ k = place_same s.starts _ _ _ _ _ _ place k c.in-Some.ensures
          (omega (arith, length-append gone s.slots.items, count)) file number is in
          with_behind gone s.slots.items (place - s.handed) k c.index_mut.result.now c.args.found
          (omega (arith, same, count, c.if-place-self.false)) (omega (arith, c.if-at-len.true, c.len.ensures))
          c.index_mut.ensures.value;
      handed = refl;
      selected = refl;
    }

pub returns-else-at-len : goal.returns-else-at-len
returns-else-at-len g c =
    let s = c.args.self.now in
    let place = c.in-Some.place in
    let file : c.block-2.inside.file ≡ c.args.found.block.file =
    ap (λ (b : BlockData). b.file) (c.block-2.view_is ∙ (c.deref-block.ensures ∙ c.block.ensures)) in
    let number : c.block-2.inside.number ≡ c.args.found.block.number =
    ap (λ (b : BlockData). b.number) (c.block-2.view_is ∙ (c.deref-block.ensures ∙ c.block.ensures)) in
    record {
      starts = refl;
      slots = λ gone k count behind is.
          let same : place ≡ k = place_same s.starts _ _ _ _ _ _ place k c.in-Some.ensures
          (omega (arith, length-append gone s.slots.items, count)) file number is in
          with_past _ k c.args.found
          (omega (arith, same, count, c.if-at-len.false, c.len.ensures, behind, length-append gone s.slots.items));
      handed = refl;
      selected = refl;
    }

pub returns-in_default : goal.returns-in_default
returns-in_default g c =
    let s = c.args.self.now in
    let block = c.block-2.view_is ∙ (c.deref-block.ensures ∙ c.block.ensures) in
    record {
      starts = refl;
      slots = λ gone k count behind is. absurd (no_place s.starts _ _ _ _ _ _ k c.in_default.ensures
          (omega (arith, length-append gone s.slots.items, count)) (ap (λ (b : BlockData). b.file) block)
          (ap (λ (b : BlockData). b.number) block) is);
      handed = refl;
      selected = refl;
    }

pub returns-then-place-self : goal.returns-then-place-self
returns-then-place-self g c =
    let s = c.args.self.now in
    let block = c.block-2.view_is ∙ (c.deref-block.ensures ∙ c.block.ensures) in
    record {
      starts = refl;
      slots = λ gone k count behind is.
          let same : c.in-Some.place ≡ k = place_same s.starts _ _ _ _ _ _ c.in-Some.place k c.in-Some.ensures
          (omega (arith, length-append gone s.slots.items, count)) (ap (λ (b : BlockData). b.file) block)
          (ap (λ (b : BlockData). b.number) block) is in
          absurd (omega (arith, same, behind, c.if-place-self.true));
      handed = refl;
      selected = refl;
    }

pub index_mut-requires : goal.index_mut-requires
index_mut-requires g c = omega (arith, c.if-at-len.true, c.len.ensures)

pub invariant_of-self : goal.invariant_of-self
invariant_of-self g c = record { small = omega (arith, c.args.self.now.small, length-set {A = Slot g.row.A.Denot}) }

pub overflow_cast-len : goal.overflow_cast-len
overflow_cast-len g c = omega arith

pub overflow_cast-at : goal.overflow_cast-at
overflow_cast-at g c = omega arith
