use Rattle.std.proofs.Common.{◌≡◌, ◌∙◌, List, ◌∷◌, ℕ, Some, ap, sym, subst, refl, length, arith}
use Rattle.std.proofs.lemmas.Result.{MatchResult-from_err, IfOk-from_err}
use Rattle.pg_blocks.specs.Blocks.{BlockData}
use Rattle.pg_selection.specs.Searched.{SearchedBlock}
use Rattle.pg_rows.specs.declared.printer.PrintedBlock.{PrintedBlock}
use Rattle.pg_rows.specs.declared.printer.Printer.{Printer}
use Rattle.pg_rows.specs.Cursor.{Cursor}
use Rattle.pg_rows.specs.Remembered.{IsAtCursor, IsRememberedBehind, behind_block, shown_rows}
use Rattle.pg_seq.specs.declared.slot.Slot.{Slot}
use Rattle.pg_seq.specs.declared.reorder_buffer.ReorderBuffer.{ReorderBuffer}
use Rattle.pg_seq.specs.declared.assembler.Assembler.{Assembler}
use Rattle.pg_plan.specs.History.{Past}
use Rattle.pg_seq.specs.Slots.{slot_block}
use Rattle.pg_seq.specs.Buffer.{HasResult}
use Rattle.pg_seq.specs.Standing.{IsAfter}
use Rattle.pg_plan.proofs.ListLemmas.{heads}
use Rattle.pg_seq.proofs.StandLemmas.{same_buffer, same_stands}
use Rattle.pg_seq.proofs.DrainSteps.{here, none_ready, result_is, lines_fit, bytes_fit, printed_next, block_part}
use Rattle.pg_seq.proofs.assembler.Assembler.print_next.Goals as goal

-- the first slot has the result
result_of : {A : Type 0} (buffer : ReorderBuffer A) (found : SearchedBlock) (slot : Slot A) (rest : List (Slot A))
    → HasResult buffer 0 found → buffer.slots.items ≡ slot ∷ rest → slot.result ≡ Some found
result_of buffer found slot rest p e = ap (λ x. x.result) (heads (sym e ∙ p.slots)) ∙ p.result

-- what is remembered behind a block, by the printer and the block as they are when it is given up
passed : {A : Type 0} (s : Assembler A) (past : Past) (h : IsAfter s past) (printer : Printer A)
    (printed : PrintedBlock) (b other : BlockData) → printer ≡ s.printer → b ≡ other
    → IsRememberedBehind s.printer past.query past.format (behind_block past.query past.format (here s past h) b.bytes)
    b.bytes printed
    → IsAtCursor printer past.query past.format (here s past h)
    × IsRememberedBehind printer past.query past.format
    (behind_block past.query past.format (here s past h) other.bytes) other.bytes printed
passed s past h printer printed b other same is r =
    let q = past.query in
    let format = past.format in
    let behind : List ℕ → Cursor = behind_block q format (here s past h) in
    let R : Printer _ → Type 0 = λ x. IsAtCursor x q format (here s past h) in
    let F : BlockData → Type 0 = λ x. IsRememberedBehind s.printer q format (behind x.bytes) x.bytes printed in
    let G : Printer _ → Type 0 = λ x. IsRememberedBehind x q format (behind other.bytes) other.bytes printed in
    (subst R (sym same) h.writes.cursor, subst G (sym same) (subst F is r))

pub returns-in_default : goal.returns-in_default
returns-in_default g c = record {
  goes = λ past h. record {
    all =
        let inside = c.requires.inside in
        none_ready c.args.self.now past h inside.0 inside.1 c.requires.stands.2 c.in_default.ensures;
    same = refl;
    stands = h;
  };
  fewer = λ e. absurd (cc);
  same = refl;
}

pub print-requires : goal.print-requires
print-requires g c =
    let s = c.args.self.now in
    let past = c.requires.stands.0 in
    let h = c.requires.stands.1 in
    let p = c.in-Some.ensures in (
      past.query,
      past.format,
      here s past h,
      h.writes.cursor,
      h.trees,
      (result_is s past h p.slot p.later c.in-Some.found.now p.slots p.result).0,
      lines_fit s past h p.slot p.later c.in-Some.found.now c.requires.inside.0 c.requires.inside.1 p.slots p.result,
      bytes_fit s past h p.slot p.later c.in-Some.found.now c.requires.inside.0 c.requires.inside.1 p.slots p.result,
    )

pub returns-in_err-printed : goal.returns-in_err-printed
returns-in_err-printed g c = record {
  goes = λ past h.
      let s = c.args.self.now in
      let found = c.in-Some.found.now in
      let p = c.in-Some.ensures in
      let w = (c.in_err-printed.ensures.writes past.query past.format (here s past h) h.writes.cursor h.trees
      (result_is s past h p.slot p.later found p.slots p.result).0).err in
      MatchResult-from_err c.from_residual.result _ _ c.from_residual.ensures.0 (λ _. record {
        rows = w.part.0;
        got = w.part.2;
        failure = w.failure;
        part = block_part s past h found p c.requires.inside.0 c.requires.inside.1 c.requires.stands.2 _ _ w.part;
        stands = same_stands s _ past h (record { selector = refl; format = refl; running = refl; bad = refl })
            (record { handed = refl; printing = refl; printer = c.print.ensures.same }) refl (same_buffer _) refl;
      });
  fewer = IfOk-from_err c.from_residual.result _ c.from_residual.ensures.0;
  same = refl;
}

-- what was printed, by the block that is given up
pub pass-requires : goal.pass-requires
pass-requires g c =
    let s = c.args.self.now in
    let past = c.requires.stands.0 in
    let h = c.requires.stands.1 in
    let found = c.in-Some.found.now in
    let slot = c.in-Some-pop_first.slot in
    let first = c.in-Some-pop_first.ensures.slots in
    let r = result_is s past h slot _ found first (result_of s.buffer found slot _ c.in-Some.ensures first) in
    let m = passed s past h _ c.in_ok-printed.printed found.block (slot_block slot) c.print.ensures.same r.1
    (c.in_ok-printed.ensures.follows past.query past.format (here s past h) h.writes.cursor h.trees r.0) in
    (past.query, past.format, here s past h, m.0, m.1)

pub returns-in-Some-pop_first : goal.returns-in-Some-pop_first
returns-in-Some-pop_first g c =
    let s = c.args.self.now in
    let found = c.in-Some.found.now in
    let slot = c.in-Some-pop_first.slot in
    let o = c.in-Some-pop_first.ensures in
    let result = result_of s.buffer found slot _ c.in-Some.ensures o.slots in
    record {
      goes = λ past h.
          let q = past.query in
          let cursor = here s past h in
          let r = result_is s past h slot _ found o.slots result in
          let m = passed s past h _ c.in_ok-printed.printed found.block (slot_block slot) c.print.ensures.same r.1
          (c.in_ok-printed.ensures.follows q past.format cursor h.writes.cursor h.trees r.0) in
          record {
            rows = shown_rows q past.format cursor found.block.bytes;
            got = (c.in_ok-printed.ensures.writes q past.format cursor h.writes.cursor h.trees r.0).ok;
            stands = printed_next s past h _ slot found c.requires.inside.0 c.requires.inside.1 c.requires.stands.2
                result o (record { selector = refl; format = refl; running = refl; bad = refl }) refl refl refl
                (c.pass.ensures q past.format cursor m.0 m.1);
          };
      fewer = λ e. omega (arith, ap length o.slots);
      same = refl;
    }
