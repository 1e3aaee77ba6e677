use Rattle.std.proofs.Common.{sym, subst, ◌||◌, not, ap, refl, arith}
use Rattle.pg_rows.specs.declared.format.Format.{Format}
use Rattle.pg_rows.specs.Progress.{TellsBlock}
use Rattle.pg_seq.proofs.AheadLemmas.{no_block, block_of, block_fits, block_next, result_within}
use Rattle.pg_seq.proofs.assembler.Assembler.block_ahead.Goals as goal

pub returns-in_default : goal.returns-in_default
returns-in_default g c = record {
  further = λ past h i.
      no_block c.args.self.now past h c.args.ahead i c.requires.inside.0 c.requires.inside.1 c.in_default.ensures;
  fewer = tt;
}

pub after-requires : goal.after-requires
after-requires g c =
    let s = c.args.self.now in
    let a = c.args.ahead in
    let past = c.requires.stands.0 in
    let h = c.requires.stands.1 in
    let i = c.requires.stands.2 in
    let w = block_of s past h a i c.in-Some.found.now c.requires.inside.0 c.requires.inside.1 c.in-Some.ensures in
    omega (arith, block_fits s past h a i c.in-Some.found.now w, c.lines.ensures)

pub returns : goal.returns
returns g c =
    let s = c.args.self.now in
    let a = c.args.ahead in
    let found = c.in-Some.found.now in
    record {
      further = λ past h i.
          let w = block_of s past h a i found c.requires.inside.0 c.requires.inside.1 c.in-Some.ensures in
          let runs = c.runs-runs.result.now in
          let P : Format → Type 0 = λ f. TellsBlock a.progress f runs c.lines.result c.after.result in
          block_next s past h a i found w runs c.lines.result c.runs-runs.ensures c.lines.ensures _ refl refl refl
          (subst P (sym h.format) c.after.ensures.tells)
          (ap (λ t. a.selected || not t) c.is_empty.ensures);
      fewer = omega (arith, result_within s.buffer _ _ c.in-Some.ensures);
    }

pub overflow_add-result : goal.overflow_add-result
overflow_add-result g c =
    let buffer = c.args.self.now.buffer in
    omega (arith, result_within buffer _ _ c.in-Some.ensures, buffer.slots.ok.0)
