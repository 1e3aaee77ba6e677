use Rattle.std.proofs.Common.{◌∙◌, ◌&&◌, ap, sym, cond}
use Rattle.pg_rows.specs.Modes.{is_quiet}
use Rattle.pg_plan.specs.History.{IsComplete}
use Rattle.pg_seq.proofs.StandLemmas.{held_results, status_is}
use Rattle.pg_seq.proofs.assembler.Assembler.status.Goals as goal

pub returns : goal.returns
returns g c = λ past h.
    let s = c.args.self.now in
    let whole : IsComplete past = (c.complete.ensures past h).0 c.if-not-complete.false in
    let selected = c.has_selected-selected.ensures past.query h.trees (held_results s past h) in (
      whole,
      c.exit_status.ensures
          ∙ (ap (λ t. cond (is_quiet s.format.mode && t) 0 (cond s.bad 2 (cond t 0 1))) selected
          ∙ sym (status_is s past h whole)),
    )
