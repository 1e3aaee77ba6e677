use Rattle.std.proofs.Common.{◌∙◌, ap, sym, subst, refl}
use Rattle.pg_rows.specs.declared.format.Format.{Format}
use Rattle.pg_rows.specs.Progress.{IsOfTrail}
use Rattle.pg_seq.specs.Ahead.{is_enough_by}
use Rattle.pg_plan.specs.Cursor.{cursor_of}
use Rattle.pg_plan.specs.History.{front_of}
use Rattle.pg_seq.proofs.AheadLemmas.{at_first, front_enough}
use Rattle.pg_seq.proofs.assembler.Assembler.enough.Goals as goal

pub loop-next-init : goal.loop-next-init
loop-next-init g c = λ past h.
    at_first c.args.self.now past h _ refl refl refl c.progress.ensures c.has_handed_selected.ensures

pub returns : goal.returns
returns g c = λ past h.
    let s = c.args.self.now in
    let a = c.loop-next.ahead in
    let f = c.in_default.ensures.further past h (c.loop-next.invariant past h) in
    let trail = (cursor_of past.query past.format (front_of past)).trail in
    let T : Format → Type 0 = λ x. IsOfTrail a.progress x trail in
    c.is_enough.ensures trail (subst T h.format f.progress)
    ∙ (ap (λ (x : Format). is_enough_by x a trail) (sym h.format) ∙ front_enough s past h a f)

pub next_ahead-requires : goal.next_ahead-requires
next_ahead-requires g c =
    let past = c.requires in
    (past.0, past.1, c.loop-next.invariant past.0 past.1)

pub loop-next-preserved : goal.loop-next-preserved
loop-next-preserved g c = λ past h. c.in-Some.ensures.further past h (c.loop-next.invariant past h)
