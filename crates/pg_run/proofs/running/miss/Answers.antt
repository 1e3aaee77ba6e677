use Rattle.std.proofs.Common.{◌∷◌, ap, refl, subst, sym}
use Rattle.pg_files.specs.Given.{NoFile}
use Rattle.pg_base.specs.Causes.{fault_line}
use Rattle.pg_run.specs.Reading.{BreaksOffTold}
use Rattle.pg_run.proofs.HoldLemmas.{fails_by}
use Rattle.pg_run.proofs.RunLemmas.{told_by, stops_telling, stops_reading, stops_memory, rows_sent}
use Rattle.pg_run.proofs.RunLemmas.{taken_part, unmissed_safe, unsent_breaks, name_missed}
use Rattle.pg_run.proofs.running.miss.Goals as goal

pub send_rows-requires-clause-holds : goal.send_rows-requires-clause-holds
send_rows-requires-clause-holds g c κs within =
    let b = c.requires.1.1.0 in
    (c.requires.1.0, b.steps, b.holds)

pub returns-in_err-send_rows : goal.returns-in_err-send_rows
returns-in_err-send_rows g c = λ given aim rests.
    let told = g.E.Sink.stream c.args.faults.now in
    let out' = g.W.Sink.stream c.send_rows.new.out in
    let more = NoFile c.args.name.now c.args.cause ∷ given in
    let fault = c.in_err-send_rows.field-0.0 in
    let broke = c.in_err-send_rows.ensures aim rests.0.steps rests.0.holds in
    fails_by c.from_residual.result _ _ c.from_residual.ensures.1
    (stops_reading aim given more out' told fault (unsent_breaks rests.0 c.args.name.now c.args.cause out' fault broke)
    rests.1 refl)

pub returns-in_err-tell_fault : goal.returns-in_err-tell_fault
returns-in_err-tell_fault g c = λ given aim rests.
    let told = g.E.Sink.stream c.args.faults.now in
    let told' = g.E.Sink.stream c.tell_fault.new.faults in
    let out' = g.W.Sink.stream c.send_rows.new.out in
    let more = NoFile c.args.name.now c.args.cause ∷ given in
    let err = c.in_err-tell_fault.ensures in
    let b = rows_sent rests.0 _ out' (c.in_ok-send_rows.ensures aim rests.0.steps rests.0.holds) in
    fails_by c.from_residual-in_err-tell_fault.result _ _ c.from_residual-in_err-tell_fault.ensures.1
    (subst (BreaksOffTold aim more out' told') (sym err.fault)
    (stops_telling aim given more out' told told' c.send_rows.new.self.setup.silent
    (fault_line c.args.name.now c.args.cause) (ap (λ s. s.silent) b.holds.set)
    (unmissed_safe b c.args.name.now c.args.cause out'.taken (taken_part b)) rests.1 refl err.writes.err))

pub miss-requires : goal.miss-requires
miss-requires g c =
    let aim = c.requires.1.0 in
    let b = c.requires.1.1.0 in
    (aim, b.steps, _, (c.in_ok-send_rows.ensures aim b.steps b.holds, (b.closed, tt)))

pub returns-in_err-miss : goal.returns-in_err-miss
returns-in_err-miss g c = λ given aim rests.
    let told = g.E.Sink.stream c.args.faults.now in
    let told' = g.E.Sink.stream c.tell_fault.new.faults in
    let out' = g.W.Sink.stream c.send_rows.new.out in
    let more = NoFile c.args.name.now c.args.cause ∷ given in
    let ok = c.in_ok-tell_fault.ensures in
    let b = rows_sent rests.0 _ out' (c.in_ok-send_rows.ensures aim rests.0.steps rests.0.holds) in
    fails_by c.from_residual-in_err-miss.result _ _ c.from_residual-in_err-miss.ensures.1
    (stops_memory aim more out' told' (unmissed_safe b c.args.name.now c.args.cause out'.taken (taken_part b))
    b.holds.calm
    (told_by aim given more told told' c.send_rows.new.self.setup.silent (fault_line c.args.name.now c.args.cause)
    (ap (λ s. s.silent) b.holds.set) rests.1 refl ok.writes.ok))

pub returns : goal.returns
returns g c = λ given aim rests.
    let told = g.E.Sink.stream c.args.faults.now in
    let told' = g.E.Sink.stream c.tell_fault.new.faults in
    let out' = g.W.Sink.stream c.send_rows.new.out in
    let more = NoFile c.args.name.now c.args.cause ∷ given in
    let ok = c.in_ok-tell_fault.ensures in
    let b = rows_sent rests.0 _ out' (c.in_ok-send_rows.ensures aim rests.0.steps rests.0.holds) in (
      name_missed b _ c.args.name.now c.args.cause
          (c.in_ok-miss.ensures aim b.steps out' (b.holds, (b.closed, tt))),
      told_by aim given more told told' c.send_rows.new.self.setup.silent (fault_line c.args.name.now c.args.cause)
          (ap (λ s. s.silent) b.holds.set) rests.1 refl ok.writes.ok,
    )
