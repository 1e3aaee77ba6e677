use Rattle.std.proofs.Common.{◌≡◌, ◌∙◌, List, [], ◌∷◌, ◌++◌, ap, drop, refl, subst, sym}
use Rattle.pg_base.specs.declared.cause.Cause.TheVariants.{ReadFailed}
use Rattle.pg_base.specs.Entries.{Left}
use Rattle.pg_files.specs.Given.{FileOutcome, File}
use Rattle.pg_run.specs.Told.{faults_of}
use Rattle.pg_base.specs.Causes.{fault_line}
use Rattle.pg_run.specs.Reading.{BreaksOffTold}
use Rattle.pg_run.specs.declared.fault.RunFault.TheVariants.{OutOfMemory}
use Rattle.pg_run.proofs.HoldLemmas.{fails_by}
use Rattle.pg_reader.proofs.ReadLemmas.{reads_none}
use Rattle.pg_run.proofs.RunLemmas.{told_by, told_same, told_failed, told_unfailed, stops_telling, stops_memory}
use Rattle.pg_run.proofs.RunLemmas.{stops_reading, unnumbered, unopened_safe, taken_part, between_safe, file_started}
use Rattle.pg_run.proofs.running.one_file.Goals as goal

pub returns-then-engine-ge-MOST_FILES-clause-outcome : goal.returns-then-engine-ge-MOST_FILES-clause-outcome
returns-then-engine-ge-MOST_FILES-clause-outcome g c = λ given new aim rests.
    let out' = g.W.Sink.stream c.break_off.new.out in
    let told = g.E.Sink.stream c.args.faults.now in
    let more = File new.0 [] Left ∷ given in
    let P : List FileOutcome → Type 0 = λ gs. BreaksOffTold aim gs out' told c.break_off.result in
    subst P (sym new.1) (stops_reading aim given more out' told c.break_off.result
    (unnumbered rests.0 out' new.0 c.break_off.result c.if-engine-ge-MOST_FILES.true
    (c.break_off.ensures aim rests.0.steps rests.0.holds)) rests.1 refl)

pub break_off-requires-clause-holds : goal.break_off-requires-clause-holds
break_off-requires-clause-holds g c κs within =
    let r = c.requires.rests.2 in
    (r.0, r.1.0.steps, r.1.0.holds)

pub open_file-requires-clause-between : goal.open_file-requires-clause-between
open_file-requires-clause-between g c =
    let r = c.requires.rests in
    (r.2.0, r.0, g.W.Sink.stream c.args.out.now, r.2.1.0)

pub returns-in_err-open_file-clause-outcome : goal.returns-in_err-open_file-clause-outcome
returns-in_err-open_file-clause-outcome g c = λ given new aim rests.
    let out = g.W.Sink.stream c.args.out.now in
    let told = g.E.Sink.stream c.args.faults.now in
    let P : List FileOutcome → Type 0 = λ gs. BreaksOffTold aim gs out told OutOfMemory in
    let more = File new.0 [] Left ∷ given in
    fails_by c.from_residual.result _ _ c.from_residual.ensures.1
    (subst P (sym new.1)
    (stops_memory aim more out told (unopened_safe rests.0 new.0 out.taken (taken_part rests.0)) rests.0.holds.calm
    (told_same aim given more told rests.1 refl)))

pub read_file-requires-clause-in_file : goal.read_file-requires-clause-in_file
read_file-requires-clause-in_file g c κs within =
    let r = c.requires.rests in
    let out = g.W.Sink.stream c.args.out.now in (
      r.2.0,
      file_started (g.F.Files.past c.args.files.now).given c.name.result.now r.1 c.name.ensures
          (c.in_ok-open_file.ensures.ok r.2.0 r.0 out r.2.1.0),
    )

pub returns-in_err-failed-clause-outcome : goal.returns-in_err-failed-clause-outcome
returns-in_err-failed-clause-outcome g c = λ given new aim rests.
    let out = g.W.Sink.stream c.args.out.now in
    let start = file_started (g.F.Files.past c.args.files.now).given c.name.result.now new c.name.ensures
    (c.in_ok-open_file.ensures.ok aim given out rests.0) in
    let told = g.E.Sink.stream c.args.faults.now in
    let given' = (g.F.Files.past c.read_file.new.files).given in
    let out' = g.W.Sink.stream c.read_file.new.out in
    let fault = c.in_err-failed.field-0.0 in
    fails_by c.from_residual-in_err-failed.result _ _ c.from_residual-in_err-failed.ensures.1
    (stops_reading aim given given' out' told fault (c.in_err-failed.ensures.outcome aim start) rests.1
    (c.in_err-failed.ensures.reads_on.before ∙ ap (λ gs. drop 1 gs) new.1))

pub returns-in_err-tell_fault-clause-outcome : goal.returns-in_err-tell_fault-clause-outcome
returns-in_err-tell_fault-clause-outcome g c = λ given new aim rests.
    let out = g.W.Sink.stream c.args.out.now in
    let start = file_started (g.F.Files.past c.args.files.now).given c.name.result.now new c.name.ensures
    (c.in_ok-open_file.ensures.ok aim given out rests.0) in
    let told = g.E.Sink.stream c.args.faults.now in
    let before = (g.F.Files.past c.args.files.now).given in
    let given' = (g.F.Files.past c.read_file.new.files).given in
    let out' = g.W.Sink.stream c.read_file.new.out in
    let told' = g.E.Sink.stream c.tell_fault.new.faults in
    let after = c.in_ok-failed.ensures.outcome aim start in
    let line = fault_line c.name-then-failed.result.now ReadFailed in
    let more : faults_of given' ≡ faults_of given ++ line =
    told_failed given before given' c.name-then-failed.result.now c.in_ok-failed.failed new
    c.in_ok-failed.ensures.told c.if-failed.true c.name-then-failed.ensures in
    let set = ap (λ s. s.silent) after.holds.set in
    let err = c.in_err-tell_fault.ensures in
    fails_by c.from_residual-in_err-tell_fault.result _ _ c.from_residual-in_err-tell_fault.ensures.1
    (subst (BreaksOffTold aim given' out' told') (sym err.fault)
    (stops_telling aim given given' out' told told' c.read_file.new.engine.setup.silent line set (between_safe after)
    rests.1 more err.writes.err))

pub returns-in_ok-tell_fault-clause-outcome : goal.returns-in_ok-tell_fault-clause-outcome
returns-in_ok-tell_fault-clause-outcome g c = λ given new aim rests.
    let out = g.W.Sink.stream c.args.out.now in
    let start = file_started (g.F.Files.past c.args.files.now).given c.name.result.now new c.name.ensures
    (c.in_ok-open_file.ensures.ok aim given out rests.0) in
    let told = g.E.Sink.stream c.args.faults.now in
    let before = (g.F.Files.past c.args.files.now).given in
    let given' = (g.F.Files.past c.read_file.new.files).given in
    let told' = g.E.Sink.stream c.tell_fault.new.faults in
    let after = c.in_ok-failed.ensures.outcome aim start in
    let line = fault_line c.name-then-failed.result.now ReadFailed in
    let more : faults_of given' ≡ faults_of given ++ line =
    told_failed given before given' c.name-then-failed.result.now c.in_ok-failed.failed new
    c.in_ok-failed.ensures.told c.if-failed.true c.name-then-failed.ensures in
    let set = ap (λ s. s.silent) after.holds.set in
    let ok = c.in_ok-tell_fault.ensures in (
      after,
      told_by aim given given' told told' c.read_file.new.engine.setup.silent line set rests.1 more ok.writes.ok,
    )

pub returns-else-failed-clause-outcome : goal.returns-else-failed-clause-outcome
returns-else-failed-clause-outcome g c = λ given new aim rests.
    let out = g.W.Sink.stream c.args.out.now in
    let start = file_started (g.F.Files.past c.args.files.now).given c.name.result.now new c.name.ensures
    (c.in_ok-open_file.ensures.ok aim given out rests.0) in
    let told = g.E.Sink.stream c.args.faults.now in
    let before = (g.F.Files.past c.args.files.now).given in
    let given' = (g.F.Files.past c.read_file.new.files).given in (
      c.in_ok-failed.ensures.outcome aim start,
      told_same aim given given' told rests.1
          (told_unfailed given before given' c.in_ok-failed.failed new c.in_ok-failed.ensures.told
          c.if-failed.false),
    )

pub returns-then-engine-ge-MOST_FILES-clause-reads_on : goal.returns-then-engine-ge-MOST_FILES-clause-reads_on
returns-then-engine-ge-MOST_FILES-clause-reads_on g c = reads_none

pub returns-in_err-open_file-clause-reads_on : goal.returns-in_err-open_file-clause-reads_on
returns-in_err-open_file-clause-reads_on g c = reads_none

pub read_file-requires-clause-awaits : goal.read_file-requires-clause-awaits
read_file-requires-clause-awaits g c κs within = c.in_ok-open_file.ensures.awaits
