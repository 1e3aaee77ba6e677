use Rattle.std.proofs.Common.{◌≡◌, ◌∙◌, List, ◌∷◌, ap, drop, inl, inr, subst, sym}
use Rattle.pg_files.specs.Given.{FileOutcome, NoFile, FilesPast, newest_name}
use Rattle.pg_run.specs.Reading.{HasToldAll, BreaksOffTold}
use Rattle.pg_run.specs.declared.fault.RunFault.TheVariants.{OutOfMemory}
use Rattle.pg_run.proofs.HoldLemmas.{on_err_of, fails_by}
use Rattle.pg_run.proofs.RunLemmas.{between_safe, stops_memory}
use Rattle.pg_run.proofs.running.take_next.Goals as goal

pub returns-in_err-next-clause-outcome : goal.returns-in_err-next-clause-outcome
returns-in_err-next-clause-outcome g c = λ aim rests.
    let out = g.W.Sink.stream c.args.out.now in
    let told = g.E.Sink.stream c.args.faults.now in
    let given = (g.F.Files.past c.args.files.now).given in
    let P : FilesPast → Type 0 = λ p. BreaksOffTold aim p.given out told OutOfMemory in
    fails_by c.from_residual.result _ _ c.from_residual.ensures.1
    (subst P (sym c.in_err-next.ensures.err)
    (stops_memory aim given out told (between_safe rests.0) rests.0.holds.calm rests.1))

pub returns-in_ok-miss-in-Miss-clause-outcome : goal.returns-in_ok-miss-in-Miss-clause-outcome
returns-in_ok-miss-in-Miss-clause-outcome g c = λ aim rests.
    let out = g.W.Sink.stream c.miss.new.out in
    let told' = g.E.Sink.stream c.miss.new.faults in
    let given = (g.F.Files.past c.args.files.now).given in
    let e = rw c.in-Miss.is at c.in_ok-next.ensures.ok in
    let is : (g.F.Files.past c.next.new.self).given ≡ NoFile e.0 c.in-Miss.cause ∷ given = ap (λ p. p.given) e.1 in
    let named : c.name.result.now ≡ e.0 = c.name.ensures ∙ ap newest_name is in
    let P : List FileOutcome → Type 0 = λ gs. HasToldAll c.miss.new.engine aim gs out told' in
    subst P (sym (is ∙ ap (λ n. NoFile n c.in-Miss.cause ∷ given) (sym named)))
    (c.in_ok-miss-in-Miss.ensures given aim rests)

pub one_file-requires-clause-rests : goal.one_file-requires-clause-rests
one_file-requires-clause-rests g c κs within =
    let r = c.requires.rests in
    let e = rw c.in-File.is at c.in_ok-next.ensures.ok in
    ((g.F.Files.past c.args.files.now).given, (e.0, ap (λ p. p.given) e.1), r)

pub returns-in_err-one_file-in-File-clause-outcome : goal.returns-in_err-one_file-in-File-clause-outcome
returns-in_err-one_file-in-File-clause-outcome g c = λ aim rests.
    let e = rw c.in-File.is at c.in_ok-next.ensures.ok in
    fails_by c.from_residual-in_err-one_file-in-File.result _ _ c.from_residual-in_err-one_file-in-File.ensures.1
    (c.in_err-one_file-in-File.ensures.outcome (g.F.Files.past c.args.files.now).given (e.0, ap (λ p. p.given) e.1) aim
    rests)

pub returns-in_ok-one_file-in-File-clause-outcome : goal.returns-in_ok-one_file-in-File-clause-outcome
returns-in_ok-one_file-in-File-clause-outcome g c = λ aim rests.
    let e = rw c.in-File.is at c.in_ok-next.ensures.ok in
    c.in_ok-one_file-in-File.ensures.outcome (g.F.Files.past c.args.files.now).given (e.0, ap (λ p. p.given) e.1) aim
    rests

pub returns-in_err-one_file-in-File-clause-same_list : goal.returns-in_err-one_file-in-File-clause-same_list
returns-in_err-one_file-in-File-clause-same_list g c =
    c.in_err-one_file-in-File.ensures.reads_on.same_list ∙ c.in_ok-next.ensures.same_list

pub returns-in_ok-one_file-in-File-clause-same_list : goal.returns-in_ok-one_file-in-File-clause-same_list
returns-in_ok-one_file-in-File-clause-same_list g c =
    c.in_ok-one_file-in-File.ensures.reads_on.same_list ∙ c.in_ok-next.ensures.same_list

pub returns-in-Done-clause-goes : goal.returns-in-Done-clause-goes
returns-in-Done-clause-goes g c =
    let e = rw c.in-Done.is at c.in_ok-next.ensures.ok in
    (ap (λ p. p.given) e, ap (λ p. p.done) e, c.in_ok-next.ensures.all c.in-Done.is)

pub returns-in-Done-clause-outcome : goal.returns-in-Done-clause-outcome
returns-in-Done-clause-outcome g c = λ aim rests.
    let out = g.W.Sink.stream c.args.out.now in
    let told = g.E.Sink.stream c.args.faults.now in
    let P : FilesPast → Type 0 = λ p. HasToldAll c.args.engine.now aim p.given out told in
    let e = rw c.in-Done.is at c.in_ok-next.ensures.ok in
    subst P (sym e) rests

pub returns-in_ok-miss-in-Miss-clause-goes : goal.returns-in_ok-miss-in-Miss-clause-goes
returns-in_ok-miss-in-Miss-clause-goes g c =
    let e = rw c.in-Miss.is at c.in_ok-next.ensures.ok in
    (ap (λ p. drop 1 p.given) e.1, ap (λ p. p.done) e.1)

pub returns-in_ok-one_file-in-File-clause-goes : goal.returns-in_ok-one_file-in-File-clause-goes
returns-in_ok-one_file-in-File-clause-goes g c =
    let e = rw c.in-File.is at c.in_ok-next.ensures.ok in
    let ok = c.in_ok-one_file-in-File.ensures.reads_on in
    (ok.before ∙ ap (λ p. drop 1 p.given) e.1, ok.done ∙ ap (λ p. p.done) e.1)

pub returns-in_err-miss-in-Miss-clause-outcome : goal.returns-in_err-miss-in-Miss-clause-outcome
returns-in_err-miss-in-Miss-clause-outcome g c = λ aim rests.
    let out = g.W.Sink.stream c.miss.new.out in
    let told' = g.E.Sink.stream c.miss.new.faults in
    let given = (g.F.Files.past c.args.files.now).given in
    let e = rw c.in-Miss.is at c.in_ok-next.ensures.ok in
    let is : (g.F.Files.past c.next.new.self).given ≡ NoFile e.0 c.in-Miss.cause ∷ given = ap (λ p. p.given) e.1 in
    let named : c.name.result.now ≡ e.0 = c.name.ensures ∙ ap newest_name is in
    let fault = c.in_err-miss-in-Miss.field-0.0 in
    let P : List FileOutcome → Type 0 = λ gs. BreaksOffTold aim gs out told' fault in
    fails_by c.from_residual-in_err-miss-in-Miss.result _ _ c.from_residual-in_err-miss-in-Miss.ensures.1
    (subst P (sym (is ∙ ap (λ n. NoFile n c.in-Miss.cause ∷ given) (sym named)))
    (c.in_err-miss-in-Miss.ensures given aim rests))

pub returns-in_err-next-clause-went : goal.returns-in_err-next-clause-went
returns-in_err-next-clause-went g c =
    on_err_of c.from_residual.result _ (inl (ap (λ p. p.given) c.in_err-next.ensures.err))

pub returns-in_err-miss-in-Miss-clause-went : goal.returns-in_err-miss-in-Miss-clause-went
returns-in_err-miss-in-Miss-clause-went g c =
    let e = rw c.in-Miss.is at c.in_ok-next.ensures.ok in
    on_err_of c.from_residual-in_err-miss-in-Miss.result _ (inr (ap (λ p. drop 1 p.given) e.1))

pub returns-in_err-one_file-in-File-clause-went : goal.returns-in_err-one_file-in-File-clause-went
returns-in_err-one_file-in-File-clause-went g c =
    let e = rw c.in-File.is at c.in_ok-next.ensures.ok in
    on_err_of c.from_residual-in_err-one_file-in-File.result _
    (inr (c.in_err-one_file-in-File.ensures.reads_on.before ∙ ap (λ p. drop 1 p.given) e.1))
