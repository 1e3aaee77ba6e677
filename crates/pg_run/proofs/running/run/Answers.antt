use Rattle.std.proofs.Common.{refl}
use Rattle.std.specs.Arc.{arc_value}
use Rattle.std.proofs.lemmas.Result.{MatchResult-weaker}
use Rattle.pg_selection.specs.Search.{search_of}
use Rattle.pg_run.proofs.HoldLemmas.{fails_by}
use Rattle.pg_run.proofs.RunLemmas.{aim_for, between_new, told_new, breaks_first}
use Rattle.pg_run.proofs.running.run.Goals as goal

pub returns-in_err-engine-clause-outcome : goal.returns-in_err-engine-clause-outcome
returns-in_err-engine-clause-outcome g c = λ q is.
    let out = g.W.Sink.stream c.args.out.now in
    let told = g.E.Sink.stream c.args.faults.now in
    fails_by c.from_residual.result _ _ c.from_residual.ensures.1
    (breaks_first q c.args.setup (g.F.Files.past c.args.files.now) out told c.requires.new)

pub returns-in_err-engine-clause-same_list : goal.returns-in_err-engine-clause-same_list
returns-in_err-engine-clause-same_list g c = refl

pub search_files-requires-clause-new : goal.search_files-requires-clause-new
search_files-requires-clause-new g c κs within = c.requires.new

pub search_files-requires-clause-rests : goal.search_files-requires-clause-rests
search_files-requires-clause-rests g c κs within =
    let out = g.W.Sink.stream c.args.out.now in
    let told = g.E.Sink.stream c.args.faults.now in
    let own = c.in_ok-engine.ensures.trees in
    let aim = aim_for (search_of (arc_value c.args.selector) own.0) c.args.setup out told in
    (aim, (between_new c.in_ok-engine.engine aim (c.in_ok-engine.ensures.new aim own.1 refl refl), told_new aim))

pub returns-clause-outcome : goal.returns-clause-outcome
returns-clause-outcome g c = λ q is.
    let out = g.W.Sink.stream c.args.out.now in
    let told = g.E.Sink.stream c.args.faults.now in
    let aim = aim_for q c.args.setup out told in
    MatchResult-weaker c.search_files.result (c.search_files.ensures.outcome aim
    (between_new c.in_ok-engine.engine aim (c.in_ok-engine.ensures.new aim is.1 is.0 refl), told_new aim))
    (λ _ f. f) (λ _ s. s)
