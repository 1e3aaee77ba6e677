use Rattle.std.proofs.Common.{◌/◌, arith}
use Rattle.std.proofs.lemmas.Option.{slice_get-get_or}
use Rattle.pg_match.specs.Dfas.{In}
use Rattle.pg_match.specs.Views.{nfa, dfa}
use Rattle.pg_match.proofs.ScanLemmas.{settled_here, finished_here}
use Rattle.pg_match.proofs.automaton.Automaton.recall_stop.Goals as goal

pub returns-then-place-line : goal.returns-then-place-line
returns-then-place-line g c =
    let l = c.args.line.now in
    let p = c.args.place in
    settled_here (nfa c.args.self.now) _ (In (dfa c.args.cache.now) (c.args.state / 256)) l p c.requires.within
    (slice_get-get_or l p 0 c.requires.within) c.recall_step.result c.recall_step.ensures

pub returns-else-place-line : goal.returns-else-place-line
returns-else-place-line g c =
    let l = c.args.line.now in
    let p = c.args.place in
    finished_here (nfa c.args.self.now) _ (In (dfa c.args.cache.now) (c.args.state / 256)) l p
    (omega (arith, c.if-place-line.false, c.requires.within)) (slice_get-get_or l p 0 c.requires.within)
    c.recall_end.result c.recall_end.ensures
