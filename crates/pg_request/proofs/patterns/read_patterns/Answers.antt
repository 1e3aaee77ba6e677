use Rattle.std.proofs.Common.{◌≡◌, ◌∙◌, ◌++◌, ◌∷◌, [], map, ap, inr, refl, subst, sym}
use Rattle.pg_base.specs.Entries.{Ended}
use Rattle.pg_grammar.specs.Memory.{patterns_of}
use Rattle.pg_grammar.specs.Slices.{bytes_of}
use Rattle.pg_grammar.proofs.ListLemmas.{map-push}
use Rattle.pg_selection.specs.Search.{ByLine}
use Rattle.pg_request.specs.Reading.{FailsToReadAll}
use Rattle.pg_request.specs.declared.fault.Fault.{Fault}
use Rattle.pg_request.specs.declared.fault.Fault.TheVariants.{OutOfMemory}
use Rattle.pg_request.proofs.ReadingLemmas.{if_err, read_more, stops_behind}
use Rattle.pg_request.proofs.patterns.read_patterns.Goals as goal

pub returns-in_err-bytes-clause-fault : goal.returns-in_err-bytes-clause-fault
returns-in_err-bytes-clause-fault g c =
    let paths = c.args.paths.now in
    let i = c.loop-path.path-index in
    let past = g.S.Store.past c.args.store.now in
    let mid = g.S.Store.past c.loop-path.store in
    let past' = g.S.Store.past c.read_file.new.store in
    let read = c.loop-path.invariant in
    let P : Fault → Type 0 = λ e. FailsToReadAll (bytes_of paths) past past' e in
    if_err P _ c.from_residual.result c.from_residual.ensures.1
    (λ e h. subst P (sym h)
    (stops_behind paths i _ read.0 past mid past' _ c.loop-path-test.true read.2 c.in_err-bytes.ensures.fault))

pub returns-in_err-push-clause-fault : goal.returns-in_err-push-clause-fault
returns-in_err-push-clause-fault g c =
    let paths = c.args.paths.now in
    let i = c.loop-path.path-index in
    let past = g.S.Store.past c.args.store.now in
    let mid = g.S.Store.past c.loop-path.store in
    let past' = g.S.Store.past c.read_file.new.store in
    let read = c.loop-path.invariant in
    let whole = c.in_ok-bytes.ensures.read in
    let P : Fault → Type 0 = λ e. FailsToReadAll (bytes_of paths) past past' e in
    if_err P _ c.from_residual-in_err-push.result c.from_residual-in_err-push.ensures.1
    (λ e h. subst P (sym h)
    (stops_behind paths i _ read.0 past mid past' OutOfMemory c.loop-path-test.true read.2
    (inr (c.in_ok-bytes.bytes.items, Ended, refl, whole))))

pub loop-path-preserved : goal.loop-path-preserved
loop-path-preserved g c =
    let paths = c.args.paths.now in
    let i = c.loop-path.path-index in
    let past = g.S.Store.past c.args.store.now in
    let mid = g.S.Store.past c.loop-path.store in
    let past' = g.S.Store.past c.read_file.new.store in
    let read = c.loop-path.invariant in
    let content = c.in_ok-bytes.bytes.items in
    let lists = c.loop-path.lists.items in
    let same : map patterns_of c.push.new.self.items ≡ map ByLine (read.0 ++ content ∷ []) =
    ap (map patterns_of) c.in_ok-push.ensures.items
    ∙ (map-push patterns_of lists _
    ∙ (ap (λ xs. xs ++ ByLine content ∷ []) read.1 ∙ sym (map-push ByLine read.0 content))) in
    let whole = c.in_ok-bytes.ensures.read in
    (read.0 ++ content ∷ [], same, read_more paths i _ read.0 content past mid past' c.loop-path-test.true read.2 whole)
