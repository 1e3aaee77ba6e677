use Rattle.std.proofs.Common.{◌∙◌, ◌++◌, ◌∷◌, [], ap, inr, refl, subst, sym, option_map}
use Rattle.pg_base.specs.Entries.{Ended}
use Rattle.pg_grammar.proofs.ListLemmas.{map-push}
use Rattle.pg_words.specs.Filters.{filters_of}
use Rattle.pg_request.specs.Asked.{glob_files}
use Rattle.pg_request.specs.Reading.{FailsToReadAll, HasRead, contents_of}
use Rattle.pg_request.specs.declared.fault.Fault.{Fault}
use Rattle.pg_request.specs.declared.fault.Fault.TheVariants.{OutOfMemory}
use Rattle.pg_request.proofs.GlobFileLemmas.{all_read, no_path, one_path, stops_there}
use Rattle.pg_request.proofs.ReadingLemmas.{if_err, read_next}
use Rattle.pg_request.proofs.patterns.read_globs.Goals as goal

pub returns-in_err-bytes-clause-fault : goal.returns-in_err-bytes-clause-fault
returns-in_err-bytes-clause-fault g c =
    let filters = c.args.filters.now in
    let past = g.S.Store.past c.args.store.now in
    let mid = g.S.Store.past c.loop-filter.store in
    let past' = g.S.Store.past c.read_file.new.store in
    let read = c.loop-filter.invariant in
    let is = sym c.glob_file.ensures ∙ ap (option_map (λ path. path.now)) c.in-Some.is in
    let P : Fault → Type 0 = λ e. FailsToReadAll (glob_files (filters_of filters)) past past' e in
    if_err P _ c.from_residual.result c.from_residual.ensures.1
    (λ e h. subst P (sym h)
    (stops_there filters c.loop-filter.filter-index _ _ c.loop-filter-test.true refl read.0 read.1
    c.in-Some.path.now _ past mid past' _ is read.2 c.in_err-bytes.ensures.fault))

pub returns-in_err-push-clause-fault : goal.returns-in_err-push-clause-fault
returns-in_err-push-clause-fault g c =
    let filters = c.args.filters.now in
    let past = g.S.Store.past c.args.store.now in
    let mid = g.S.Store.past c.loop-filter.store in
    let past' = g.S.Store.past c.read_file.new.store in
    let read = c.loop-filter.invariant in
    let is = sym c.glob_file.ensures ∙ ap (option_map (λ path. path.now)) c.in-Some.is in
    let P : Fault → Type 0 = λ e. FailsToReadAll (glob_files (filters_of filters)) past past' e in
    if_err P _ c.from_residual-in_err-push.result c.from_residual-in_err-push.ensures.1
    (λ e h. subst P (sym h)
    (stops_there filters c.loop-filter.filter-index _ _ c.loop-filter-test.true refl read.0 read.1
    c.in-Some.path.now _ past mid past' OutOfMemory is read.2
    (inr (c.in_ok-bytes.bytes.items, Ended, refl, c.in_ok-bytes.ensures.read))))

pub loop-filter-preserved-in_default : goal.loop-filter-preserved-in_default
loop-filter-preserved-in_default g c =
    let filters = c.args.filters.now in
    let read = c.loop-filter.invariant in
    let is = sym c.glob_file.ensures ∙ ap (option_map (λ path. path.now)) c.in_default.is in (
      read.0,
      no_path filters c.loop-filter.filter-index _ _ c.loop-filter-test.true refl read.0 read.1 is,
      read.2,
    )

pub loop-filter-preserved : goal.loop-filter-preserved
loop-filter-preserved g c =
    let filters = c.args.filters.now in
    let past = g.S.Store.past c.args.store.now in
    let mid = g.S.Store.past c.loop-filter.store in
    let past' = g.S.Store.past c.read_file.new.store in
    let read = c.loop-filter.invariant in
    let is = sym c.glob_file.ensures ∙ ap (option_map (λ path. path.now)) c.in-Some.is in
    let content = c.in_ok-bytes.bytes.items in
    let more = ap contents_of c.in_ok-push.ensures.items ∙ map-push (λ x. x.items) c.loop-filter.contents.items _ in
    let path = c.in-Some.path.now in (
      read.0 ++ path ∷ [],
      one_path filters c.loop-filter.filter-index _ _ c.loop-filter-test.true refl read.0 read.1 path is,
      subst (HasRead past past' (read.0 ++ path ∷ [])) (sym more)
          (read_next read.0 (contents_of c.loop-filter.contents.items) path content past mid past' read.2
          c.in_ok-bytes.ensures.read),
    )

pub returns-clause-read : goal.returns-clause-read
returns-clause-read g c =
    let read = c.loop-filter.invariant in
    all_read c.args.filters.now c.loop-filter.filter-index read.0 (contents_of c.loop-filter.contents.items)
    (g.S.Store.past c.args.store.now) (g.S.Store.past c.loop-filter.store) c.loop-filter-test.false read.1 read.2
