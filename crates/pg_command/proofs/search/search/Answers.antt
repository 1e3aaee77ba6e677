use Rattle.std.proofs.Common.{◌∙◌, map, ap, inl, inr, refl, subst, sym}
use Rattle.std.specs.String.{string_bytes}
use Rattle.pg_grammar.specs.Slices.{bytes_of}
use Rattle.pg_walk.specs.Scopes.{scope_of}
use Rattle.pg_files.specs.Listed.{asked_for, files_past, sought}
use Rattle.pg_base.specs.Sink.{Stream}
use Rattle.pg_run.specs.Outcome.{IsSearchFor}
use Rattle.pg_search.specs.Outcome.{SearchBreaksOff}
use Rattle.pg_request.specs.Asked.{asked_of, glob_files, input_name, scope_for, text_with}
use Rattle.pg_words.specs.Filters.{filters_of}
use Rattle.pg_command.specs.Answers.{Fails, HasReadFor, IsSetup}
use Rattle.pg_request.specs.Reading.{FailsToReadAll, HasRead, contents_of}
use Rattle.pg_request.specs.declared.fault.Fault.{Fault}
use Rattle.pg_request.proofs.ReadingLemmas.{if_err}
use Rattle.pg_command.proofs.StatusLemmas.{finishes_small}
use Rattle.pg_command.proofs.WorkLemmas.{breaks_so, finishes_so, first_sought, work_of}
use Rattle.pg_command.proofs.search.search.Goals as goal

pub returns-clause-fault : goal.returns-clause-fault
returns-clause-fault g c =
    let asked = asked_of c.args.request.now in
    let contents = c.in_ok-lists.ensures.read.0 in
    let globs = contents_of c.in_ok-globs.globs.items in
    let past = g.S.Store.past c.args.files.now.store in
    let middle = g.S.Store.past c.read_patterns.new.store in
    let between = g.S.Store.past c.read_globs.new.store in
    let files = c.run.new.files in
    let past' = g.S.Store.past files.store in
    let start = c.list_files.new.files in
    let listed = c.in_ok-directory.ensures in
    let setup = c.setup_of-setup in
    let text = c.in_ok-text.ensures ∙ ap (text_with asked) c.in_ok-lists.ensures.read.1 in
    let tells = g.T.FileTree.tells in
    let answers = g.T.FileTree.answers in
    let tree = c.args.tree.now in
    let is_setup : IsSetup (tells tree) (answers tree) asked setup.result = record {
      directory = c.in_ok-directory.directory;
      tells_directory = listed.directory;
      format = setup.ensures.format;
      silent = setup.ensures.silent;
      line = setup.ensures.line;
    } in
    let read : HasReadFor asked past between contents globs = (
      middle,
      subst (λ paths. HasRead past middle (bytes_of paths) contents) c.as_slice.ensures.value
          c.in_ok-lists.ensures.read.2,
      subst (λ filters. HasRead middle between (glob_files (filters_of filters)) globs) c.as_slice-2.ensures.value
          c.in_ok-globs.ensures.read,
    ) in
    let first = first_sought tree start.walk.walker.tree.now asked globs start.walk.asked.items
    (map string_bytes start.walk.operands.items) (scope_of start.walk.walker.scope) start.spares_output
    (string_bytes start.input_name) (g.S.Store.past start.store) between listed.fresh.0 listed.walk.0 listed.walk.1
    (listed.walk.2 ∙ ap (λ vs. scope_for asked (contents_of vs)) c.as_slice-3.ensures.value) listed.spares
    listed.named (ap g.S.Store.past listed.store) in
    let at = sought files.walk.walker.tree.now (map string_bytes files.walk.operands.items)
    (scope_of files.walk.walker.scope)
    files.spares_output (string_bytes files.input_name) (asked_for files.walk.asked.items) past' in
    let out : Stream = g.W.Sink.stream c.args.out.now in
    let out' : Stream = g.W.Sink.stream c.run.new.out in
    let err : Stream = g.E.Sink.stream c.args.err.now in
    let err' : Stream =
    g.E.Sink.stream c.run.new.faults in
    let P : Fault → Type 0 = λ fault.
    Fails (tells tree) (answers tree) asked past past' out out' err err' fault in
    subst P (sym c.fault_of_search.ensures) (inr (inr (inr (record {
      work = work_of tells answers tree asked globs between at (c.in-Err.ensures.same_list ∙ first) past past'
          contents read files.walk.asked.items files.begins setup.result is_setup files.done files.all_asked
          files.are_opened files.are_spared refl;
      cause = c.in-Err.fault;
      is = refl;
      breaks = subst (λ t. SearchBreaksOff t setup.result
          (files_past (input_name asked) files.done (asked_for files.walk.asked.items) past') out out' err err'
          c.in-Err.fault)
          text (breaks_so tells answers tree asked globs between at (c.in-Err.ensures.same_list ∙ first)
          c.in_ok-text.text setup.result files.done (asked_for files.walk.asked.items) past' out out' err err'
          c.in-Err.fault c.in-Err.ensures.err);
    }))))

pub returns-in-Ok-clause-success : goal.returns-in-Ok-clause-success
returns-in-Ok-clause-success g c =
    let asked = asked_of c.args.request.now in
    let contents = c.in_ok-lists.ensures.read.0 in
    let globs = contents_of c.in_ok-globs.globs.items in
    let past = g.S.Store.past c.args.files.now.store in
    let middle = g.S.Store.past c.read_patterns.new.store in
    let between = g.S.Store.past c.read_globs.new.store in
    let files = c.run.new.files in
    let past' = g.S.Store.past files.store in
    let start = c.list_files.new.files in
    let listed = c.in_ok-directory.ensures in
    let setup = c.setup_of-setup in
    let text = c.in_ok-text.ensures ∙ ap (text_with asked) c.in_ok-lists.ensures.read.1 in
    let tells = g.T.FileTree.tells in
    let answers = g.T.FileTree.answers in
    let tree = c.args.tree.now in
    let is_setup : IsSetup (tells tree) (answers tree) asked setup.result = record {
      directory = c.in_ok-directory.directory;
      tells_directory = listed.directory;
      format = setup.ensures.format;
      silent = setup.ensures.silent;
      line = setup.ensures.line;
    } in
    let read : HasReadFor asked past between contents globs = (
      middle,
      subst (λ paths. HasRead past middle (bytes_of paths) contents) c.as_slice.ensures.value
          c.in_ok-lists.ensures.read.2,
      subst (λ filters. HasRead middle between (glob_files (filters_of filters)) globs) c.as_slice-2.ensures.value
          c.in_ok-globs.ensures.read,
    ) in
    let first = first_sought tree start.walk.walker.tree.now asked globs start.walk.asked.items
    (map string_bytes start.walk.operands.items) (scope_of start.walk.walker.scope) start.spares_output
    (string_bytes start.input_name) (g.S.Store.past start.store) between listed.fresh.0 listed.walk.0 listed.walk.1
    (listed.walk.2 ∙ ap (λ vs. scope_for asked (contents_of vs)) c.as_slice-3.ensures.value) listed.spares
    listed.named (ap g.S.Store.past listed.store) in
    let at = sought files.walk.walker.tree.now (map string_bytes files.walk.operands.items)
    (scope_of files.walk.walker.scope)
    files.spares_output (string_bytes files.input_name) (asked_for files.walk.asked.items) past' in
    let done = c.in-Ok.ensures.ok in
    let is = c.in-Ok.ensures.same_list ∙ first in
    record {
      work = work_of tells answers tree asked globs between at is past past' contents read files.walk.asked.items
          files.begins setup.result is_setup files.done files.all_asked files.are_opened files.are_spared
          refl;
      search = done.0;
      is_search = subst (λ t. IsSearchFor t done.0) text done.1;
      finishes = finishes_so tells answers tree asked globs between at is done.0 setup.result
          files.done (asked_for files.walk.asked.items) past' _ _ _ _ _ done.2;
    }

pub returns-in-Ok-clause-small : goal.returns-in-Ok-clause-small
returns-in-Ok-clause-small g c = finishes_small c.in-Ok.ensures.ok.2

pub returns-in_err-globs-clause-fault : goal.returns-in_err-globs-clause-fault
returns-in_err-globs-clause-fault g c =
    let asked = asked_of c.args.request.now in
    let contents = c.in_ok-lists.ensures.read.0 in
    let past = g.S.Store.past c.args.files.now.store in
    let middle = g.S.Store.past c.read_patterns.new.store in
    let past' = g.S.Store.past c.read_globs.new.store in
    let out : Stream = g.W.Sink.stream c.args.out.now in
    let err : Stream = g.E.Sink.stream c.args.err.now in
    let read = subst (λ paths. HasRead past middle (bytes_of paths) contents) c.as_slice.ensures.value
    c.in_ok-lists.ensures.read.2 in
    let P : Fault → Type 0 = λ fault.
    Fails (g.T.FileTree.tells c.args.tree.now) (g.T.FileTree.answers c.args.tree.now) asked past past' out out err err
    fault in
    if_err P _ c.from_residual-in_err-globs.result c.from_residual-in_err-globs.ensures.1
    (λ fault h. subst P (sym h) (inr (inl (record {
      contents = contents;
      middle = middle;
      read = read;
      stopped = subst
          (λ filters. FailsToReadAll (glob_files (filters_of filters)) middle past' c.in_err-globs.field-0.0)
          c.as_slice-2.ensures.value c.in_err-globs.ensures.fault;
      unwritten = (refl, refl);
    }))))

pub returns-in_err-text-clause-fault : goal.returns-in_err-text-clause-fault
returns-in_err-text-clause-fault g c =
    let asked = asked_of c.args.request.now in
    let contents = c.in_ok-lists.ensures.read.0 in
    let past = g.S.Store.past c.args.files.now.store in
    let middle = g.S.Store.past c.read_patterns.new.store in
    let past' = g.S.Store.past c.read_globs.new.store in
    let out : Stream = g.W.Sink.stream c.args.out.now in
    let err : Stream = g.E.Sink.stream c.args.err.now in
    let read = subst (λ paths. HasRead past middle (bytes_of paths) contents) c.as_slice.ensures.value
    c.in_ok-lists.ensures.read.2 in
    let globs = contents_of c.in_ok-globs.globs.items in
    let after = g.S.Store.past c.read_globs.new.store in
    let P : Fault → Type 0 = λ fault.
    Fails (g.T.FileTree.tells c.args.tree.now) (g.T.FileTree.answers c.args.tree.now) asked past after out out err err
    fault in
    if_err P _ c.from_residual-in_err-text.result c.from_residual-in_err-text.ensures.1
    (λ fault h. subst P (sym h) (inr (inr (inl (record {
      contents = contents;
      globs = globs;
      read = (
        middle,
        read,
        subst (λ filters. HasRead middle past' (glob_files (filters_of filters)) globs) c.as_slice-2.ensures.value
            c.in_ok-globs.ensures.read,
      );
      memory = refl;
      unwritten = (refl, refl);
    })))))

pub returns-in_err-directory-clause-fault : goal.returns-in_err-directory-clause-fault
returns-in_err-directory-clause-fault g c =
    let asked = asked_of c.args.request.now in
    let contents = c.in_ok-lists.ensures.read.0 in
    let past = g.S.Store.past c.args.files.now.store in
    let middle = g.S.Store.past c.read_patterns.new.store in
    let past' = g.S.Store.past c.read_globs.new.store in
    let out : Stream = g.W.Sink.stream c.args.out.now in
    let err : Stream = g.E.Sink.stream c.args.err.now in
    let read = subst (λ paths. HasRead past middle (bytes_of paths) contents) c.as_slice.ensures.value
    c.in_ok-lists.ensures.read.2 in
    let globs = contents_of c.in_ok-globs.globs.items in
    let after = g.S.Store.past c.list_files.new.files.store in
    let P : Fault → Type 0 = λ fault.
    Fails (g.T.FileTree.tells c.args.tree.now) (g.T.FileTree.answers c.args.tree.now) asked past after out out err err
    fault in
    if_err P _ c.from_residual-in_err-directory.result c.from_residual-in_err-directory.ensures.1
    (λ fault h. subst P (sym h) (inr (inr (inl (record {
      contents = contents;
      globs = globs;
      read = subst (λ p. HasReadFor asked past p contents globs)
          (ap g.S.Store.past (sym c.in_err-directory.ensures.store)) (
            middle,
            read,
            subst (λ filters. HasRead middle past' (glob_files (filters_of filters)) globs) c.as_slice-2.ensures.value
                c.in_ok-globs.ensures.read,
          );
      memory = refl;
      unwritten = (refl, refl);
    })))))
