use Rattle.std.proofs.Common.{map, option_map, refl}
use Rattle.std.specs.String.{string_bytes}
use Rattle.pg_walk.specs.Scopes.{scope_of}
use Rattle.pg_files.specs.Listed.{asked_for}
use Rattle.pg_files.proofs.ListedLemmas.{opened_by_taking, same_sought, spared_by_taking, taken_behind, taken_by}
use Rattle.pg_files.proofs.listed.OperandFilesFiles.take_buffered.Goals as goal

pub returns-clause-taken : goal.returns-clause-taken
returns-clause-taken g c =
    taken_by (string_bytes c.args.self.now.input_name) (asked_for c.args.self.now.walk.asked.items)
    (g.S.Store.past c.args.self.now.store) (g.S.Store.past c.take_buffered.new.self)
    (option_map (λ taken. taken.items) c.take_buffered.result) c.requires.reading c.take_buffered.ensures.taken

pub returns-clause-same_list : goal.returns-clause-same_list
returns-clause-same_list g c =
    let asked = asked_for c.args.self.now.walk.asked.items in
    let past = g.S.Store.past c.args.self.now.store in
    let past' = g.S.Store.past c.take_buffered.new.self in
    same_sought g.T.FileTree.tells g.T.FileTree.answers (map string_bytes c.args.self.now.walk.operands.items)
    c.args.self.now.walk.walker.tree.now c.args.self.now.walk.walker.tree.now
    (scope_of c.args.self.now.walk.walker.scope)
    (scope_of c.args.self.now.walk.walker.scope) refl refl c.args.self.now.spares_output
    (string_bytes c.args.self.now.input_name) asked asked past past'
    (taken_behind (string_bytes c.args.self.now.input_name) asked past past'
    (option_map (λ taken. taken.items) c.take_buffered.result) c.requires.reading c.take_buffered.ensures.taken)

pub invariant_of-self : goal.invariant_of-self
invariant_of-self g c =
    let items = asked_for c.args.self.now.walk.asked.items in
    let past = g.S.Store.past c.args.self.now.store in
    let past' = g.S.Store.past c.take_buffered.new.self in
    let taken = option_map (λ taken. taken.items) c.take_buffered.result in
    record {
      begins = c.args.self.now.begins;
      goes_on = c.args.self.now.goes_on;
      all_asked = c.args.self.now.all_asked;
      is_newest = c.args.self.now.is_newest;
      are_opened = opened_by_taking items past past' taken c.take_buffered.ensures.taken c.args.self.now.are_opened;
      are_spared = spared_by_taking c.args.self.now.spares_output items past past' taken
          c.take_buffered.ensures.taken c.args.self.now.are_spared;
    }
