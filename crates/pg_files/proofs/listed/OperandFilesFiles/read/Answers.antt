use Rattle.std.proofs.Common.{map, refl}
use Rattle.std.specs.String.{string_bytes}
use Rattle.pg_walk.specs.Scopes.{scope_of}
use Rattle.pg_files.specs.Listed.{asked_for}
use Rattle.pg_files.proofs.ListedLemmas.{opened_by_read, read_behind, read_by, same_sought, spared_by}
use Rattle.pg_files.proofs.listed.OperandFilesFiles.read.Goals as goal

pub returns-clause-given : goal.returns-clause-given
returns-clause-given g c =
    read_by (string_bytes c.args.self.now.input_name) c.read.new.into (asked_for c.args.self.now.walk.asked.items)
    (g.S.Store.past c.args.self.now.store) (g.S.Store.past c.read.new.self) c.read.result c.requires.reading
    c.read.ensures.given

pub returns-clause-same_list : goal.returns-clause-same_list
returns-clause-same_list g c =
    let asked = asked_for c.args.self.now.walk.asked.items in
    let past = g.S.Store.past c.args.self.now.store in
    let past' = g.S.Store.past c.read.new.self in
    same_sought g.T.FileTree.tells g.T.FileTree.answers (map string_bytes c.args.self.now.walk.operands.items)
    c.args.self.now.walk.walker.tree.now c.args.self.now.walk.walker.tree.now
    (scope_of c.args.self.now.walk.walker.scope)
    (scope_of c.args.self.now.walk.walker.scope) refl refl c.args.self.now.spares_output
    (string_bytes c.args.self.now.input_name) asked asked past past'
    (read_behind (string_bytes c.args.self.now.input_name) c.read.new.into asked past past' c.read.result
    c.requires.reading c.read.ensures.given)

pub invariant_of-self : goal.invariant_of-self
invariant_of-self g c =
    let items = asked_for c.args.self.now.walk.asked.items in
    let past = g.S.Store.past c.args.self.now.store in
    let past' = g.S.Store.past c.read.new.self in
    record {
      begins = c.args.self.now.begins;
      goes_on = c.args.self.now.goes_on;
      all_asked = c.args.self.now.all_asked;
      is_newest = c.args.self.now.is_newest;
      are_opened = opened_by_read c.read.new.into items past past' c.read.result c.read.ensures.given
          c.args.self.now.are_opened;
      are_spared = spared_by c.read.new.into c.args.self.now.spares_output items past past' c.read.result
          c.read.ensures.given c.args.self.now.are_spared;
    }
