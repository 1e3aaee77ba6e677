use Rattle.std.proofs.Common.{[], map, ap}
use Rattle.std.proofs.lemmas.Bool.{false≢true}
use Rattle.std.proofs.lemmas.Grind.{merely}
use Rattle.std.specs.String.{string_bytes}
use Rattle.pg_walk.specs.Scopes.{scope_of}
use Rattle.pg_walk.specs.Left.{BeginsWalk, HasGiven, spots_in}
use Rattle.pg_files.proofs.ListedLemmas.{none_asked, none_newest, none_opened, none_spared}
use Rattle.pg_files.proofs.listed.OperandFiles.new.Goals as goal

pub invariant_of-result : goal.invariant_of-result
invariant_of-result g c =
    let w = c.over_nothing-walker.result in
    let tells = g.T.FileTree.tells w.tree.now in
    let a = g.T.FileTree.answers w.tree.now in
    let past = g.S.Store.past c.args.store in
    let given = c.over_nothing-walker.ensures.fresh in
    record {
      begins = merely (none_asked (λ ops items. BeginsWalk tells a ops (scope_of w.scope) items) [] _
          c.new-2.result.items
          (ap (map string_bytes) c.new.ensures) c.new-2.ensures (c.what_is_given.ensures.begins [] [] given));
      goes_on = λ _. merely (none_asked (λ ops items. HasGiven tells a ops (scope_of w.scope) items
          (spots_in w.waiting.items))
          [] _ c.new-2.result.items (ap (map string_bytes) c.new.ensures) c.new-2.ensures given);
      all_asked = λ e. absurd (false≢true e);
      is_newest = none_newest c.new-2.result.items c.new-2.ensures;
      are_opened = none_opened c.new-2.result.items past c.new-2.ensures;
      are_spared = none_spared c.new-2.result.items _ past c.new-2.ensures;
    }
