use Rattle.std.proofs.Common.{[], map, ap, refl, ◌∙◌}
use Rattle.std.proofs.lemmas.Bool.{false≢true}
use Rattle.std.proofs.lemmas.Grind.{merely}
use Rattle.std.specs.Option.{option_map}
use Rattle.std.specs.String.{string_bytes}
use Rattle.pg_walk.specs.Scopes.{scope_of}
use Rattle.pg_walk.specs.Items.{found}
use Rattle.pg_walk.specs.Left.{BeginsWalk, HasGiven, shown, spots_in}
use Rattle.pg_files.proofs.ListedLemmas.{none_asked, none_newest, none_opened, none_spared}
use Rattle.pg_files.proofs.listed.OperandFiles.list.Given.{Over}
use Rattle.pg_files.proofs.listed.OperandFiles.list.Goals as goal
use Rattle.pg_files.proofs.listed.OperandFiles.list.Goals.{After-what_is_given}

-- the walk begins
begins : (g : Over) (c : After-what_is_given g)
    → BeginsWalk (g.T.FileTree.tells c.in_ok-walk.walk.walker.tree.now)
    (g.T.FileTree.answers c.in_ok-walk.walk.walker.tree.now) (map string_bytes c.in_ok-walk.walk.operands.items)
    (scope_of c.in_ok-walk.walk.walker.scope) (map found c.in_ok-walk.walk.asked.items)
begins g c =
    let w = c.in_ok-walk.walk.walker in
    let ops = map string_bytes c.in_ok-walk.walk.operands.items in
    none_asked (λ os items. BeginsWalk (g.T.FileTree.tells w.tree.now) (g.T.FileTree.answers w.tree.now) os
    (scope_of w.scope) items) ops ops c.in_ok-walk.walk.asked.items refl c.in_ok-walk.ensures.fresh.0
    (c.what_is_given.ensures.begins ops [] c.in_ok-walk.ensures.given)

-- and what it goes on with was given by it
goes_on : (g : Over) (c : After-what_is_given g)
    → HasGiven (g.T.FileTree.tells c.in_ok-walk.walk.walker.tree.now)
    (g.T.FileTree.answers c.in_ok-walk.walk.walker.tree.now) (map string_bytes c.in_ok-walk.walk.operands.items)
    (scope_of c.in_ok-walk.walk.walker.scope) (map found c.in_ok-walk.walk.asked.items)
    (spots_in c.in_ok-walk.walk.walker.waiting.items)
goes_on g c =
    let w = c.in_ok-walk.walk.walker in
    let ops = map string_bytes c.in_ok-walk.walk.operands.items in
    none_asked (λ os items. HasGiven (g.T.FileTree.tells w.tree.now) (g.T.FileTree.answers w.tree.now) os
    (scope_of w.scope) items (spots_in w.waiting.items)) ops ops c.in_ok-walk.walk.asked.items refl
    c.in_ok-walk.ensures.fresh.0 c.in_ok-walk.ensures.given

pub invariant_of-self-2 : goal.invariant_of-self-2
invariant_of-self-2 g c =
    let walk = c.in_ok-walk.walk in
    let past = g.S.Store.past c.args.self.now.store in
    let none = c.in_ok-walk.ensures.fresh.0 in
    let at = (goal.at.invariant_of-self-2 g c).After-what_is_given in
    record {
      begins = merely (begins g at);
      goes_on = λ _. merely (goes_on g at);
      all_asked = λ e. absurd (false≢true e);
      is_newest = ap (λ o. shown (option_map found o)) c.in_ok-walk.ensures.fresh.1 ∙ none_newest walk.asked.items none;
      are_opened = none_opened walk.asked.items past none;
      are_spared = none_spared walk.asked.items c.args.self.now.spares_output past none;
    }

pub invariant_of-self-3 : goal.invariant_of-self-3
invariant_of-self-3 g c =
    let walk = c.in_ok-walk.walk in
    let past = g.S.Store.past c.args.self.now.store in
    let none = c.in_ok-walk.ensures.fresh.0 in
    let at = (goal.at.invariant_of-self-3 g c).After-what_is_given in
    record {
      begins = merely (begins g at);
      goes_on = λ _. merely (goes_on g at);
      all_asked = λ e. absurd (false≢true e);
      is_newest = ap (λ o. shown (option_map found o)) c.in_ok-walk.ensures.fresh.1 ∙ none_newest walk.asked.items none;
      are_opened = none_opened walk.asked.items past none;
      are_spared = none_spared walk.asked.items c.args.spares_output past none;
    }
