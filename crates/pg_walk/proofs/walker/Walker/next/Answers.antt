use Rattle.std.proofs.Common.{Option, List, Some, None, sym, ap, ◌∙◌, subst, append-nil}
use Rattle.std.specs.Option.{option_map}
use Rattle.pg_walk.specs.Items.{Found, found}
use Rattle.pg_walk.specs.declared.item.Item.{Item}
use Rattle.pg_walk.specs.Scopes.{scope_of, sights}
use Rattle.pg_walk.specs.declared.scope.Scope.{Scope}
use Rattle.pg_walk.specs.Left.{Spot, HasGiven, MayGive, Unfolds, UnfoldsWithin, spot_of, spots_in, spot_gives}
use Rattle.pg_walk.proofs.Lefts.{given_more, given_same, spots_more}
use Rattle.pg_walk.proofs.walker.Walker.next.Goals as goal

pub returns-in_default-clause-gives : goal.returns-in_default-clause-gives
returns-in_default-clause-gives g c = λ operands items h.
    let tree = c.args.self.now.tree.now in
    let a = g.T.FileTree.answers tree in
    let r = c.args.self.now.scope in
    let S : List Spot → Type 0 = λ s. HasGiven (g.T.FileTree.tells tree) a operands (scope_of r) items s in
    let I : List Found → Type 0 = λ all.
    HasGiven (g.T.FileTree.tells tree) a operands (scope_of r) all (spots_in c.pop.new.self.items) in
    subst I (sym (append-nil items))
    (subst S (ap spots_in (c.in_default.ensures.items ∙ append-nil _)) (c.loop.invariant.2 operands items h))

pub returns-in-Some-item-clause-gives : goal.returns-in-Some-item-clause-gives
returns-in-Some-item-clause-gives g c = λ operands items h.
    let a = g.T.FileTree.answers c.args.self.now.tree.now in
    let r = c.args.self.now.scope in
    let tree = c.args.self.now.tree.now in
    let U : g.row.T.Denot → Scope g.row.A.Denot → Option (Item g.row.A.Denot) → Type 0 = λ t b o. g.T.FileTree.tells t →
    Unfolds (sights (scope_of b) (g.T.FileTree.answers t)) b.recursive
    (spot_gives (sights (scope_of b) (g.T.FileTree.answers t)) b.recursive (spot_of c.in-Some.next))
    (option_map found o) (spots_in c.pop.new.self.items) (spots_in c.visit.new.waiting.items) in
    let UP : g.row.T.Denot → Type 0 = λ t. U t c.loop.self.scope c.in_ok-item.item in
    let UQ : Scope g.row.A.Denot → Type 0 = λ b. U tree b c.in_ok-item.item in
    let UR : Option (Item g.row.A.Denot) → Type 0 = λ o. U tree r o in
    let W : Scope g.row.A.Denot → Option (Item g.row.A.Denot) → Type 0 = λ b o.
    UnfoldsWithin (scope_of b) (MayGive (scope_of b) (spot_of c.in-Some.next)) (option_map found o)
    (spots_in c.pop.new.self.items)
    (spots_in c.visit.new.waiting.items) in
    let WQ : Scope g.row.A.Denot → Type 0 = λ b. W b c.in_ok-item.item in
    let WR : Option (Item g.row.A.Denot) → Type 0 = λ o. W r o in
    given_more (g.T.FileTree.tells tree) a operands (scope_of r) items (Some (found c.in-Some-item.item))
    (spot_of c.in-Some.next)
    (spots_in c.loop.self.waiting.items) (spots_in c.pop.new.self.items) (spots_in c.visit.new.waiting.items)
    (c.loop.invariant.2 operands items h)
    (ap spots_in c.in-Some.ensures.items ∙ spots_more c.pop.new.self.items c.in-Some.next)
    (subst UR c.in-Some-item.is (subst UQ c.loop.invariant.1 (subst UP c.loop.invariant.0 c.in_ok-item.ensures.gives)))
    (subst WR c.in-Some-item.is (subst WQ c.loop.invariant.1 c.in_ok-item.ensures.within))

pub loop-preserved : goal.loop-preserved
loop-preserved g c = (
  c.loop.invariant.0,
  c.loop.invariant.1,
  λ operands items h.
      let a = g.T.FileTree.answers c.args.self.now.tree.now in
      let r = c.args.self.now.scope in
      given_same (g.T.FileTree.tells c.args.self.now.tree.now) a operands (scope_of r) items
      (spots_in c.visit.new.waiting.items) (
      let tree = c.args.self.now.tree.now in
      let U : g.row.T.Denot → Scope g.row.A.Denot → Option (Item g.row.A.Denot) → Type 0 = λ t b o.
      g.T.FileTree.tells t →
      Unfolds (sights (scope_of b) (g.T.FileTree.answers t)) b.recursive
      (spot_gives (sights (scope_of b) (g.T.FileTree.answers t)) b.recursive (spot_of c.in-Some.next))
      (option_map found o) (spots_in c.pop.new.self.items) (spots_in c.visit.new.waiting.items) in
      let UP : g.row.T.Denot → Type 0 = λ t. U t c.loop.self.scope c.in_ok-item.item in
      let UQ : Scope g.row.A.Denot → Type 0 = λ b. U tree b c.in_ok-item.item in
      let UR : Option (Item g.row.A.Denot) → Type 0 = λ o. U tree r o in
      let W : Scope g.row.A.Denot → Option (Item g.row.A.Denot) → Type 0 = λ b o.
      UnfoldsWithin (scope_of b) (MayGive (scope_of b) (spot_of c.in-Some.next)) (option_map found o)
      (spots_in c.pop.new.self.items)
      (spots_in c.visit.new.waiting.items) in
      let WQ : Scope g.row.A.Denot → Type 0 = λ b. W b c.in_ok-item.item in
      let WR : Option (Item g.row.A.Denot) → Type 0 = λ o. W r o in
      given_more (g.T.FileTree.tells tree) a operands (scope_of r) items (None) (spot_of c.in-Some.next)
      (spots_in c.loop.self.waiting.items) (spots_in c.pop.new.self.items) (spots_in c.visit.new.waiting.items)
      (c.loop.invariant.2 operands items h)
      (ap spots_in c.in-Some.ensures.items ∙ spots_more c.pop.new.self.items c.in-Some.next)
      (subst UR c.in_default-item.is
      (subst UQ c.loop.invariant.1 (subst UP c.loop.invariant.0 c.in_ok-item.ensures.gives)))
      (subst WR c.in_default-item.is (subst WQ c.loop.invariant.1 c.in_ok-item.ensures.within))),
)
