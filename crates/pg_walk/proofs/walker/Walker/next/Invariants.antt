use Rattle.std.proofs.Common.{◌≡◌, List}
use Rattle.pg_walk.specs.Answers.{Path}
use Rattle.pg_walk.specs.Items.{Found}
use Rattle.pg_walk.specs.Scopes.{scope_of}
use Rattle.pg_walk.specs.Left.{spots_in, HasGiven}
use Rattle.pg_walk.proofs.walker.Walker.next.Given as goal

abbrev pub invariant-loop : goal.invariant-loop
invariant-loop g l =
    (l.self.tree.now ≡ l.fn.self.tree.now) × (l.self.scope ≡ l.fn.self.scope)
    × ((operands : List Path) → (items : List Found) →
    HasGiven (g.T.FileTree.tells l.fn.self.tree.now) (g.T.FileTree.answers l.fn.self.tree.now) operands
    (scope_of l.fn.self.scope) items (spots_in l.fn.self.waiting.items) →
    HasGiven (g.T.FileTree.tells l.fn.self.tree.now) (g.T.FileTree.answers l.fn.self.tree.now) operands
    (scope_of l.fn.self.scope) items (spots_in l.self.waiting.items))
