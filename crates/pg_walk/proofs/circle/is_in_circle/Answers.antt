use Rattle.std.proofs.Common.{sym, ◌∙◌}
use Rattle.pg_walk.specs.Scopes.{scope_of}
use Rattle.pg_walk.proofs.CircleLemmas.{untold_free}
use Rattle.pg_walk.proofs.circle.is_in_circle.Goals as goal

pub returns-in-None : goal.returns-in-None
returns-in-None g c = λ tells.
    sym (untold_free (scope_of c.args.scope.now) (g.T.FileTree.answers c.args.tree.now) c.args.depth c.args.path.now
    (sym (c.in_ok-own.ensures tells) ∙ c.in-None.is))
