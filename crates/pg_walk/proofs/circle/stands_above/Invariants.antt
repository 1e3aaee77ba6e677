use Rattle.std.proofs.Common.{◌≡◌, ◌≤◌, length}
use Rattle.pg_walk.proofs.CircleLemmas.{is_own, some_above}
use Rattle.pg_walk.proofs.circle.stands_above.Given as goal

abbrev pub invariant-loop-end : goal.invariant-loop-end
invariant-loop-end g l =
    let own = is_own (g.T.FileTree.answers l.tree) l.own in
    (l.end ≤ length l.path) × (g.T.FileTree.tells l.tree →
    some_above own l.path l.depth (length l.path) ≡ some_above own l.path l.left l.end)

abbrev pub decreases-loop-end : goal.decreases-loop-end
decreases-loop-end g l = l.end
