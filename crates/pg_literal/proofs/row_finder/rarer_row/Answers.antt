use Rattle.std.proofs.Common.{inl, inr}
use Rattle.pg_pattern.specs.Trees.{pattern}
use Rattle.pg_literal.proofs.LiteralLemmas.{match_rows, sure_hit}
use Rattle.pg_literal.proofs.row_finder.rarer_row.Goals as goal

pub returns-then-chance_of-clause-row : goal.returns-then-chance_of-clause-row
returns-then-chance_of-clause-row g c = λ line i j within m. (
  i,
  (match_rows c.args.fold (pattern c.args.tree.now) c.nothing.result c.in_ok-known.known c.nothing.ensures
      (c.in_ok-known.ensures c.args.fold) line i j within m).head,
)

pub returns-then-chance_of-clause-sure : goal.returns-then-chance_of-clause-sure
returns-then-chance_of-clause-sure g c = λ sure line i o.
    sure_hit c.args.fold (pattern c.args.tree.now) c.nothing.result c.in_ok-known.known c.nothing.ensures
    (c.in_ok-known.ensures c.args.fold) line i (inl (sure, o))

pub returns-else-chance_of-clause-row : goal.returns-else-chance_of-clause-row
returns-else-chance_of-clause-row g c = λ line i j within m.
    (match_rows c.args.fold (pattern c.args.tree.now) c.nothing.result c.in_ok-known.known c.nothing.ensures
    (c.in_ok-known.ensures c.args.fold) line i j within m).best

pub returns-else-chance_of-clause-sure : goal.returns-else-chance_of-clause-sure
returns-else-chance_of-clause-sure g c = λ sure line i o.
    sure_hit c.args.fold (pattern c.args.tree.now) c.nothing.result c.in_ok-known.known c.nothing.ensures
    (c.in_ok-known.ensures c.args.fold) line i (inr (sure, o))
