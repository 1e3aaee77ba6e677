use Rattle.std.proofs.Common.{◌≡◌, ◌<◌, ◌≤◌, min, sym, ap, ◌∙◌, arith, subst}
use Rattle.pg_board.specs.declared.draws.BoardSize.{BoardSize}
use Rattle.pg_board.specs.Counts.{once_below}
use Rattle.pg_board.proofs.BoardLemmas.{Ends, ends}
use Rattle.pg_board.proofs.board.finish.Goals as goal
use Rattle.pg_board.proofs.board.finish.Given.{Over}
use Rattle.pg_board.proofs.board.finish.Goals.{Then-found-from, Else-found-from}

ends_low : (g : Over) (c : Then-found-from g) → Ends c.args.size c.args.whole.me.0.seats c.word-found.result
ends_low g c = subst (λ (z : BoardSize). Ends z c.args.whole.me.0.seats c.word-found.result) c.requires.word.3
    (ends _ _ _ _ _ c.word-found.result c.close_with-closed.ensures.values.2
    (c.requires.all ∙ sym (ap (λ (z : BoardSize). z.seats) c.requires.word.3)) c.word-found.ensures)

ends_high : (g : Over) (c : Else-found-from g) → Ends c.args.size c.args.whole.me.0.seats c.word-found.result
ends_high g c = subst (λ (z : BoardSize). Ends z c.args.whole.me.0.seats c.word-found.result) c.requires.word.3
    (ends _ _ _ _ _ c.word-found.result c.close_with-closed.ensures.values.2
    (c.requires.all ∙ sym (ap (λ (z : BoardSize). z.seats) c.requires.word.3)) c.word-found.ensures)

pub returns-then-found-from-clause-drawn : goal.returns-then-found-from-clause-drawn
returns-then-found-from-clause-drawn g c = let m : min c.word-found.result c.args.size.limit ≡ c.word-found.result =
    omega arith in λ x. (ends_low g c).0 x ∙ ap (once_below x) m

pub returns-then-found-from-clause-spent : goal.returns-then-found-from-clause-spent
returns-then-found-from-clause-spent g c = λ some_spent. let k : c.args.size.limit ≤ c.word-found.result =
    (ends_low g c).1 some_spent in omega arith

pub returns-else-found-from-clause-drawn : goal.returns-else-found-from-clause-drawn
returns-else-found-from-clause-drawn g c = let m : min c.word-found.result c.args.size.limit ≡ c.args.size.limit =
    omega arith in λ x. (ends_high g c).0 x ∙ ap (once_below x) m

pub returns-then-found-from-clause-limit : goal.returns-then-found-from-clause-limit
returns-then-found-from-clause-limit g c =
    let below : c.word-found.result < c.args.size.limit = rw c.from.ensures at c.if-found-from.true in omega arith
