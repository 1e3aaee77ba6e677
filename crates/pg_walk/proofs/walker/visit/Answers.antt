use Rattle.std.proofs.lemmas.Result.{IfOk-weaker}
use Rattle.pg_walk.specs.Scopes.{scope_of}
use Rattle.pg_walk.proofs.walker.visit.Goals as goal

pub returns-in-Operand-clause-gives : goal.returns-in-Operand-clause-gives
returns-in-Operand-clause-gives g c = λ tells. rw c.in-Operand.is (c.operand.ensures.gives tells)

pub returns-in-Entry-clause-gives : goal.returns-in-Entry-clause-gives
returns-in-Entry-clause-gives g c = λ tells.
    rw c.in-Entry.is (IfOk-weaker c.entry.result _ _ (λ item h. h c.args.scope.now.recursive)
    (c.entry.ensures.gives tells))

pub returns-in-Operand-clause-within : goal.returns-in-Operand-clause-within
returns-in-Operand-clause-within g c = rw c.in-Operand.is c.operand.ensures.within

pub returns-in-Entry-clause-within : goal.returns-in-Entry-clause-within
returns-in-Entry-clause-within g c =
    rw c.in-Entry.is (IfOk-weaker c.entry.result _ _ (λ item h. h (scope_of c.args.scope.now)) c.entry.ensures.within)
