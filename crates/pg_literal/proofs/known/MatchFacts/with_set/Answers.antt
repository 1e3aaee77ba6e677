use Rattle.std.proofs.Common.{refl}
use Rattle.std.proofs.lemmas.Result.{IfOk-from_err}
use Rattle.pg_literal.proofs.KnownLemmas.{extends_set}
use Rattle.pg_literal.proofs.known.MatchFacts.with_set.Goals as goal

pub returns : goal.returns
returns g c = λ fold.
    extends_set fold c.args.set.now c.args.self _ c.in_ok-push.ensures.items refl refl refl

pub returns-in_err-push : goal.returns-in_err-push
returns-in_err-push g c = λ fold. IfOk-from_err c.from_residual.result _ c.from_residual.ensures.0
