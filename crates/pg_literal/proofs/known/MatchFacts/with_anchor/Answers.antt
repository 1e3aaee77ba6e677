use Rattle.std.proofs.Common.{refl}
use Rattle.pg_literal.proofs.KnownLemmas.{extends_begin, extends_end}
use Rattle.pg_literal.proofs.known.MatchFacts.with_anchor.Goals as goal

pub returns-clause-begin : goal.returns-clause-begin
returns-clause-begin g c = λ fold. extends_begin fold c.args.self _ refl refl refl refl

pub returns-clause-end : goal.returns-clause-end
returns-clause-end g c = λ fold. extends_end fold c.args.self _ refl refl refl refl
