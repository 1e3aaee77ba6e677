use Rattle.std.proofs.Common.{rules}
use Rattle.pg_syntax.proofs.PlainLemmas.{plain_spelled}
use Rattle.pg_syntax.proofs.plain.is_plain.Goals as goal

pub returns-clause-plain : goal.returns-clause-plain
returns-clause-plain c = search rules

pub returns-clause-spelled : goal.returns-clause-spelled
returns-clause-spelled c = λ yes fold p.
    plain_spelled c.args.kind fold c.args.text.now p ((returns-clause-plain c).0 yes)
