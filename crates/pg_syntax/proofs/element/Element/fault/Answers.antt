use Rattle.std.proofs.Common.{ap}
use Rattle.pg_syntax.specs.BracketViews.{element}
use Rattle.pg_syntax.proofs.BracketAt.{bad_element, bad_class, bad_collating}
use Rattle.pg_syntax.proofs.element.Element.fault.Goals as goal

pub returns-then-mark-eq58 : goal.returns-then-mark-eq58
returns-then-mark-eq58 c = λ text bracket rest none h.
    bad_class text bracket c.args.at c.in-Enclosed.mark c.if-mark-eq58.true
    (bad_element text bracket c.args.at c.args.self rest c.in-Enclosed.mark _ (ap element c.in-Enclosed.is) h none)

pub returns-else-mark-eq58 : goal.returns-else-mark-eq58
returns-else-mark-eq58 c = λ text bracket rest none h.
    bad_collating text bracket c.args.at c.in-Enclosed.mark c.if-mark-eq58.false
    (bad_element text bracket c.args.at c.args.self rest c.in-Enclosed.mark _ (ap element c.in-Enclosed.is) h none)
