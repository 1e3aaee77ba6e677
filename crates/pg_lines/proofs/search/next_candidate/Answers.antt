use Rattle.std.proofs.Common.{sym, subst}
use Rattle.pg_prefilter.specs.Candidates.{AreNeedles, IsNextSought}
use Rattle.pg_lines.proofs.search.next_candidate.Goals as goal

pub next_line-requires-clause-needles : goal.next_line-requires-clause-needles
next_line-requires-clause-needles g c =
    subst (λ text. AreNeedles text c.args.bytes.now c.args.at c.args.needles.now) (sym c.text.ensures.text)
    c.requires.needles

pub returns-clause-needles : goal.returns-clause-needles
returns-clause-needles g c =
    subst (λ text. AreNeedles text c.args.bytes.now c.args.at c.next_line.new.self) c.text.ensures.text
    c.next_line.ensures.needles

pub returns-clause-next : goal.returns-clause-next
returns-clause-next g c =
    subst (λ text. IsNextSought text c.next_line.new.self c.args.at c.args.bytes.now c.next_line.result)
    c.text.ensures.text c.next_line.ensures.next
