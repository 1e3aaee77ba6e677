use Rattle.std.proofs.Common.{cond, ap, sym, ◌∙◌}
use Rattle.pg_selection.specs.Search.{terminator_of}
use Rattle.pg_selection.proofs.text.QueryText.terminator.Goals as goal

pub returns-then-self : goal.returns-then-self
returns-then-self g c = ap (λ b. cond b 0 10) (sym c.if-self.true) ∙ ap terminator_of c.self.view_is

pub returns-else-self : goal.returns-else-self
returns-else-self g c = ap (λ b. cond b 0 10) (sym c.if-self.false) ∙ ap terminator_of c.self.view_is
