use Rattle.std.proofs.Common.{◌∙◌, not, ap, sym}
use Rattle.std.proofs.lemmas.Bool.{false≢true}
use Rattle.pg_seq.proofs.StandLemmas.{complete_is}
use Rattle.pg_seq.proofs.assembler.Assembler.complete.Goals as goal

pub returns-then-not-self : goal.returns-then-not-self
returns-then-not-self g c = λ past h.
    let i = complete_is c.args.self.now past h c.if-not-self.true in
    (λ e. i.0 (sym c.has_all_results.ensures ∙ e), λ p. c.has_all_results.ensures ∙ i.1 p)

pub returns-else-not-self : goal.returns-else-not-self
returns-else-not-self g c = λ past h.
    let not_ended = sym (ap not c.if-not-self.false) in (
      λ e. absurd (false≢true (not_ended ∙ e)),
      λ p. absurd (false≢true (sym p.0 ∙ (h.running ∙ c.if-not-self.false))),
    )
