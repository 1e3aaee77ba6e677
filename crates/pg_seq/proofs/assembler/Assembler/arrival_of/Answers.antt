use Rattle.std.proofs.Common.{◌≡◌, ◌∙◌, ap, sym, subst, true}
use Rattle.std.proofs.lemmas.Bool.{not-true, not-false}
use Rattle.pg_selection.specs.Search.{SearchText}
use Rattle.pg_selection.specs.Same.{same_text}
use Rattle.pg_blocks.specs.Blocks.{BlockData}
use Rattle.pg_seq.specs.Buffer.{IsArrival}
use Rattle.pg_seq.proofs.StandLemmas.{answer_is, answer_other}
use Rattle.pg_seq.proofs.assembler.Assembler.arrival_of.Goals as goal

pub returns : goal.returns
returns g c = λ past h.
    let s = c.args.self.now in
    let r = c.args.found.now in
    let own = h.query ∙ sym c.deref-selector.ensures in
    let its = sym (c.deref-other.ensures ∙ c.selector.ensures) in
    let queries : same_text past.query.text r.query ≡ same_text c.deref-selector.result.now c.deref-other.result.now =
    ap (λ (t : SearchText). same_text t r.query) own ∙ ap (same_text c.deref-selector.result.now) its in
    let same : same_text past.query.text r.query ≡ true = queries ∙ not-false _ (sym c.ne.ensures ∙ c.if-ne.false) in
    let I : BlockData → Type 0 = λ b. IsArrival s.buffer b c.arrival_of.result in
    answer_is s past r c.arrival_of.result h same (subst I (c.deref.ensures ∙ c.block.ensures) c.arrival_of.ensures)

pub returns-then-ne : goal.returns-then-ne
returns-then-ne g c = λ past h.
    let r = c.args.found.now in
    let own = h.query ∙ sym c.deref-selector.ensures in
    let its = sym (c.deref-other.ensures ∙ c.selector.ensures) in
    let queries : same_text past.query.text r.query ≡ same_text c.deref-selector.result.now c.deref-other.result.now =
    ap (λ (t : SearchText). same_text t r.query) own ∙ ap (same_text c.deref-selector.result.now) its in
    answer_other past r (queries ∙ not-true _ (sym c.ne.ensures ∙ c.if-ne.true))
