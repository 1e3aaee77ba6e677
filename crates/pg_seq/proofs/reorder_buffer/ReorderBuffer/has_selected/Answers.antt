use Rattle.std.proofs.Common.{◌≡◌, rules, tests, ◌∙◌, ◌||◌, true, false, ap, sym}
use Rattle.std.specs.List.{list_any}
use Rattle.std.proofs.lemmas.Iterator.{cases_from_any}
use Rattle.std.proofs.lemmas.Iterator.Consumers.{YieldsList-from_deque}
use Rattle.pg_seq.specs.Slots.{slot_selects, IsResultOf, TellsSelected}
use Rattle.pg_seq.proofs.SlotLemmas.{any_by_cases}
use Rattle.pg_seq.proofs.reorder_buffer.ReorderBuffer.has_selected.Goals as goal

pub returns-else-self : goal.returns-else-self
returns-else-self g c = λ q trees are.
    any_by_cases q _ _ are
    (cases_from_any _ _ _ (λ x. IsResultOf q x → slot_selects q x ≡ true)
    (λ x. IsResultOf q x → slot_selects q x ≡ false) c.any.ensures.ran (YieldsList-from_deque _ c.iter.ensures.rest)
    (λ x u k is. let said : TellsSelected x.now true = search (rules, tests) in sym (said.tells q trees is))
    (λ x u k. (
      let same : u ≡ record {} = search (rules, tests) in
          same,
      λ is. (let said : TellsSelected x.now false = search (rules, tests) in sym (said.tells q trees is)),
    )))
    ∙ ap (λ b. b || list_any (slot_selects q) c.args.self.now.slots.items) (sym c.if-self.false)
