use Rattle.std.proofs.Common.{inl, inr, sym, ◌∙◌, true≢false}
use Rattle.pg_match.proofs.ClosureLemmas.{stands}
use Rattle.pg_match.proofs.StepLemmas.{jump_spread, begin_spread, end_spread, split_spread, none_spread}
use Rattle.pg_match.specs.declared.state.State.TheVariants.{Fail, Accept, Read}
use Rattle.pg_match.proofs.nfa_search.spread.Goals as goal

pub returns-in-Jump : goal.returns-in-Jump
returns-in-Jump g c = jump_spread _ _ _ _ _ _ _ (stands _ _ _ c.requires.within c.in-Jump.is)
    c.insert.ensures.inserted c.insert.ensures.counted

pub returns-then-first : goal.returns-then-first
returns-then-first g c = begin_spread _ _ _ _ _ _ _
    (stands _ _ _ c.requires.within c.in-AtBegin.is) c.if-first.true
    c.insert-then-first.ensures.inserted c.insert-then-first.ensures.counted

pub returns-else-first : goal.returns-else-first
returns-else-first g c =
    none_spread _ _ _ _ _ _ (stands _ _ _ c.requires.within c.in-AtBegin.is)
    (λ r e. true≢false (sym e.0 ∙ c.if-first.false)) c.requires.good

pub returns-then-last : goal.returns-then-last
returns-then-last g c = end_spread _ _ _ _ _ _ _
    (stands _ _ _ c.requires.within c.in-AtEnd.is) c.if-last.true
    c.insert-then-last.ensures.inserted c.insert-then-last.ensures.counted

pub returns-else-last : goal.returns-else-last
returns-else-last g c =
    none_spread _ _ _ _ _ _ (stands _ _ _ c.requires.within c.in-AtEnd.is)
    (λ r e. true≢false (sym e.0 ∙ c.if-last.false)) c.requires.good

pub returns-in-Split : goal.returns-in-Split
returns-in-Split g c =
    split_spread _ _ _ _ _ _ _ _ _ (stands _ _ _ c.requires.within c.in-Split.is) c.insert-in-Split.ensures.inserted
    c.insert-in-Split-2.ensures.inserted c.insert-in-Split.ensures.counted c.insert-in-Split-2.ensures.counted

pub returns-in-Read : goal.returns-in-Read
returns-in-Read g c =
    let within = c.requires.within in
    let good = c.requires.good in
    elim c.in-Read.is [
      | inl a ↦ none_spread _ _ _ _ _ (Read a.0 a.1) (stands _ _ _ within a.2) (λ r e. e) good
      | inr b ↦ elim b [
        | inl a ↦ none_spread _ _ _ _ _ Fail (stands _ _ _ within a) (λ r e. e) good
        | inr a ↦ none_spread _ _ _ _ _ Accept (stands _ _ _ within a) (λ r e. e) good
      ]
    ]
