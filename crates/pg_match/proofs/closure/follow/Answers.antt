use Rattle.std.proofs.Common.{inl, inr, arith}
use Rattle.pg_match.proofs.ClosureLemmas.{stands, jump_followed, begin_followed, end_followed, split_followed}
use Rattle.pg_match.proofs.ClosureLemmas.{not_begin_followed, not_end_followed, read_followed}
use Rattle.pg_match.specs.declared.state.State.TheVariants.{Fail, Accept, Read}
use Rattle.pg_match.proofs.closure.follow.Goals as goal

pub returns-in-Jump : goal.returns-in-Jump
returns-in-Jump g c = jump_followed _ _ _ _ _ _ _ _ (stands _ _ _ c.requires.within c.in-Jump.is)
    c.insert.ensures.inserted c.insert.ensures.counted

pub returns-then-place-eq0 : goal.returns-then-place-eq0
returns-then-place-eq0 g c =
    begin_followed _ _ _ _ _ _ _ _ (stands _ _ _ c.requires.within c.in-AtBegin.is) c.if-place-eq0.true
    c.insert-then-place-eq0.ensures.inserted c.insert-then-place-eq0.ensures.counted

pub returns-else-place-eq0 : goal.returns-else-place-eq0
returns-else-place-eq0 g c =
    not_begin_followed _ _ _ _ _ _ _ (stands _ _ _ c.requires.within c.in-AtBegin.is) c.if-place-eq0.false
    c.requires.good

pub returns-then-place-line : goal.returns-then-place-line
returns-then-place-line g c =
    end_followed _ _ _ _ _ _ _ _ (stands _ _ _ c.requires.within c.in-AtEnd.is) c.if-place-line.true
    c.insert-then-place-line.ensures.inserted c.insert-then-place-line.ensures.counted

pub returns-else-place-line : goal.returns-else-place-line
returns-else-place-line g c =
    not_end_followed _ _ _ _ _ _ _ (stands _ _ _ c.requires.within c.in-AtEnd.is) c.if-place-line.false c.requires.good

pub returns-in-Split : goal.returns-in-Split
returns-in-Split g c =
    split_followed _ _ _ _ _ _ _ _ _ _ (stands _ _ _ c.requires.within c.in-Split.is) c.insert-in-Split.ensures.inserted
    c.insert-in-Split-2.ensures.inserted c.insert-in-Split.ensures.counted c.insert-in-Split-2.ensures.counted

pub returns-in-Read : goal.returns-in-Read
returns-in-Read g c =
    let within = c.requires.within in
    let good = c.requires.good in
    elim c.in-Read.is [
      | inl a ↦ read_followed _ _ _ _ _ _ (Read a.0 a.1) (stands _ _ _ within a.2) (λ r e. omega (arith, e.4)) good
      | inr b ↦ elim b [
        | inl a ↦ read_followed _ _ _ _ _ _ Fail (stands _ _ _ within a) (λ r e. e) good
        | inr a ↦ read_followed _ _ _ _ _ _ Accept (stands _ _ _ within a) (λ r e. e) good
      ]
    ]
