use Rattle.std.proofs.Common.{◌≡◌, ◌≤◌, length, sym, ◌∙◌, inl, inr, true, false}
use Rattle.std.specs.List.{All}
use Rattle.pg_strings.specs.Outcomes.{strings_of}
use Rattle.pg_prefilter.specs.Enough.{strings_if_some}
use Rattle.pg_prefilter.proofs.EnoughLemmas.{enough_among}
use Rattle.pg_prefilter.proofs.NeedleSetLemmas.{copies_some}
use Rattle.pg_prefilter.proofs.literal_set.LiteralSet.of.Goals as goal

pub new-requires : goal.new-requires
new-requires g c =
    let some : All (λ literal. 1 ≤ length literal.text.items) c.args.literals.now = elim c.has_empty.ensures [
      | inl some ↦ absurd (let h : true ≡ false = sym some ∙ c.if-has_empty.false in cc)
      | inr some ↦ some
    ] in
    copies_some c.in_ok-copies_of.field-0.items c.args.literals.now c.in_ok-copies_of.ensures some

pub invariant_of-result-clause-among : goal.invariant_of-result-clause-among
invariant_of-result-clause-among g c =
    enough_among c.args.literals.now (strings_of c.in_ok-strings.strings) (strings_if_some c.in_ok-enough.enough)
    (c.in_ok-strings.ensures ∙ c.in_ok-copies_of.ensures) c.in_ok-enough.ensures
