use Rattle.std.proofs.Common.{◌<◌, length, List, map, sym, ap, subst, inl, inr, arith, true}
use Rattle.std.proofs.lemmas.Bool.{false≢true}
use Rattle.pg_literal.specs.declared.literal.Literal.{Literal}
use Rattle.pg_prefilter.specs.Literals.{AreLiterals, TellHeads, data_of}
use Rattle.pg_prefilter.specs.Strings.{AreStrings}
use Rattle.pg_prefilter.proofs.StringLemmas.{fixed_are}
use Rattle.pg_prefilter.proofs.LiteralLemmas.{no_literals}
use Rattle.pg_prefilter.proofs.NeedleSetLemmas.{prepared_are, set_is}
use Rattle.pg_prefilter.proofs.prefilter.Prefilter.of_strings.Goals as goal

pub returns : goal.returns
returns g c =
    let text = c.args.text.now in
    let are = c.in_ok-literals.ensures.literals in
    let Are : List (Literal g.row.A.Denot) → Type 0 = λ ls. AreLiterals text (map data_of ls) in
    let Heads : List (Literal g.row.A.Denot) → Type 0 = λ ls. TellHeads text ls in
    let fixed : 0 < length c.deref.result.now → AreStrings text (map (λ l. l.text.items) c.deref.result.now) = λ some.
    let exact = c.in_ok-literals.ensures.fixed (omega (arith, some, ap length c.deref.ensures.value)) in
    subst (λ ls. AreStrings text (map (λ l. l.text.items) ls)) (sym c.deref.ensures.value)
    (subst (AreStrings text) (sym exact) (fixed_are text c.requires.fixed)) in
    let seen = subst Are (sym c.deref.ensures.value) are in
    record {
      literals = elim c.few_of.ensures [
        | inl same ↦ subst Are (sym (ap (λ v. v.items) same)) are
        | inr none ↦ subst Are (sym none) (no_literals text)
      ];
      heads = elim c.few_of.ensures [
        | inl same ↦ subst Heads (sym (ap (λ v. v.items) same)) c.in_ok-literals.ensures.heads
        | inr none ↦ λ some. absurd (omega (arith, some, ap length none))
      ];
      set = set_is text c.deref.result.now c.in_ok-literal_set.literal_set true (λ _. fixed)
          c.in_ok-literal_set.ensures.strings c.in_ok-literal_set.ensures.fixed
          (prepared_are text c.deref.result.now c.in_ok-literal_set.literal_set seen
          c.in_ok-literal_set.ensures.strings c.in_ok-literal_set.ensures.enough
          c.in_ok-literal_set.ensures.some_enough);
      non_empty = c.in_ok-non_empty.ensures;
      suffix = tt;
      front = λ set. absurd (false≢true set);
      reach = tt;
      row = tt;
    }
