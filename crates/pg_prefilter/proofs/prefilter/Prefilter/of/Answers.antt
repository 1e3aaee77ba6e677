use Rattle.std.proofs.Common.{◌≡◌, ◌<◌, length, List, map, sym, ap, subst, inl, inr, arith}
use Rattle.pg_literal.specs.declared.literal.Literal.{Literal}
use Rattle.pg_literal.specs.Literals.{as_searched}
use Rattle.pg_prefilter.specs.Literals.{AreLiterals, TellHeads, data_of}
use Rattle.std.specs.List.{All}
use Rattle.std.specs.Bool.{IsTrue}
use Rattle.std.proofs.lemmas.List.Elements.{All-map}
use Rattle.pg_pattern.specs.Trees.{pattern}
use Rattle.pg_literal.specs.Strings.{IsOfString}
use Rattle.pg_selection.specs.Search.{SearchText}
use Rattle.pg_prefilter.specs.Strings.{AreStrings}
use Rattle.pg_prefilter.proofs.StringLemmas.{strings_are}
use Rattle.pg_prefilter.proofs.LiteralLemmas.{no_literals}
use Rattle.pg_prefilter.proofs.NeedleSetLemmas.{prepared_are, set_is}
use Rattle.pg_prefilter.proofs.prefilter.Prefilter.of.Goals as goal

pub returns : goal.returns
returns g c =
    let text = c.args.text.now in
    let are = c.in_ok-literals.ensures.literals in
    let Are : List (Literal g.row.A.Denot) → Type 0 = λ ls. AreLiterals text (map data_of ls) in
    let Heads : List (Literal g.row.A.Denot) → Type 0 = λ ls. TellHeads text ls in
    let fold : c.text.inside.fold ≡ text.fold = ap (λ (t : SearchText). t.fold) c.text.view_is in
    let fixed : IsTrue c.are_strings-is_fixed.result → 0 < length c.deref.result.now
    → AreStrings text (map (λ l. l.text.items) c.deref.result.now) = λ told some.
    strings_are text (map pattern c.args.trees.now) _ c.requires.trees
    (All-map (IsOfString text.fold) pattern c.args.trees.now (subst (λ f. All (λ tree. IsOfString f (pattern tree))
    c.args.trees.now) fold (c.are_strings-is_fixed.ensures.0 told))) (λ strings zip.
    subst (λ ls. map (λ l. l.text.items) ls ≡ map (as_searched text.fold) strings) (sym c.deref.ensures.value)
    (c.in_ok-literals.ensures.exact strings zip (omega (arith, some, ap length c.deref.ensures.value)))) in
    let seen = subst Are (sym c.deref.ensures.value) are in
    record {
      literals = elim c.few_of.ensures [
        | inl same ↦ subst Are (sym (ap (λ v. v.items) same)) are
        | inr none ↦ subst Are (sym none) (no_literals text)
      ];
      heads = elim c.few_of.ensures [
        | inl same ↦ subst Heads (sym (ap (λ v. v.items) same)) c.in_ok-literals.ensures.heads
        | inr none ↦ λ some. absurd (omega (arith, some, ap length none))
      ];
      set = set_is text c.deref.result.now c.in_ok-literal_set.literal_set c.are_strings-is_fixed.result fixed
          c.in_ok-literal_set.ensures.strings c.in_ok-literal_set.ensures.fixed
          (prepared_are text c.deref.result.now c.in_ok-literal_set.literal_set seen
          c.in_ok-literal_set.ensures.strings c.in_ok-literal_set.ensures.enough
          c.in_ok-literal_set.ensures.some_enough);
      non_empty = tt;
      suffix = c.in_ok-suffix.ensures;
      front = c.ignores_front-ignores_front.ensures;
      reach = c.reach_of-reach.ensures;
      row = c.in_ok-row.ensures;
    }
