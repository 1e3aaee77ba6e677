use Rattle.std.proofs.Common.{◌≡◌, ◌≤◌, ◌∙◌, List, ℕ, length, map, ap, sym, subst}
use Rattle.std.specs.List.{All}
use Rattle.pg_grammar.specs.Slices.{bytes_of}
use Rattle.pg_pattern.specs.Strings.{items_of}
use Rattle.pg_selection.specs.Search.{SearchText, patterns}
use Rattle.pg_literal.specs.Literals.{as_searched}
use Rattle.pg_prefilter.specs.Strings.{without_empty}
use Rattle.pg_prefilter.proofs.StringLemmas.{fixed_are}
use Rattle.pg_prefilter.proofs.NeedleSetLemmas.{all_unmap}
use Rattle.pg_prefilter.proofs.NonEmptyLemmas.{own_strings, without_some}
use Rattle.pg_prefilter.proofs.prefilter.non_empty_of.Goals as goal

pub new-requires : goal.new-requires
new-requires g c =
    let Some : List (List ℕ) → Type 0 = λ ss. All (λ s. 1 ≤ length s) ss in
    all_unmap (λ s. 1 ≤ length s) items_of c.in_ok-with_bytes.field-0.items
    (subst Some (sym c.in_ok-with_bytes.ensures) (without_some (bytes_of c.args.strings.now)))

pub returns : goal.returns
returns g c =
    let text = c.args.text.now in
    let view : c.text.inside.fold ≡ text.fold = ap (λ (t : SearchText). t.fold) c.text.view_is in
    let fold = sym view ∙ c.if-text.false in
    record {
      fold = fold;
      all = map (as_searched text.fold) (patterns text.lists);
      are = fixed_are text c.requires.fixed;
      each = c.in_ok-set.ensures ∙ (c.in_ok-with_bytes.ensures ∙ ap without_empty
          (c.requires.strings ∙ sym (own_strings text.fold fold (patterns text.lists))));
    }
