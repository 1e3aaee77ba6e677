use Rattle.std.proofs.Common.{◌≡◌, ◌∙◌, ◌≤◌, ℕ, Some, None, ap, arith, cond, length, nat_lt, rules, take, tests}
use Rattle.std.proofs.lemmas.Iterator.{YieldsList-from_slice}
use Rattle.std.proofs.lemmas.Iterator.Search.{position_from_yields_List}
use Rattle.std.proofs.lemmas.List.Sums.{prefix_len-le-length}
use Rattle.std.specs.Prelude.{unwrap_or}
use Rattle.std.specs.String.{string_bytes}
use Rattle.pg_words.specs.Line.{is_mark}
use Rattle.pg_words.proofs.split.words_before_mark.Goals as goal

place_or_end : (place end : ℕ) → place ≤ end → unwrap_or (cond (nat_lt place end) (Some place) None) end ≡ place
place_or_end place end within = grind arith

pub returns : goal.returns
returns c =
    let words = c.args.words.now in
    let place = position_from_yields_List (λ word. is_mark (string_bytes word)) _ _ c.position.result
    c.position.ensures.ran (YieldsList-from_slice words c.iter.ensures.rest) (λ x b q is. search (rules, tests)) in
    ap (λ end. take end words)
    (c.unwrap_or-end.ensures ∙ ap (λ at. unwrap_or at (length words)) place
    ∙ place_or_end _ _ (prefix_len-le-length _ words))
