use Rattle.std.proofs.Common.{◌∙◌, ◌≡◌, ap, sym, subst, map, true, List, None, ℕ}
use Rattle.std.specs.String.{string_bytes}
use Rattle.pg_words.specs.Joined.{asked, complete}
use Rattle.pg_words.specs.Line.{table, uses_from}
use Rattle.pg_words.proofs.Joins.{joined_complete, words_join}
use Rattle.pg_words.proofs.split.Words.new.Goals as goal

pub invariant_of-result : goal.invariant_of-result
invariant_of-result c = record {
  complete = subst (λ (l : List (List ℕ)). complete table l ≡ true) (sym c.in_ok-parts.ensures)
      (joined_complete table (map string_bytes c.as_slice.result.now));
}

pub returns : goal.returns
returns c =
    ap (asked table) c.in_ok-parts.ensures ∙ words_join table (map string_bytes c.as_slice.result.now)
    ∙ ap (λ (l : List (List ℕ)). uses_from table l None)
    (ap (map string_bytes) c.as_slice.ensures.value ∙ c.in_ok-spelled.ensures)
