use Rattle.std.proofs.Common.{◌∙◌, ap, sym, option_and_then, option_map, Option, List, ℕ}
use Rattle.pg_rows.specs.Separator.{separator_for}
use Rattle.pg_words.proofs.separator.separator_of.Goals as goal

pub returns-in-Some : goal.returns-in-Some
returns-in-Some c = λ us is.
    c.new.ensures.exact ∙ ap separator_for c.as_bytes.ensures.value
    ∙ ap (λ (o : Option (List ℕ)). option_and_then separator_for o)
    (ap (option_map (λ text. text.now)) (sym c.in-Some.is) ∙ c.text_of.ensures us is)

pub returns-in-None : goal.returns-in-None
returns-in-None c = λ us is.
    ap (λ (o : Option (List ℕ)). option_and_then separator_for o)
    (ap (option_map (λ text. text.now)) (sym c.in-None.is) ∙ c.text_of.ensures us is)
