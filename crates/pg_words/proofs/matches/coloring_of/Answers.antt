use Rattle.std.proofs.Common.{◌∙◌, ap, refl, sym, option_and_then, option_map, Option, List, ℕ}
use Rattle.std.specs.Prelude.{unwrap_or}
use Rattle.pg_words.specs.Asks.{coloring_by}
use Rattle.pg_words.specs.declared.options.Coloring.{Coloring}
use Rattle.pg_words.specs.declared.options.Coloring.TheVariants.{Never}
use Rattle.pg_words.proofs.matches.coloring_of.Goals as goal

pub returns-in-Some : goal.returns-in-Some
returns-in-Some c = λ us is.
    c.unwrap_or.ensures
    ∙ (ap (λ (o : Option Coloring). unwrap_or o Never) c.coloring_by.ensures
    ∙ ap (λ (o : Option (List ℕ)). unwrap_or (option_and_then coloring_by o) Never)
    (ap (option_map (λ text. text.now)) (sym c.in-Some.is) ∙ c.last_value.ensures us is refl))

pub returns-in-None : goal.returns-in-None
returns-in-None c = λ us is.
    ap (λ (o : Option (List ℕ)). unwrap_or (option_and_then coloring_by o) Never)
    (ap (option_map (λ text. text.now)) (sym c.in-None.is) ∙ c.last_value.ensures us is refl)
