use Rattle.std.proofs.Common.{◌∙◌, ap, refl, sym, option_and_then, option_map, Option, List, ℕ}
use Rattle.pg_words.specs.Asks.{device_action}
use Rattle.pg_words.proofs.matches.devices_of.Goals as goal

pub returns-in-Some : goal.returns-in-Some
returns-in-Some c = λ us is.
    c.device_action.ensures
    ∙ ap (λ (o : Option (List ℕ)). option_and_then device_action o)
    (ap (option_map (λ text. text.now)) (sym c.in-Some.is) ∙ c.last_value.ensures us is refl)

pub returns-in-None : goal.returns-in-None
returns-in-None c = λ us is.
    ap (λ (o : Option (List ℕ)). option_and_then device_action o)
    (ap (option_map (λ text. text.now)) (sym c.in-None.is) ∙ c.last_value.ensures us is refl)
