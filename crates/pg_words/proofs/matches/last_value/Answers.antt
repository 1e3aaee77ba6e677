use Rattle.std.proofs.Common.{◌∙◌, ap, None, List, ℕ}
use Rattle.pg_words.specs.Line.{last_of}
use Rattle.pg_words.proofs.matches.last_value.Goals as goal

pub returns : goal.returns
returns c = λ us is behind.
    c.last_of.ensures
    ∙ ap (λ (vs : List (List ℕ)). last_of vs None) (c.values_of.ensures ∙ is.texts c.args.name.now behind)
