use Rattle.std.proofs.Common.{rules, tests}
use Rattle.pg_words.proofs.Anys.{any_text}
use Rattle.pg_words.proofs.matches.has_long_separator.Goals as goal

pub returns : goal.returns
returns c = any_text _ _ c.any.ensures.ran c.iter.ensures.rest (λ text b q is. search (rules, tests))
