use Rattle.std.proofs.Common.{ap, ◌∙◌}
use Rattle.pg_bytes.specs.Sets.{complement, union}
use Rattle.pg_bytes.specs.Classes.{graph}
use Rattle.pg_bytes.specs.ByteSets.{bytes}
use Rattle.pg_bytes.proofs.SetLemmas.{complement-punct}
use Rattle.pg_bytes.proofs.classes.punct.Goals as goal

pub returns : goal.returns
returns c =
    let letters = bytes c.alnum.result in
    let other = c.complement-other.ensures ∙ ap complement c.between.ensures in
    c.complement.ensures
    ∙ (ap complement (c.union.ensures ∙ (ap (λ s. union s letters) other
    ∙ ap (union (complement graph)) c.alnum.ensures))
    ∙ complement-punct)
