use Rattle.std.proofs.Common.{◌+◌, ap, ◌∙◌, arith}
use Rattle.pg_bytes.specs.Sets.{union, complement, below}
use Rattle.pg_bytes.specs.ByteSets.{bytes}
use Rattle.pg_bytes.proofs.SetLemmas.{complement-outside}
use Rattle.pg_bytes.proofs.byte_set.ByteSet.between.Goals as goal

pub returns : goal.returns
returns c =
    let first = c.args.first in
    let last = c.args.last in
    let above = c.complement-beyond.ensures
    ∙ ap complement (c.below.ensures ∙ ap (λ n. below (n + 1)) c.from.ensures) in
    let under = c.below-2.ensures ∙ ap below c.from-2.ensures in
    c.complement.ensures
    ∙ (ap complement (c.union.ensures ∙ (ap (λ s. union s (bytes c.below-2.result)) above
    ∙ ap (union (complement (below (last + 1)))) under))
    ∙ complement-outside first last (omega arith))
