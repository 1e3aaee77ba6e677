use Rattle.std.proofs.Common.{◌≡◌, ◌||◌, ap, sym, ◌∙◌, true, arith}
use Rattle.std.proofs.lemmas.Bool.Decides.{nat_tests}
use Rattle.pg_bytes.specs.Sets.{between}
use Rattle.pg_bytes.specs.ByteSets.{bytes}
use Rattle.pg_literal.proofs.FoldLemmas.{same_sets}
use Rattle.pg_literal.proofs.row.is_from.Goals as goal

pub returns : goal.returns
returns c = λ yes b less in_set.
    let high = c.between-high.result in
    let bound = c.args.bound in
    let same : c.union.result ≡ high = (same_sets c.union.result high).0 (sym c.eq.ensures ∙ yes) in
    let has : bytes c.union.result b ≡ true =
    ap (λ s. s b) c.union.ensures ∙ ap (λ t. t || bytes high b) in_set in
    let is : bytes high b ≡ between bound 255 b = ap (λ s. s b) c.between-high.ensures in
    let within : between bound 255 b ≡ true = sym is ∙ (sym (ap (λ s. bytes s b) same) ∙ has) in
    grind (arith, nat_tests)
