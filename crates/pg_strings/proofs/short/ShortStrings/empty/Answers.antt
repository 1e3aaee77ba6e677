use Rattle.std.proofs.Common.{rules, arith}
use Rattle.pg_strings.proofs.ShortLemmas.{empty_tables}
use Rattle.pg_strings.proofs.short.ShortStrings.empty.Goals as goal

pub returns : goal.returns
returns g c =
    empty_tables c.in_ok-singles.singles.items c.in_ok-pairs.pairs.items 256 65536
    (c.in_ok-singles.ensures.items_if_clones_equal (λ y h. search rules))
    (c.in_ok-pairs.ensures.items_if_clones_equal (λ y h. search rules)) (omega (arith, c.in_ok-singles.ensures.len))
    (omega (arith, c.in_ok-pairs.ensures.len))
