use Rattle.std.proofs.Common.{◌≡◌, map, take}
use Rattle.pg_pattern.specs.Strings.{items_of}
use Rattle.pg_prefilter.proofs.literal_set.copies_of.Given as goal

abbrev pub invariant-loop-literal : goal.invariant-loop-literal
invariant-loop-literal g l =
    map items_of l.copies.items ≡ map (λ literal. literal.text.items) (take l.literal-index l.literals)
