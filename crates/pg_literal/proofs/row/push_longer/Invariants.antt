use Rattle.std.proofs.Common.{◌≡◌, ◌++◌, ◌∷◌, [], map, take}
use Rattle.pg_pattern.specs.Strings.{items_of}
use Rattle.pg_literal.proofs.row.push_longer.Given as goal

abbrev pub invariant-loop-byte : goal.invariant-loop-byte
invariant-loop-byte g l =
    map items_of l.texts.items
    ≡ map items_of l.fn.texts.items ++ map (λ b. l.text ++ b ∷ []) (take l.byte-index l.choices)
