use Rattle.std.proofs.Common.{◌≡◌, map, take}
use Rattle.pg_pattern.specs.Strings.{items_of}
use Rattle.pg_literal.proofs.RowLemmas.{longer_texts}
use Rattle.pg_literal.proofs.row.with_choices.Given as goal

abbrev pub invariant-loop-text : goal.invariant-loop-text
invariant-loop-text g l =
    map items_of l.longer.items ≡ longer_texts l.choices (map items_of (take l.text-index l.texts))
