use Rattle.std.proofs.Common.{map, take, reverse}
use Rattle.pg_literal.specs.Rows.{row_of, AreProduct}
use Rattle.pg_pattern.specs.Strings.{items_of}
use Rattle.pg_literal.proofs.row.texts_of.Given as goal

abbrev pub invariant-loop-set : goal.invariant-loop-set
invariant-loop-set g l =
    AreProduct l.fold (row_of (take l.set-index l.row)) (map reverse (map items_of l.texts.items))
