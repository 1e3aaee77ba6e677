use Rattle.std.proofs.Common.{◌≡◌, ℕ, List, [], ◌∷◌, map, take, reverse}
use Rattle.pg_bytes.specs.ByteSets.{bytes}
use Rattle.pg_literal.specs.Literals.{as_searched}
use Rattle.pg_literal.specs.Rows.{row_of, AreProduct}
use Rattle.pg_literal.specs.Known.{sets_of}
use Rattle.pg_literal.proofs.row.only_text.Given as goal

abbrev pub invariant-loop-set : goal.invariant-loop-set
invariant-loop-set g l = record {
  product : AreProduct l.fold (row_of (take l.set-index l.row)) (reverse l.text.items ∷ []);
  fixed : (text : List ℕ) → map bytes l.row ≡ sets_of l.fold text
      → l.text.items ≡ as_searched l.fold (take l.set-index text);
}
