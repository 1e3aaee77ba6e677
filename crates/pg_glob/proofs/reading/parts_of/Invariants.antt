use Rattle.std.proofs.Common.{◌≡◌, ◌++◌, length, map}
use Rattle.pg_glob.specs.Globs.{pieces_of}
use Rattle.pg_glob.specs.Views.{piece_of}
use Rattle.pg_glob.proofs.reading.parts_of.Given as goal

abbrev pub invariant-loop-byte : goal.invariant-loop-byte
invariant-loop-byte g l = map piece_of l.parts.items ++ pieces_of l.left ≡ pieces_of l.fn.text

abbrev pub decreases-loop-byte : goal.decreases-loop-byte
decreases-loop-byte g l = length l.left
