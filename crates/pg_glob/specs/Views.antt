-- Globs and rules of the program as plain data.
use Rattle.std.specs.Prelude.{ℕ, List, map}
use Rattle.pg_bytes.specs.Sets.{Bytes}
use Rattle.pg_bytes.specs.ByteSets.{bytes}
use Rattle.pg_glob.specs.Globs.{GlobPiece, AnyBytes, OneOf}
use Rattle.pg_glob.specs.Filters.{Rule}
use Rattle.pg_glob.specs.declared.bracket.WrittenByte.{WrittenByte}
use Rattle.pg_glob.specs.declared.bracket.WrittenSet.{WrittenSet}
use Rattle.pg_glob.specs.declared.reading.WrittenPart.{WrittenPart}
use Rattle.pg_glob.specs.declared.glob.Part.{Part}
use Rattle.pg_glob.specs.declared.glob.Part.TheVariants as V
use Rattle.pg_glob.specs.declared.glob.Glob.{Glob}
use Rattle.pg_glob.specs.declared.filter.Entry.{Entry}
use Rattle.pg_glob.specs.declared.filter.Filter.{Filter}

abbrev pub byte_of : WrittenByte → ℕ × ℕ
byte_of b = (b.byte, b.length)

abbrev pub set_and_length : WrittenSet → Bytes × ℕ
set_and_length s = (bytes s.set, s.length)

abbrev pub piece_of : Part → GlobPiece
piece_of V.AnyBytes = AnyBytes
piece_of (V.OneOf set) = OneOf (bytes set)

abbrev pub written_of : WrittenPart → GlobPiece × ℕ
written_of p = (piece_of p.part, p.behind)

abbrev pub pieces : {A : Type 0} → Glob A → List GlobPiece
pieces glob = map piece_of glob.parts.items

abbrev pub rule_of : {A : Type 0} → Entry A → Rule
rule_of entry = record { keeps = entry.keeps; glob = pieces entry.glob }

abbrev pub rules : {A : Type 0} → Filter A → List Rule
rules filter = map rule_of filter.entries.items
