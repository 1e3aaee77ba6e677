-- Worked examples of the definitions.
use Rattle.std.proofs.Common.{◌≡◌, [], ◌∷◌, true, false, refl}
use Rattle.pg_bytes.specs.Sets.{one, closed}
use Rattle.pg_pattern.specs.Patterns.{Empty, Set, Cat}
use Rattle.pg_match.specs.Sizes.{list_size}
use Rattle.pg_match.specs.Strings.{string_pattern}

-- ---- the patterns of `ab`, of `a` in either case and of no byte

two_bytes : string_pattern false (97 ∷ 98 ∷ []) ≡ Cat (Set (one 97)) (Set (one 98))
two_bytes = refl

either_case : string_pattern true (97 ∷ []) ≡ Set (closed (one 97))
either_case = refl

nothing : string_pattern false [] ≡ Empty
nothing = refl

-- ---- `ab` and `c` take three states for their bytes, one to choose and one where a match ends

size : list_size (string_pattern false (97 ∷ 98 ∷ []) ∷ string_pattern false (99 ∷ []) ∷ []) ≡ 5
size = refl
