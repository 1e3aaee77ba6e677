-- The lines of some bytes (XBD 3.206 Line, 3.195 Incomplete Line).
use Rattle.std.specs.Prelude.{ℕ, ◌==◌, if◌then◌else◌, List, [], ◌∷◌}
use Rattle.std.specs.List.{onto_first}

-- The lines that the terminator `end` cuts the bytes into. A terminator ends an empty first line; any other byte goes
-- in front of the first line of the rest. The last line may lack its terminator.
abbrev pub lines : ℕ → List ℕ → List (List ℕ)
lines end [] = []
lines end (b ∷ bytes) = if b == end then [] ∷ lines end bytes else onto_first b (lines end bytes)
