-- Worked examples of the definitions.
use Rattle.std.specs.Prelude.{◌≡◌, [], ◌∷◌, ◌++◌, codes, refl}
use Rattle.pg_blocks.specs.Lines.{lines}

-- a last line may lack the newline, and a newline alone is an empty line
last_line_without : lines 10 (codes "abc" ++ 10 ∷ codes "xyz" ++ 10 ∷ codes "b") ≡ codes "abc" ∷ codes "xyz" ∷ codes "b"
    ∷ []
last_line_without = refl

empty_lines : lines 10 (10 ∷ 10 ∷ []) ≡ [] ∷ [] ∷ []
empty_lines = refl

empty_file : lines 10 [] ≡ []
empty_file = refl

-- with byte 0 as the terminator a newline is an ordinary byte
ended_by_zero : lines 0 (codes "a" ++ 0 ∷ codes "b" ++ 10 ∷ codes "c" ++ 0 ∷ codes "d")
    ≡ codes "a" ∷ (codes "b" ++ 10 ∷ codes "c") ∷ codes "d" ∷ []
ended_by_zero = refl
