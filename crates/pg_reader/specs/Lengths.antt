-- How long lines and files may be.
use Rattle.std.specs.Prelude.{◌⊎◌, ℕ, ◌<◌, ◌^◌, List, [], ◌∷◌, length}
use Rattle.std.specs.List.{Any}
use Rattle.pg_blocks.specs.Lines.{lines}
use Rattle.pg_files.specs.Given.{FileOutcome, NoFile, File}

-- The newest file has a line of more than `longest` bytes, by the byte that ends lines, or more than 2^62 bytes.
abbrev pub IsTooLong : (end longest : ℕ) → List FileOutcome → Type 0
IsTooLong end longest [] = ⊥
IsTooLong end longest (NoFile name cause ∷ given) = ⊥
IsTooLong end longest (File name bytes ending ∷ given) =
    Any (λ line. longest < length line) (lines end bytes) ⊎ (2 ^ 62 < length bytes)
