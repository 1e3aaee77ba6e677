-- What the FILE operands ask for.
use Rattle.std.specs.Prelude.{ℕ, List, [], ◌∷◌, codes}

-- the paths that are searched: those given, and standard input alone where none is
abbrev pub searched : List (List ℕ) → List (List ℕ)
searched [] = codes "-" ∷ []
searched (path ∷ paths) = path ∷ paths
