-- Pattern lists as plain data, and their patterns (XCU grep, -e and -f).
use Rattle.std.specs.Prelude.{ℕ, ◌==◌, if◌then◌else◌, List, [], ◌∷◌, ◌++◌}
use Rattle.std.specs.List.{onto_first}
use Rattle.pg_bytes.specs.Lines.{lines}

-- a pattern list: a text that each newline splits, or a file whose lines are the patterns
pub data Patterns : Type 0 where
  Split : (text : List ℕ) → Patterns
  ByLine : (bytes : List ℕ) → Patterns

-- the texts between newlines: one more than there are newlines
abbrev pub split : List ℕ → List (List ℕ)
split [] = [] ∷ []
split (b ∷ text) = if b == 10 then [] ∷ split text else onto_first b (split text)

-- the patterns of one list
abbrev pub patterns_in : Patterns → List (List ℕ)
patterns_in (Split text) = split text
patterns_in (ByLine bytes) = lines 10 bytes

-- all patterns, in their order
abbrev pub patterns : List Patterns → List (List ℕ)
patterns [] = []
patterns (list ∷ lists) = patterns_in list ++ patterns lists
