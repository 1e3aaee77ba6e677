-- Paths as texts, and the directories that they lead through.
use Rattle.std.specs.Prelude.{ℕ, zero, suc, ◌-◌, ◌==◌, Bool, List, [], ◌∷◌, length, take, slice_index}
use Rattle.std.specs.List.{filter}
use Rattle.pg_walk.specs.Answers.{Path}

abbrev pub ends_with_slash : Path → Bool
ends_with_slash path = slice_index path (length path - 1) == 47

-- the beginnings of a text that have at most so many bytes and at least one, the longest first
abbrev pub beginnings : Path → ℕ → List Path
beginnings text zero = []
beginnings text (suc n) = take (suc n) text ∷ beginnings text n

-- the directories that an entry so many names below its operand lies in, the lowest first and the operand last: the
-- longest beginnings of its path that end with a slash
abbrev pub above : (depth : ℕ) → (path : Path) → List Path
above depth path = take depth (filter ends_with_slash (beginnings path (length path)))
