-- Strings of bytes in memory.
use Rattle.std.specs.Prelude.{ℕ, List, Vec}

-- the bytes of a string
abbrev pub items_of : {A : Type 0} → Vec ℕ A → List ℕ
items_of string = string.items
