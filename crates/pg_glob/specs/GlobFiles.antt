-- Files of globs, as GNU grep's --exclude-from reads them: one glob a line.
use Rattle.std.specs.Prelude.{◌≡◌, ℕ, ◌==◌, ◌&&◌, ◌||◌, Bool, false, nat_lt, if◌then◌else◌, List, [], ◌∷◌, ◌++◌}
use Rattle.std.specs.List.{flat_map}
use Rattle.pg_bytes.specs.Lines.{lines}
use Rattle.pg_glob.specs.Brackets.{Text}
use Rattle.pg_glob.specs.Filters.{Rule}
use Rattle.pg_glob.specs.Globs.{pieces_of}

-- a space (32), or a byte from the tab (9) to the carriage return (13)
abbrev pub is_blank : ℕ → Bool
is_blank x = x == 32 || (nat_lt 8 x && nat_lt x 14)

-- a byte before what is kept of a line behind it: a blank isn't kept at the end
abbrev pub kept : ℕ → Text → Text
kept x [] = if is_blank x then [] else x ∷ []
kept x (y ∷ t) = x ∷ y ∷ t

-- a line without the blanks at its end
abbrev pub without_blanks : Text → Text
without_blanks [] = []
without_blanks (x ∷ t) = kept x (without_blanks t)

-- what the glob leaves out; the empty text is none
abbrev pub rule_in : Text → List Rule
rule_in [] = []
rule_in (x ∷ t) = record { keeps = false; glob = pieces_of (x ∷ t) } ∷ []

-- what the globs of a file leave out, in its order; newlines (10) end its lines
abbrev pub rules_in : Text → List Rule
rules_in text = flat_map (λ line. rule_in (without_blanks line)) (lines 10 text)

-- the first ones of these rules were added, and nothing else
pub record AddsFirst (all old new : List Rule) : Type 0 where
  pub front : List Rule
  pub rest : List Rule
  pub whole : all ≡ front ++ rest
  pub added : new ≡ old ++ front
