-- Worked examples of the definitions.
use Rattle.std.specs.Prelude.{◌≡◌, ◌==◌, ℕ, true, false, List, [], ◌∷◌, ◌++◌, codes, refl}
use Rattle.pg_pattern.specs.Patterns.{Pattern, Empty, Set, Cat}
use Rattle.pg_pattern.specs.Tests.{has_hit}
use Rattle.pg_pattern.specs.Parts.{parts_from}
use Rattle.pg_selection.specs.Search.{SearchText, Search, Patterns, Split, ByLine, patterns, Kind, Fixed, Basic, Whole}
use Rattle.pg_selection.specs.Search.{AreTreesOf, search_of, bounds_of, terminator_of}
use Rattle.pg_selection.specs.Selection.{selects, parts_of_line}

-- a text is split at each newline, a file gives its lines
split_text : patterns (Split (codes "a" ++ 10 ∷ []) ∷ []) ≡ codes "a" ∷ [] ∷ []
split_text = refl

lines_of_file : patterns (ByLine (codes "a" ++ 10 ∷ []) ∷ ByLine [] ∷ []) ≡ codes "a" ∷ []
lines_of_file = refl

-- the text of some patterns, and the search for it where they have these trees

abbrev plain : List Patterns → Kind → SearchText
plain lists kind = record {
  kind = kind;
  lists = lists;
  fold = false;
  whole = false;
  word = false;
  invert = false;
  with_parts = false;
  zero = false;
}

abbrev byte : ℕ → Pattern
byte b = Set (λ x. x == b)

abbrev search_for_b : Search
search_for_b = search_of (plain (Split (codes "b") ∷ []) Fixed) (byte 98 ∷ [])

abbrev with_x : Search → Search
with_x q = record q { text = record (q.text) { whole = true } }

abbrev with_v : Search → Search
with_v q = record q { text = record (q.text) { invert = true } }

-- the text anywhere in the line; with -x the whole line; with -v the other lines
found_within : selects search_for_b (codes "abc") ≡ true
unfolding has_hit
found_within = refl

not_found : selects search_for_b (codes "xyz") ≡ false
unfolding has_hit
not_found = refl

not_whole : selects (with_x search_for_b) (codes "abc") ≡ false
unfolding has_hit
not_whole = refl

inverted : selects (with_v search_for_b) (codes "xyz") ≡ true
unfolding has_hit
inverted = refl

-- an empty pattern matches each line, no pattern matches none
empty_pattern : selects (search_of (plain (Split [] ∷ []) Fixed) (Empty ∷ [])) [] ≡ true
unfolding has_hit
empty_pattern = refl

no_pattern : selects (search_of (plain (ByLine [] ∷ []) Fixed) []) (codes "a") ≡ false
unfolding has_hit
no_pattern = refl

no_pattern_has_no_tree : AreTreesOf (plain (ByLine [] ∷ []) Fixed) []
no_pattern_has_no_tree = tt

-- -x wins over -w, and byte 0 ends lines with -z
whole_wins : bounds_of (record (plain [] Basic) { whole = true; word = true }) ≡ Whole
whole_wins = refl

zero_ends : terminator_of (record (plain [] Basic) { zero = true }) ≡ 0
zero_ends = refl

-- of several patterns the longest match from the first place, and then on from its end
longest_part : parts_of_line (search_of (plain (Split (codes "ab" ++ 10 ∷ codes "b") ∷ []) Fixed)
    (Cat (byte 97) (byte 98) ∷ byte 98 ∷ [])) (codes "abb") ≡ (0, 2) ∷ (2, 3) ∷ []
unfolding parts_from
longest_part = refl
