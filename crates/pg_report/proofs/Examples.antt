-- Worked examples of what is told of faults.
use Rattle.std.specs.Prelude.{ℕ, ◌≡◌, ◌++◌, [], ◌∷◌, Some, None, codes, refl, replicate}
use Rattle.std.specs.Fmt.{digits}
use Rattle.pg_grammar.specs.declared.fault.FaultKind.{FaultKind}
use Rattle.pg_grammar.specs.declared.fault.FaultKind.TheVariants.{BadEscape, UnmatchedGroup}
use Rattle.pg_grammar.specs.declared.fault.ListFault.{ListFault}
use Rattle.pg_report.specs.Shown.{pattern_shown}
use Rattle.pg_report.specs.Told.{line_of, lines_of_fault}
use Rattle.pg_request.specs.declared.fault.Fault.TheVariants.{Pattern, WriteFailed}

-- the fault of a pattern, which is counted from 1, at an offset, which is counted from 0
abbrev fault : ℕ → FaultKind → ℕ → ListFault
fault pattern kind at = record { pattern = pattern; fault = record { kind = kind; at = at } }

-- a line of its own, without a place
failed_write : line_of WriteFailed ≡ codes "pargrep: write failed\n"
failed_write = refl

-- the pattern with a mark under the place, and what to write instead
bar_in_a_basic_expression : lines_of_fault (codes "a\\|b" ∷ []) (Pattern (fault 1 BadEscape 1))
    ≡ codes "pargrep: pattern 1: bad escape at 1\n" ++ (codes "pargrep:   a\\|b\n" ++ (codes "pargrep:    ^\n"
    ++ codes "pargrep: for alternatives use -E\n"))
unfolding digits
bar_in_a_basic_expression = refl

-- the second pattern, of which the end is at fault
open_group : lines_of_fault (codes "a" ∷ codes "(b" ∷ []) (Pattern (fault 2 UnmatchedGroup 2))
    ≡ codes "pargrep: pattern 2: unmatched group at 2\n" ++ (codes "pargrep:   (b\n" ++ codes "pargrep:     ^\n")
unfolding digits
open_group = refl

-- a pattern with a byte that isn't printed isn't shown
byte_without_a_glyph : lines_of_fault ((1 ∷ codes "\\q") ∷ []) (Pattern (fault 1 BadEscape 1))
    ≡ codes "pargrep: pattern 1: bad escape at 1\n"
unfolding digits
byte_without_a_glyph = refl

-- a pattern isn't shown where it has more than 200 bytes, where a text may be several patterns, or where it is in none
long_pattern : pattern_shown (replicate 201 97 ∷ []) (fault 1 UnmatchedGroup 200) ≡ None
long_pattern = refl

pattern_of_200_bytes : pattern_shown (replicate 200 97 ∷ []) (fault 1 UnmatchedGroup 200) ≡ Some (replicate 200 97)
pattern_of_200_bytes = refl

patterns_in_one_text : pattern_shown (codes "a\n(b" ∷ []) (fault 2 UnmatchedGroup 2) ≡ None
patterns_in_one_text = refl

pattern_of_a_file : pattern_shown (codes "a" ∷ []) (fault 2 UnmatchedGroup 2) ≡ None
pattern_of_a_file = refl
