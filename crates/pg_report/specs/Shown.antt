-- The pattern of a fault, as it is shown below the line that tells it.
use Rattle.std.specs.Prelude.{ℕ, ◌==◌, ◌+◌, ◌-◌, nat_le, Bool, ◌&&◌, ◌||◌, if◌then◌else◌, List, [], ◌++◌, codes, length}
use Rattle.std.specs.Prelude.{Option, Some, None, option_and_then, replicate, slice_get, slice_index}
use Rattle.std.specs.List.{list_all, list_any}
use Rattle.pg_grammar.specs.declared.fault.FaultKind.{FaultKind}
use Rattle.pg_grammar.specs.declared.fault.FaultKind.TheVariants.{BadEscape, BadInterval}
use Rattle.pg_grammar.specs.declared.fault.ListFault.{ListFault}

-- a newline separates patterns in the text
abbrev pub has_newline : List ℕ → Bool
has_newline text = list_any (λ byte. byte == 10) text

-- the text of the pattern of this number, counted from 1, where each text is one pattern
abbrev pub pattern_text : List (List ℕ) → (number : ℕ) → Option (List ℕ)
pattern_text texts number = if list_any has_newline texts then None else slice_get texts (number - 1)

-- a byte of printable ASCII
abbrev pub is_printable : ℕ → Bool
is_printable byte = nat_le 32 byte && nat_le byte 126

-- the text can be shown on one line, and the place is one of it or right behind it
abbrev pub can_be_shown : List ℕ → (at : ℕ) → Bool
can_be_shown text at = nat_le (length text) 200 && nat_le at (length text) && list_all is_printable text

-- the text of the pattern with the fault, where it is shown; the texts are those of -e, or PATTERN
abbrev pub pattern_shown : List (List ℕ) → ListFault → Option (List ℕ)
pattern_shown texts f =
    option_and_then (λ text. if can_be_shown text f.fault.at then Some text else None) (pattern_text texts f.pattern)

-- what to write in place of a backslash and this byte
abbrev pub escape_advice : ℕ → List ℕ
escape_advice byte =
    if byte == 124 then codes "pargrep: for alternatives use -E\n"
    else (if byte == 43 || (byte == 63) then codes "pargrep: for + and ? use -E\n"
    else (if byte == 119 then codes "pargrep: use [[:alnum:]_]\n"
    else (if byte == 87 then codes "pargrep: use [^[:alnum:]_]\n"
    else (if byte == 115 then codes "pargrep: use [[:space:]]\n"
    else (if byte == 83 then codes "pargrep: use [^[:space:]]\n"
    else (if byte == 60 || (byte == 62) || (byte == 98) then codes "pargrep: for whole words use -w\n"
    else []))))))

-- what to write in place of an interval that begins with this byte
abbrev pub interval_advice : ℕ → List ℕ
interval_advice byte = if byte == 44 then codes "pargrep: use {0,N} in place of {,N}\n" else []

-- the line that says what to write instead, by the byte behind the place
abbrev pub advice : FaultKind → ℕ → List ℕ
advice BadEscape byte = escape_advice byte
advice BadInterval byte = interval_advice byte
advice kind byte = []

-- the lines below: the text, a mark (94) under the place, and what to write instead
abbrev pub shown_lines : List ℕ → ListFault → List ℕ
shown_lines text f =
    codes "pargrep:   " ++ text ++ codes "\npargrep:   " ++ replicate f.fault.at 32 ++ codes "^\n"
    ++ advice f.fault.kind (slice_index text (f.fault.at + 1))
