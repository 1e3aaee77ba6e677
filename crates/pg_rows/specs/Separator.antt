-- The text of the row between groups of lines (GNU grep's --group-separator).
use Rattle.std.specs.Prelude.{ℕ, ◌-◌, nat_le, if◌then◌else◌, List, [], ◌++◌, length, replicate, take}
use Rattle.std.specs.Prelude.{Option, Some, None}
use Rattle.std.specs.Option.{option_map_or}
use Rattle.pg_rows.specs.declared.separator.Separator.{Separator}

-- the most bytes of such a text
abbrev pub max_separator : ℕ
max_separator = 64

-- the text that a separator holds
abbrev pub separator_text : Separator → List ℕ
separator_text separator = take separator.len separator.bytes

-- the separator with a text of at most so many bytes: NULs fill its room
abbrev pub separator_of : List ℕ → Separator
separator_of text = record { bytes = text ++ replicate (max_separator - length text) 0; len = length text }

-- the separator with this text, unless that is too long
abbrev pub separator_for : List ℕ → Option Separator
separator_for text = if nat_le (length text) max_separator then Some (separator_of text) else None

-- the text between groups of lines: no byte where nothing parts them
abbrev pub text_between : Option Separator → List ℕ
text_between separator = option_map_or separator_text separator []
