-- Worked examples of what is written, and of the exit status.
use Rattle.std.proofs.Common.{◌≡◌, ℕ, true, false, Some, None, List, [], ◌∷◌, ◌++◌, refl, codes}
use Rattle.pg_bytes.specs.Sets.{one}
use Rattle.pg_pattern.specs.Patterns.{Set}
use Rattle.pg_pattern.specs.Tests.{has_hit}
use Rattle.pg_pattern.specs.Parts.{parts_from}
use Rattle.pg_selection.specs.Search.{SearchText, Search, Split, Fixed, search_of}
use Rattle.std.specs.Fmt.{digits}
use Rattle.pg_blocks.specs.Blocks.{BlockData}
use Rattle.pg_selection.specs.Searched.{SearchedBlock}
use Rattle.pg_selection.specs.Same.{same_text}
use Rattle.pg_plan.specs.Plan.{Opens, Announces, Ends}
use Rattle.pg_plan.specs.History.{Event, Planned, Arrived, answer_after, handed_after, front_after}
use Rattle.pg_plan.specs.declared.answers.Arrival.TheVariants.{Taken, Double, Stranger}
use Rattle.pg_rows.specs.declared.format.Format.{Format}
use Rattle.pg_rows.specs.declared.format.Mode.TheVariants.{Rows, Count, List as Names, ListOthers as Others, Quiet}
use Rattle.pg_base.specs.Entries.{Entry, Missed, Read, Ended}
use Rattle.pg_rows.specs.Output.{output, status, file_rows}
use Rattle.pg_rows.specs.Separator.{separator_of}
use Rattle.pg_seq.specs.Starts.{starts_by}

-- the fixed string of one byte
abbrev text_of : ℕ → SearchText
text_of b = record {
  kind = Fixed;
  lists = Split (b ∷ []) ∷ [];
  fold = false;
  whole = false;
  word = false;
  invert = false;
  with_parts = false;
  zero = false;
}

-- the query for it, and its tree
abbrev query : ℕ → Search
query b = search_of (text_of b) (Set (one b) ∷ [])

abbrev parts : ℕ → Search
parts b = search_of (record (text_of b) { with_parts = true }) (Set (one b) ∷ [])

abbrev zeros : ℕ → Search
zeros b = search_of (record (text_of b) { zero = true }) (Set (one b) ∷ [])

abbrev plain : Format
plain = record {
  names = false;
  null = false;
  numbers = false;
  offsets = false;
  tabs = false;
  mode = Rows;
  parts = false;
  colored = false;
  limit = None;
  before = None;
  after = None;
  separator = Some (separator_of (codes "--"));
}

abbrev file : List ℕ → Entry
file bytes = Read (codes "f") bytes Ended

-- in these texts \n is a newline; 98 is b, 109 is m and 120 is x
selected_lines : output (query 98) plain (file (codes "abc\nxyz\nb") ∷ []) ≡ codes "abc\nb\n"
unfolding has_hit file_rows digits
selected_lines = refl

-- with -z byte 0 ends lines, and a newline is a byte of its line
ends_with_zero : output (zeros 98) plain (file (codes "a\nb" ++ 0 ∷ codes "xyz" ++ 0 ∷ codes "b\n") ∷ [])
    ≡ codes "a\nb" ++ 0 ∷ codes "b\n" ++ 0 ∷ []
unfolding has_hit file_rows digits
ends_with_zero = refl

context_and_separator : output (query 109) (record plain { numbers = true; before = Some 1; after = Some 1 })
    (file (codes "a\nb\nm\nc\nd\ne\nm\n") ∷ []) ≡ codes "2-b\n3:m\n4-c\n--\n6-e\n7:m\n"
unfolding has_hit file_rows digits
context_and_separator = refl

context_joins : output (query 109) (record plain { numbers = true; before = Some 3 }) (file (codes "m\na\nb\nm\n") ∷ [])
    ≡ codes "1:m\n2-a\n3-b\n4:m\n"
unfolding has_hit file_rows digits
context_joins = refl

limit_then_context : output (query 109) (record plain { numbers = true; limit = Some 1; after = Some 2 })
    (file (codes "m\na\nm\nb\n") ∷ []) ≡ codes "1:m\n2-a\n3-m\n"
unfolding has_hit file_rows digits
limit_then_context = refl

counts : output (query 120) (record plain { names = true; mode = Count })
    (Read (codes "g") [] Ended ∷ Read (codes "f") (codes "x\n") Ended ∷ []) ≡ codes "f:1\ng:0\n"
unfolding has_hit file_rows digits
counts = refl

separator_between_files : output (query 109) (record plain { names = true; after = Some 0 })
    (Read (codes "g") (codes "m\n") Ended ∷ Read (codes "f") (codes "m\n") Ended ∷ []) ≡ codes "f:m\n--\ng:m\n"
unfolding has_hit file_rows digits
separator_between_files = refl

names_of_files : output (query 120) (record plain { names = true; mode = Names })
    (Read (codes "g") (codes "y\n") Ended ∷ Read (codes "f") (codes "y\nx\n") Ended ∷ []) ≡ codes "f\n"
unfolding has_hit file_rows digits
names_of_files = refl

names_of_other_files : output (query 120) (record plain { names = true; mode = Others })
    (Read (codes "g") (codes "y\n") Ended ∷ Read (codes "f") (codes "y\nx\n") Ended ∷ []) ≡ codes "g\n"
unfolding has_hit file_rows digits
names_of_other_files = refl

-- with -Z byte 0 follows the name
name_and_nul : output (query 120) (record plain { names = true; null = true; numbers = true })
    (file (codes "x\n") ∷ []) ≡ codes "f" ++ 0 ∷ codes "1:x\n"
unfolding has_hit file_rows digits
name_and_nul = refl

limited_count : output (query 120) (record plain { mode = Count; limit = Some 2 }) (file (codes "x\nx\nx\n") ∷ [])
    ≡ codes "2\n"
unfolding has_hit file_rows digits
limited_count = refl

limited_context : output (query 109) (record plain { limit = Some 1; before = Some 1; after = Some 1 })
    (file (codes "a\nm\nm\n") ∷ []) ≡ codes "a\nm\nm\n"
unfolding has_hit file_rows digits
limited_context = refl

matched_parts : output (parts 109) (record plain { numbers = true; parts = true; limit = Some 2 })
    (file (codes "m\nmm\nm\n") ∷ []) ≡ codes "1:m\n2:m\n2:m\n"
unfolding has_hit file_rows parts_from digits
matched_parts = refl

-- with -b the offset of a row's first byte stands behind its number: lines count with their terminators
offsets_and_numbers : output (query 109) (record plain { numbers = true; offsets = true })
    (file (codes "ab\nm\n\nxm") ∷ []) ≡ codes "2:3:m\n4:6:xm\n"
unfolding has_hit file_rows digits
offsets_and_numbers = refl

offsets_of_context : output (query 109) (record plain { offsets = true; before = Some 1; after = Some 1 })
    (file (codes "a\nbb\nm\nc\nd\ne\nm\n") ∷ []) ≡ codes "2-bb\n5:m\n7-c\n--\n11-e\n13:m\n"
unfolding has_hit file_rows digits
offsets_of_context = refl

-- and with -o that of the part
offsets_of_parts : output (parts 109) (record plain { offsets = true; parts = true })
    (file (codes "a\namm\nm\n") ∷ []) ≡ codes "3:m\n4:m\n6:m\n"
unfolding has_hit file_rows parts_from digits
offsets_of_parts = refl

-- also where other bytes end lines
offsets_with_zero : output (zeros 98) (record plain { names = true; offsets = true })
    (file (codes "a\n" ++ 0 ∷ codes "b" ++ 0 ∷ []) ∷ []) ≡ codes "f:3:b" ++ 0 ∷ []
unfolding has_hit file_rows digits
offsets_with_zero = refl

-- Rows in colors. ESC is 27.

-- a color's codes and its text, with what ends the color
abbrev shown_in : (code text : List ℕ) → List ℕ
shown_in code text = 27 ∷ codes "[" ++ code ++ codes "m" ++ 27 ∷ codes "[K" ++ text
    ++ 27 ∷ codes "[m" ++ 27 ∷ codes "[K"

colored_row : output (parts 109) (record plain { names = true; numbers = true; colored = true })
    (file (codes "amb\n") ∷ []) ≡ shown_in (codes "35") (codes "f") ++ shown_in (codes "36") (codes ":")
    ++ shown_in (codes "32") (codes "1") ++ shown_in (codes "36") (codes ":")
    ++ codes "a" ++ shown_in (codes "01;31") (codes "m") ++ codes "b\n"
unfolding has_hit file_rows parts_from digits
colored_row = refl

colored_part : output (parts 109) (record plain { parts = true; colored = true }) (file (codes "amb\n") ∷ [])
    ≡ shown_in (codes "01;31") (codes "m") ++ codes "\n"
unfolding has_hit file_rows parts_from digits
colored_part = refl

-- context is plain
colored_hyphens : output (parts 109) (record plain { after = Some 1; colored = true })
    (file (codes "m\na\nb\nm\n") ∷ []) ≡ shown_in (codes "01;31") (codes "m") ++ codes "\na\n"
    ++ shown_in (codes "36") (codes "--") ++ codes "\n" ++ shown_in (codes "01;31") (codes "m") ++ codes "\n"
unfolding has_hit file_rows parts_from digits
colored_hyphens = refl

missed_file : status (query 120) plain (Missed (codes "missing") ∷ file (codes "x\n") ∷ []) ≡ 2
unfolding has_hit
missed_file = refl

quiet_with_missed_file : status (query 120) (record plain { mode = Quiet })
    (Missed (codes "missing") ∷ file (codes "x\n") ∷ []) ≡ 0
unfolding has_hit
quiet_with_missed_file = refl

-- no line, no row; -c counts it
empty_file : output (query 120) plain (file [] ∷ []) ≡ []
unfolding has_hit file_rows digits
empty_file = refl

empty_count : output (query 120) (record plain { mode = Count }) (file [] ∷ []) ≡ codes "0\n"
unfolding has_hit file_rows digits
empty_count = refl

empty_status : status (query 120) plain (file [] ∷ []) ≡ 1
unfolding has_hit
empty_status = refl

-- -q writes nothing
quiet_file : output (query 120) (record plain { mode = Quiet }) (file (codes "x\n") ∷ []) ≡ []
unfolding has_hit file_rows digits
quiet_file = refl

-- a missed name gives no row
missed_row : output (query 120) (record plain { names = true }) (Missed (codes "missing") ∷ file (codes "x\n") ∷ [])
    ≡ codes "f:x\n"
unfolding has_hit file_rows digits
missed_row = refl

-- Results arrive in any order: what is handed out is what stands before the first missing block.

abbrev block : ℕ → List ℕ → BlockData
block number bytes = record { file = 0; number = number; bytes = bytes }

abbrev result : ℕ → ℕ → List ℕ → SearchedBlock
result b number bytes = record { query = text_of b; block = block number bytes }

abbrev announced_three : List Event
announced_three =
    Planned (Ends false) ∷ Planned (Announces (block 2 (codes "xc\n"))) ∷ Planned (Announces (block 1 (codes "xb\n")))
    ∷ Planned (Announces (block 0 (codes "xa\n"))) ∷ Planned (Opens (codes "f")) ∷ []

abbrev after_two : List Event
after_two = Arrived (result 120 2 (codes "xc\n")) ∷ announced_three

abbrev after_zero : List Event
after_zero = Arrived (result 120 0 (codes "xa\n")) ∷ after_two

first_missing : handed_after (query 120) plain after_two ≡ []
unfolding handed_after front_after has_hit file_rows digits same_text
first_missing = refl

up_to_missing : handed_after (query 120) plain after_zero ≡ codes "xa\n"
unfolding handed_after front_after has_hit file_rows digits same_text
up_to_missing = refl

arrives_again : answer_after (query 120) after_zero (result 120 0 (codes "xa\n")) ≡ Double
unfolding answer_after same_text
arrives_again = refl

other_query : answer_after (query 120) after_zero (result 98 1 (codes "xb\n")) ≡ Stranger
unfolding answer_after same_text
other_query = refl

other_bytes : answer_after (query 120) after_zero (result 120 1 (codes "xz\n")) ≡ Stranger
unfolding answer_after same_text
other_bytes = refl

last_one : answer_after (query 120) after_zero (result 120 1 (codes "xb\n")) ≡ Taken
unfolding answer_after same_text
last_one = refl

all_handed : handed_after (query 120) plain (Arrived (result 120 1 (codes "xb\n")) ∷ after_zero) ≡ codes "xa\nxb\nxc\n"
unfolding handed_after front_after has_hit file_rows digits same_text
all_handed = refl

-- four files that start a block apart, and behind them three that start two apart, are two entries
starts_of_seven : starts_by (record { start = 0; step = 1; first = 0 } ∷ record { start = 5; step = 2; first = 4 } ∷ [])
    7 ≡ 0 ∷ 1 ∷ 2 ∷ 3 ∷ 5 ∷ 7 ∷ 9 ∷ []
starts_of_seven = refl

starts_of_empty_files : starts_by (record { start = 3; step = 0; first = 0 } ∷ []) 3 ≡ 3 ∷ 3 ∷ 3 ∷ []
starts_of_empty_files = refl
