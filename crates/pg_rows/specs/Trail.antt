-- A file's rows line by line: what is remembered of the lines so far, and the rows that the next line adds.
use Rattle.std.specs.Prelude.{ℕ, ◌+◌, ◌-◌, nat_lt, nat_le, Bool, true, false, ◌&&◌, ◌||◌, if◌then◌else◌, List, [], ◌∷◌}
use Rattle.std.specs.Prelude.{◌++◌, length, slice_range}
use Rattle.std.specs.List.{fold, flat_map}
use Rattle.circular_buffer.specs.Buffer.{keep_last}
use Rattle.pg_selection.specs.Search.{Search, terminator}
use Rattle.pg_selection.specs.Selection.{selects}
use Rattle.pg_rows.specs.Marks.{colon, hyphen}
use Rattle.pg_rows.specs.declared.format.Format.{Format}
use Rattle.pg_rows.specs.Output.{is_below, context, bytes_in, when, row, gap_text, has_separators}
use Rattle.pg_rows.specs.Output.{part_text, told_parts, painted}

-- what is remembered of the lines so far: their number, their bytes with the terminators, how many are kept, how many
-- more are shown as context, whether one was shown, and of those behind the last shown one the last `before` ones and
-- whether there are more
pub record Trail : Type 0 where
  pub number : ℕ
  pub offset : ℕ
  pub kept : ℕ
  pub countdown : ℕ
  pub some : Bool
  pub skipped : Bool
  pub window : List (List ℕ)

abbrev pub no_lines : Trail
no_lines = record {
  number = 0;
  offset = 0;
  kept = 0;
  countdown = 0;
  some = false;
  skipped = false;
  window = [];
}

-- the next line is kept
abbrev pub keeps : Format → Trail → Bool → Bool
keeps format t selected = selected && is_below t.kept format.limit

abbrev pub after_kept : Format → Trail → Trail
after_kept format t = record {
  number = t.number + 1;
  offset = t.offset;
  kept = t.kept + 1;
  countdown = context format.after;
  some = true;
  skipped = false;
  window = [];
}

abbrev pub after_context : Trail → Trail
after_context t = record t { number = t.number + 1; countdown = t.countdown - 1 }

abbrev pub after_other : Format → Trail → List ℕ → Trail
after_other format t l =
    record t {
      number = t.number + 1;
      skipped = t.skipped || nat_le (context format.before) (length t.window);
      window = keep_last (context format.before) (t.window ++ l ∷ []);
    }

-- what is remembered of a file's lines, at another offset
abbrev pub with_offset : ℕ → Trail → Trail
with_offset at t = record t { offset = at }

-- one more line
abbrev pub step : Format → Trail → Bool → List ℕ → Trail
step format t selected l =
    with_offset (t.offset + (length l + 1)) (if keeps format t selected then after_kept format t
    else (if nat_lt 0 t.countdown then after_context t else after_other format t l))

-- more lines
abbrev pub run : Search → Format → Trail → List (List ℕ) → Trail
run q format t ls = fold (λ u l. step format u (selects q l) l) t ls

abbrev pub trail_of : Search → Format → List (List ℕ) → Trail
trail_of q format ls = run q format no_lines ls

-- a separator stands before the window and the kept line behind it, where they don't follow a shown line
abbrev pub gap_row : Format → ℕ → Bool → Trail → List ℕ
gap_row format end earlier t = when (has_separators format && (if t.some then t.skipped else earlier))
    (gap_text format end)

-- the rows of context, from a line with this number and offset on
abbrev pub context_rows : Format → ℕ → List ℕ → (number offset : ℕ) → List (List ℕ) → List ℕ
context_rows format end name number offset [] = []
context_rows format end name number offset (l ∷ ls) =
    row format end name number offset hyphen l
    ++ context_rows format end name (number + 1) (offset + (length l + 1)) ls

-- the rows that a kept line with this text adds: the window's and its own
abbrev pub kept_rows : Format → ℕ → List ℕ → Bool → Trail → List ℕ → List ℕ
kept_rows format end name earlier t text =
    gap_row format end earlier t
    ++ (context_rows format end name ((t.number + 1) - length t.window) (t.offset - bytes_in t.window) t.window
    ++ row format end name (t.number + 1) t.offset colon text)

-- what a line adds, which has this text where it is kept
abbrev pub added_by_line : Format → ℕ → List ℕ → Bool → Trail → Bool → (text l : List ℕ) → List ℕ
added_by_line format end name earlier t selected text l =
    if keeps format t selected
    then kept_rows format end name earlier t text
    else (when (nat_lt 0 t.countdown) (row format end name (t.number + 1) t.offset hyphen l))

-- the rows that many lines add
abbrev pub run_rows : Search → Format → List ℕ → Bool → Trail → List (List ℕ) → List ℕ
run_rows q format name earlier t [] = []
run_rows q format name earlier t (l ∷ ls) =
    added_by_line format (terminator q) name earlier t (selects q l) (painted q format l) l
    ++ run_rows q format name earlier (step format t (selects q l) l) ls

-- the rows of the matched parts of a line that is kept, with this number and offset
abbrev pub pieces_in : Search → Format → List ℕ → (number offset : ℕ) → List ℕ → List ℕ
pieces_in q format name number offset l =
    flat_map (λ p. row format (terminator q) name number (offset + p.0) colon
    (part_text format (slice_range l p.0 p.1)))
    (told_parts q l)

abbrev pub added_pieces : Search → Format → List ℕ → Trail → List ℕ → List ℕ
added_pieces q format name t l = when (keeps format t (selects q l)) (pieces_in q format name (t.number + 1) t.offset l)

abbrev pub run_pieces : Search → Format → List ℕ → Trail → List (List ℕ) → List ℕ
run_pieces q format name t [] = []
run_pieces q format name t (l ∷ ls) =
    added_pieces q format name t l ++ run_pieces q format name (step format t (selects q l) l) ls
