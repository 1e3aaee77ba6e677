-- What whole stretches of lines leave remembered, and their rows.
use Rattle.std.specs.Prelude.{◌≡◌, ℕ, ◌+◌, ◌^◌, ◌<◌, ◌≤◌, nat_lt, Bool, false, List, [], ◌∷◌, ◌++◌}
use Rattle.std.specs.Prelude.{length, not, slice_index_or, slice_range, Vec, vec_len, vec_capacity}
use Rattle.std.specs.List.{AllByRecursion, flat_map, filter}
use Rattle.std.specs.Fmt.{decimal}
use Rattle.pg_selection.specs.Search.{Search}
use Rattle.pg_selection.specs.Selection.{selects}
use Rattle.pg_selection.specs.declared.run.Part.{Part}
use Rattle.pg_rows.specs.Marks.{colon}
use Rattle.pg_rows.specs.declared.format.Format.{Format}
use Rattle.pg_rows.specs.declared.position.Position.{Position}
use Rattle.pg_rows.specs.Output.{marked_name, name_mark, number_text, part_text, is_nothing, when, row}
use Rattle.pg_rows.specs.Output.{tab_before}
use Rattle.pg_rows.specs.Trail.{Trail, keeps}

-- a line as it is
abbrev pub plain : List ℕ → List ℕ
plain l = l

-- rows with a mark, of lines with these texts, from a line with this number and offset on
abbrev pub marked_rows : Format → ℕ → List ℕ → (mark : ℕ) → (text : List ℕ → List ℕ) → (number offset : ℕ)
    → List (List ℕ) → List ℕ
marked_rows format end name mark text number offset [] = []
marked_rows format end name mark text number offset (l ∷ ls) =
    row format end name number offset mark (text l)
    ++ marked_rows format end name mark text (number + 1) (offset + (length l + 1)) ls

-- rows with a mark, of lines as they are, the first of which stands at this position
abbrev pub plain_rows : Format → ℕ → List ℕ → (mark : ℕ) → Position → List (List ℕ) → List ℕ
plain_rows format end name mark first ls = marked_rows format end name mark plain first.number first.offset ls

-- the row of a text that stands at this position
abbrev pub row_at : Format → ℕ → List ℕ → Position → (mark : ℕ) → List ℕ → List ℕ
row_at format end name at mark text = row format end name at.number at.offset mark text

-- from this position on the numbers of so many lines and the offsets of so many bytes are below 2^64
pub record CanNumber (first : Position) (count size : ℕ) : Type 0 where
  pub small : first.number + count < 2 ^ 64
  pub placed : first.offset + size < 2 ^ 64

-- each of the lines is selected, or none is
abbrev pub AllSelected : Search → Bool → List (List ℕ) → Type 0
AllSelected q selected ls = AllByRecursion (λ l. selects q l ≡ selected) ls

-- none of the lines is kept behind what is remembered
abbrev pub AreUnkept : Search → Format → Trail → List (List ℕ) → Type 0
AreUnkept q format t ls = AllByRecursion (λ l. keeps format t (selects q l) ≡ false) ls

-- what a row has before its text, where it has a text or not
abbrev pub prefix_text : Format → List ℕ → (number offset mark : ℕ) → Bool → List ℕ
prefix_text format name number offset mark has_text =
    when format.names (marked_name format name mark)
    ++ when format.numbers (number_text format mark number)
    ++ when format.offsets (number_text format mark offset)
    ++ tab_before format has_text

-- what a row without colors has before its text, where it has a text or not
abbrev pub plain_prefix_text : Format → List ℕ → (number offset mark : ℕ) → Bool → List ℕ
plain_prefix_text format name number offset mark has_text =
    when format.names (name ++ name_mark format mark ∷ []) ++ when format.numbers (decimal number ++ mark ∷ [])
    ++ when format.offsets (decimal offset ++ mark ∷ [])
    ++ tab_before format has_text

-- what follows the name in a row without colors
abbrev pub marks_text : Format → Position → (mark : ℕ) → Bool → List ℕ
marks_text format at mark has_text =
    when format.names (name_mark format mark ∷ []) ++ when format.numbers (decimal at.number ++ mark ∷ [])
    ++ when format.offsets (decimal at.offset ++ mark ∷ [])
    ++ tab_before format has_text

-- a text of at most so many bytes was put behind what a buffer had, which gave up no room
pub record Appends {A : Type 0} (old new : Vec ℕ A) (text : List ℕ) (most : ℕ) : Type 0 where
  pub items : new.items ≡ old.items ++ text
  pub low : vec_len old ≤ vec_len new
  pub high : vec_len new ≤ vec_len old + most
  pub capacity : vec_capacity old ≤ vec_capacity new

-- the first of some lines isn't empty
abbrev pub has_text : List (List ℕ) → Bool
has_text ls = not (is_nothing (slice_index_or ls 0 []))

-- the row of a part of some bytes, whose first line has this number and offset
abbrev pub part_row : Format → ℕ → List ℕ → (number offset : ℕ) → List ℕ → Part → List ℕ
part_row format end name number offset bytes part =
    row format end name (number + part.line) (offset + part.span.start) colon
    (part_text format (slice_range bytes part.span.start part.span.end))

-- The row of a part of some bytes, whose first line stands at this position, if the part stands in the first `cut`
-- lines.
abbrev pub part_row_within : Format → ℕ → List ℕ → Position → ℕ → List ℕ → Part → List ℕ
part_row_within format end name first cut bytes part =
    when (nat_lt part.line cut) (part_row format end name first.number first.offset bytes part)

-- the rows of the parts that stand in the first `cut` lines
abbrev pub rows_of_parts : Format → ℕ → List ℕ → (number offset : ℕ) → ℕ → List ℕ → List Part → List ℕ
rows_of_parts format end name number offset cut bytes parts =
    flat_map (part_row format end name number offset bytes) (filter (λ part. nat_lt part.line cut) parts)

-- the span of the part is one of the bytes
abbrev pub IsPartOf : List ℕ → Part → Type 0
IsPartOf bytes part = (part.span.start ≤ part.span.end) × (part.span.end ≤ length bytes)

abbrev pub no_part : Part
no_part = record { line = 0; span = record { start = 0; end = 0 } }
