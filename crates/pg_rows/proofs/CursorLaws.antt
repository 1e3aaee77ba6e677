-- The rows of a file are those that its lines add one after the other.
use Rattle.std.proofs.Common.{◌≡◌, ℕ, Bool, true, false, cond, List, [], ◌++◌, refl, sym, ap, ◌∙◌}
use Rattle.pg_selection.specs.Search.{Search, terminator}
use Rattle.pg_blocks.specs.Lines.{AreWhole, lines}
use Rattle.pg_blocks.proofs.LineLemmas.{lines-append}
use Rattle.pg_rows.specs.declared.format.Format.{Format}
use Rattle.pg_rows.specs.declared.format.Mode.{Mode}
use Rattle.pg_rows.specs.Modes.{rows_in}
use Rattle.pg_rows.specs.Output.{HasRoom, file_rows, when, line_rows, part_rows, count_row, name_row}
use Rattle.pg_rows.specs.Trail.{trail_of, run_rows, run_pieces}
use Rattle.pg_rows.specs.Cursor.{block_rows, counted, cursor_after, named}
use Rattle.pg_rows.specs.Enough.{lines_suffice, trail_suffices}
use Rattle.pg_rows.proofs.FoldLemmas.{trail_is, rows_more, pieces_more, count_by_trail, name_by_trail}
use Rattle.pg_rows.proofs.EnoughLemmas.{suffice_by}

module _ (q : Search) (format : Format) (name : List ℕ) (earlier : Bool) where
  -- the rows of lines, with the matched parts or without
  abbrev part : Bool → List (List ℕ) → List ℕ
  part pieces ls = cond pieces (part_rows q format name ls) (line_rows q format name ls earlier)

  -- the rows of lines behind others
  abbrev part_behind : Bool → List (List ℕ) → List (List ℕ) → List ℕ
  part_behind pieces ls ms = cond pieces (run_pieces q format name (trail_of q format ls) ms)
      (run_rows q format name earlier (trail_of q format ls) ms)

  part_more : (pieces : Bool) (ls ms : List (List ℕ))
      → part pieces (ls ++ ms) ≡ part pieces ls ++ part_behind pieces ls ms
  part_more true ls ms = pieces_more q format name ls ms (trail_of q format ls) (trail_is q format ls)
  part_more false ls ms = rows_more q format name earlier ls ms (trail_of q format ls) (trail_is q format ls)

  part_none : (pieces : Bool) → part pieces [] ≡ []
  part_none true = refl
  part_none false = refl

  part_whole : (pieces : Bool) (ms : List (List ℕ)) → part pieces ms ≡ part_behind pieces [] ms
  part_whole pieces ms = part_more pieces [] ms ∙ ap (λ xs. xs ++ part_behind pieces [] ms) (part_none pieces)

  pub file_by_lines : (bytes : List ℕ) (ended : Bool) → HasRoom format
      → file_rows q format name bytes ended earlier ≡ rows_in format.mode
      (block_rows q format (cursor_after q format name earlier []) bytes)
      (when ended (counted format (cursor_after q format name earlier (lines (terminator q) bytes))))
      (when ended (named format (cursor_after q format name earlier (lines (terminator q) bytes))))
  unfolding file_rows
  file_by_lines bytes ended room =
      let ls = lines (terminator q) bytes in
      let c = cursor_after q format name earlier ls in
      let count = when ended (count_row q format name ls) in
      let row = when ended (name_row q format name ls) in
      ap (λ xs. rows_in format.mode xs count row) (part_whole format.parts ls)
      ∙ (ap (λ xs. rows_in format.mode (part_behind format.parts [] ls) (when ended xs) row)
      (count_by_trail q format name ls c.trail (trail_is q format ls))
      ∙ ap (λ xs. rows_in format.mode (part_behind format.parts [] ls) (when ended (counted format c)) (when ended xs))
      (name_by_trail q format name ls c.trail room (trail_is q format ls)))

  pub blocks_join : (front bytes : List ℕ) → AreWhole (terminator q) front
      → block_rows q format (cursor_after q format name earlier []) (front ++ bytes)
      ≡ block_rows q format (cursor_after q format name earlier []) front ++ block_rows q format
      (cursor_after q format name earlier (lines (terminator q) front)) bytes
  blocks_join front bytes whole =
      let ls = lines (terminator q) front in
      let ms = lines (terminator q) bytes in
      let pieces = format.parts in
      ap (part_behind pieces []) (lines-append (terminator q) front bytes whole)
      ∙ (sym (part_whole pieces (ls ++ ms))
      ∙ (part_more pieces ls ms ∙ ap (λ xs. xs ++ part_behind pieces ls ms) (part_whole pieces ls)))

pub trail_tells : (q : Search) (format : Format) (mode : Mode) (ls : List (List ℕ)) → HasRoom format
    → trail_suffices mode format (trail_of q format ls) ≡ lines_suffice mode q format ls
trail_tells q format mode ls room = sym (suffice_by q format room mode ls (trail_of q format ls) (trail_is q format ls))
