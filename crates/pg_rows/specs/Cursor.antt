-- Where the rows of a run stand: what is remembered of what was written, and what a block and a file's end add.
use Rattle.std.specs.Prelude.{ℕ, nat_lt, Bool, false, if◌then◌else◌, List, []}
use Rattle.pg_selection.specs.Search.{Search, terminator}
use Rattle.pg_blocks.specs.Lines.{lines}
use Rattle.pg_rows.specs.declared.format.Format.{Format}
use Rattle.pg_rows.specs.Modes.{is_named}
use Rattle.pg_rows.specs.Output.{count_text, listed_text, when}
use Rattle.pg_rows.specs.Trail.{Trail, no_lines, trail_of, run_rows, run_pieces}

-- whether the run had a row before the file, the file's name, and what is remembered of its lines
pub record Cursor : Type 0 where
  pub earlier : Bool
  pub name : List ℕ
  pub trail : Trail

abbrev pub at_start : Cursor
at_start = record { earlier = false; name = []; trail = no_lines }

-- behind the first lines of a file
abbrev pub cursor_after : Search → Format → List ℕ → Bool → List (List ℕ) → Cursor
cursor_after q format name earlier ls = record { earlier = earlier; name = name; trail = trail_of q format ls }

-- the rows of a block
abbrev pub block_rows : Search → Format → Cursor → List ℕ → List ℕ
block_rows q format c bytes =
    let ls = lines (terminator q) bytes in
    if format.parts then run_pieces q format c.name c.trail ls else run_rows q format c.name c.earlier c.trail ls

-- the rows at a file's end
abbrev pub counted : Format → Cursor → List ℕ
counted format c = count_text format c.name c.trail.kept

abbrev pub named : Format → Cursor → List ℕ
named format c = when (is_named format.mode (nat_lt 0 c.trail.kept)) (listed_text format c.name)
