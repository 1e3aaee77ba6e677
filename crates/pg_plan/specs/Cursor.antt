-- Where a sequencer stands in the output of a plan, step by step.
use Rattle.std.specs.Prelude.{◌||◌, List, [], ◌∷◌}
use Rattle.pg_selection.specs.Search.{Search, terminator}
use Rattle.pg_blocks.specs.Lines.{lines}
use Rattle.pg_rows.specs.declared.format.Format.{Format}
use Rattle.pg_rows.specs.Trail.{no_lines, run}
pub use Rattle.pg_rows.specs.Cursor.{Cursor, at_start, block_rows, counted, named}
use Rattle.pg_plan.specs.Plan.{Step, Opens, Announces, Ends, Misses}

-- where the cursor stands behind one more step
abbrev pub moved : Search → Format → Cursor → Step → Cursor
moved q format c (Opens name) = record { earlier = c.earlier || c.trail.some; name = name; trail = no_lines }
moved q format c (Announces b) = record c { trail = run q format c.trail (lines (terminator q) b.bytes) }
moved q format c (Ends failed) = c
moved q format c (Misses name) = c

-- where a sequencer stands after a plan, the newest step first
abbrev pub cursor_of : Search → Format → List Step → Cursor
cursor_of q format [] = at_start
cursor_of q format (step ∷ plan) = moved q format (cursor_of q format plan) step
