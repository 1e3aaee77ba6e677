-- Formats by which a run reads to the end of its files.
use Rattle.std.specs.Prelude.{Bool, not, ◌&&◌, is_some}
use Rattle.pg_rows.specs.declared.format.Format.{Format}
use Rattle.pg_rows.specs.Modes.{settles_at_first}

-- nothing that was read is ever enough: there is no limit, and each selected line counts
abbrev pub is_endless : Format → Bool
is_endless format = not (is_some format.limit) && not (settles_at_first format.mode)
