-- What a printer asks of a result, and what it promises to write of it.
use Rattle.std.specs.Prelude.{◌≡◌, ℕ, ◌+◌, ◌<◌, ◌^◌, List, length, IfOk, OnErr, Result}
use Rattle.pg_base.specs.Sink.{Stream, WritesText, WritesPart}
use Rattle.pg_selection.specs.Search.{Search, terminator, HasItsTrees}
use Rattle.pg_selection.specs.Searched.{SearchedBlock, lines_of}
use Rattle.pg_rows.specs.declared.format.Format.{Format}
use Rattle.pg_rows.specs.declared.printer.Printer.{Printer}
use Rattle.pg_rows.specs.declared.printer.PrintedBlock.{PrintedBlock}
use Rattle.pg_rows.specs.declared.printer.Place.{Place}
use Rattle.pg_rows.specs.Cursor.{Cursor}
use Rattle.pg_rows.specs.Window.{lines_held}
use Rattle.pg_rows.specs.Remembered.{IsAtCursor, IsRememberedBehind, ComesLast, behind_block, shown_rows}

-- The printer stands somewhere in the output of a query, the result is one of that query, and up to the end of its
-- block the file has fewer than 2^63 lines and bytes.
abbrev pub MayPrint : {A : Type 0} → Printer A → SearchedBlock → Type 0
MayPrint p found =
    (q : Search) × (format : Format) × (c : Cursor) × IsAtCursor p q format c × HasItsTrees q
    × (found.query ≡ q.text) × (c.trail.number + length (lines_of found) < 2 ^ 63)
    × (c.trail.offset + length found.block.bytes < 2 ^ 63)

-- the rows of the result's block are written
abbrev pub WritesResult : {A T E : Type 0} → Printer A → SearchedBlock → (before after : Stream) → Result T E → Type 0
WritesResult p found before after result =
    (q : Search) (format : Format) (c : Cursor) → IsAtCursor p q format c → HasItsTrees q → found.query ≡ q.text
    → WritesText (shown_rows q format c found.block.bytes) before after result

-- what is remembered behind a block with these bytes
abbrev pub IsRemembered : {A : Type 0} → Printer A → Search → Format → Cursor → List ℕ → PrintedBlock → Type 0
IsRemembered p q format c bytes printed = IsRememberedBehind p q format (behind_block q format c bytes) bytes printed

-- the answer is what is remembered behind the result's block
abbrev pub RemembersResult : {A E : Type 0} → Printer A → SearchedBlock → Result PrintedBlock E → Type 0
RemembersResult p found result =
    (q : Search) (format : Format) (c : Cursor) → IsAtCursor p q format c → HasItsTrees q → found.query ≡ q.text
    → IfOk result (λ printed. IsRemembered p q format c found.block.bytes printed)

-- the rows up to the last line of the block that is kept are written, and the answer is the place behind that line
abbrev pub ComesToLast : {A E : Type 0} → Printer A → SearchedBlock → (before after : Stream) → Result Place E → Type 0
ComesToLast p found before after result =
    (q : Search) (format : Format) (c : Cursor) → IsAtCursor p q format c → HasItsTrees q → found.query ≡ q.text
    → IfOk result
    (λ place. ComesLast q format c (lines_held (terminator q) p.window) found.block.bytes before after p.progress place)

-- where a write fails, a beginning of the block's rows is written
abbrev pub StopsWithin : {A T E : Type 0} → Printer A → SearchedBlock → (before after : Stream) → Result T E → Type 0
StopsWithin p found before after result =
    (q : Search) (format : Format) (c : Cursor) → IsAtCursor p q format c → HasItsTrees q → found.query ≡ q.text
    → OnErr result (WritesPart (shown_rows q format c found.block.bytes) before after)
