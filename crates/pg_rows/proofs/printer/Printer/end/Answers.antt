use Rattle.std.proofs.Common.{◌≡◌, ℕ, List, ◌∷◌, [], ◌++◌, nat_lt, sym, ap, ◌∙◌}
use Rattle.std.specs.Fmt.{decimal}
use Rattle.pg_selection.specs.Search.{Search}
use Rattle.pg_rows.specs.declared.format.EndRow.{EndRow}
use Rattle.pg_rows.specs.declared.format.EndRow.TheVariants.{None as NoRow, Count as CountRow, Name as NameRow}
use Rattle.pg_rows.specs.declared.format.Format.{Format}
use Rattle.pg_rows.specs.declared.printer.Printer.{Printer}
use Rattle.pg_rows.specs.Cursor.{Cursor, counted, named}
use Rattle.pg_rows.specs.Modes.{chosen, is_named, row_at_end}
use Rattle.pg_rows.specs.Output.{name_end, name_mark, name_text, when}
use Rattle.pg_rows.specs.Remembered.{end_rows, IsAtCursor}
use Rattle.pg_base.proofs.WriteLemmas.{wrote_none}
use Rattle.pg_rows.proofs.ModeLemmas.{end_adds}
use Rattle.pg_rows.proofs.printer.Printer.end.Goals as goal

-- the text of one of the rows that tell a file's count and its name
abbrev end_text : EndRow → Format → List ℕ → ℕ → List ℕ
end_text row format name kept =
    chosen row (when format.names (name_text format name ++ name_end format 58) ++ decimal kept ++ 10 ∷ [])
    (when (is_named format.mode (nat_lt 0 kept)) (name_text format name ++ name_mark format 10 ∷ []))

-- the text of the row that the mode asks for is what the file's end adds
end_is : {A : Type 0} (s : Printer A) (row : EndRow) → row ≡ row_at_end s.format.mode → (q : Search) (format : Format)
    (c : Cursor) → IsAtCursor s q format c → end_text row s.format s.prefix s.progress.kept ≡ end_rows format c
end_is s row is q format c r =
    ap (λ f. end_text row f s.prefix s.progress.kept) r.format_is
    ∙ (ap (λ n. end_text row format n s.progress.kept) r.name_is
    ∙ (ap (end_text row format c.name) r.told.kept
    ∙ (ap (λ e. end_text e format c.name c.trail.kept) (is ∙ ap (λ f. row_at_end f.mode) r.format_is)
    ∙ sym (end_adds format.mode (counted format c) (named format c)))))

pub returns-in-Count : goal.returns-in-Count
returns-in-Count g c =
    let s = c.args.self.now in (
      end_text CountRow s.format s.prefix s.progress.kept,
      c.write_count.ensures,
      end_is s CountRow (sym c.in-Count.is ∙ c.row_at_end.ensures),
    )

pub returns-in-Name : goal.returns-in-Name
returns-in-Name g c =
    let s = c.args.self.now in (
      end_text NameRow s.format s.prefix s.progress.kept,
      c.write_listed_name.ensures,
      end_is s NameRow (sym c.in-Name.is ∙ c.row_at_end.ensures),
    )

pub returns-in-None : goal.returns-in-None
returns-in-None g c = (
  [],
  record { ok = wrote_none (g.W.Sink.stream c.args.out.now); err = tt },
  end_is c.args.self.now NoRow (sym c.in-None.is ∙ c.row_at_end.ensures),
)
