-- Whether enough was read, by what is remembered of the open file.
use Rattle.std.proofs.Common.{◌≡◌, Bool, true, false, ◌&&◌, List, [], ◌∷◌}
use Rattle.std.proofs.Common.{refl, sym, ap, ◌∙◌}
use Rattle.std.proofs.lemmas.Bool.{false≢true}
use Rattle.pg_selection.specs.Search.{Search, terminator}
use Rattle.pg_blocks.specs.Lines.{lines}
use Rattle.pg_rows.specs.declared.format.Format.{Format}
use Rattle.pg_base.specs.Entries.{Entry, Missed, Read}
use Rattle.pg_rows.specs.Output.{HasRoom}
use Rattle.pg_rows.specs.Enough.{file_suffices, trail_suffices}
use Rattle.pg_rows.proofs.EnoughLemmas.{suffice_by}
use Rattle.pg_plan.specs.Plan.{Step, Opens, Announces, Ends, Misses, IsShaped, is_open, entries_of, with_end}
use Rattle.pg_plan.specs.Cursor.{cursor_of}
use Rattle.pg_plan.proofs.CursorLemmas.{cursor_is}

module _ (q : Search) (format : Format) (room : HasRoom format) where
  -- while no file is open, no file's lines suffice
  closed_entries : (steps : List Step) → is_open steps ≡ false → IsShaped (terminator q) steps
      → file_suffices q format (entries_of steps) ≡ false
  closed_entries [] e h = refl
  closed_entries (Opens name ∷ steps) e h = absurd (false≢true (sym e))
  closed_entries (Announces b ∷ steps) e h = absurd (false≢true (sym e ∙ h.0.running))
  closed_entries (Ends failed ∷ steps) e h = ended failed (entries_of steps)
    where
      ended : (failed : Bool) (es : List Entry) → file_suffices q format (with_end failed es) ≡ false
      ended failed [] = refl
      ended failed (Missed name ∷ es) = refl
      ended true (Read name bytes ending ∷ es) = refl
      ended false (Read name bytes ending ∷ es) = refl
  closed_entries (Misses name ∷ steps) e h = refl

  -- while one is, they suffice where what is remembered of them says so
  pub suffices_by_cursor : (p : List Step) → IsShaped (terminator q) p → file_suffices q format (entries_of p)
      ≡ (is_open p && trail_suffices format.mode format (cursor_of q format p).trail)
  suffices_by_cursor p h = go (is_open p) refl
    where
      go : (b : Bool) → is_open p ≡ b → file_suffices q format (entries_of p)
          ≡ (b && trail_suffices format.mode format (cursor_of q format p).trail)
      go false e = closed_entries p e h
      go true e =
          let f = (cursor_is q format room p h).file e in
          ap (file_suffices q format) f.entries
          ∙ suffice_by q format room format.mode (lines (terminator q) f.bytes) (cursor_of q format p).trail f.trail
