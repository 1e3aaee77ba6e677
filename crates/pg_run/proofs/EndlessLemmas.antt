-- Where there is no limit and each selected line counts, nothing is ever enough.
use Rattle.std.proofs.Common.{◌≡◌, ◌∙◌, ℕ, Bool, true, false, not, ◌&&◌, cond, Option, Some, None, is_some, List, []}
use Rattle.std.proofs.Common.{◌∷◌}
use Rattle.std.proofs.Common.{refl, ap}
use Rattle.std.specs.List.{count_by, list_any}
use Rattle.std.proofs.lemmas.Bool.{false≢true, and_parts, not-true}
use Rattle.pg_selection.specs.Search.{Search, terminator}
use Rattle.pg_blocks.specs.Lines.{lines}
use Rattle.pg_selection.specs.Selection.{selects}
use Rattle.pg_rows.specs.Enough.{is_full, is_trailed, lines_suffice, file_suffices, is_enough}
use Rattle.pg_rows.specs.Modes.{is_quiet, shows_rows, settles_at_first}
use Rattle.pg_base.specs.Entries.{Entry, Missed, Read, is_running}
use Rattle.pg_rows.specs.Output.{is_below, has_selected}
use Rattle.pg_rows.specs.declared.format.Format.{Format}
use Rattle.pg_rows.specs.declared.format.Mode.{Mode}
use Rattle.pg_rows.proofs.ModeLemmas.{settles_late_aloud}
use Rattle.pg_run.specs.Endless.{is_endless}
use Rattle.std.proofs.Math.Bool.{and-false}

no_limit : (limit : Option ℕ) → not (is_some limit) ≡ true → limit ≡ None
no_limit None e = refl
no_limit (Some n) e = absurd (false≢true e)

not_quiet : (m : Mode) → settles_at_first m ≡ false → (x y : Bool) → cond (is_quiet m) x y ≡ y
not_quiet m e x y = ap (λ quiet. cond quiet x y) (settles_late_aloud m e)

never_full : (q : Search) (format : Format) (ls : List (List ℕ)) → format.limit ≡ None → is_full q format ls ≡ false
never_full q format ls e = ap (λ limit. not (is_below (count_by (selects q) ls) limit)) e

lines_go_on : (m : Mode) (q : Search) (format : Format) (ls : List (List ℕ)) → settles_at_first m ≡ false
    → is_full q format ls ≡ false → lines_suffice m q format ls ≡ false
lines_go_on m q format ls late e =
    let full = is_full q format ls in
    let trailed = is_trailed q format ls in
    ap (λ first. cond first (list_any (selects q) ls) (cond (shows_rows m) (full && not trailed) full)) late
    ∙ go (shows_rows m) full trailed e
  where
    go : (shown full trailed : Bool) → full ≡ false → cond shown (full && not trailed) full ≡ false
    go true full trailed e = ap (λ t. t && not trailed) e
    go false full trailed e = e

file_goes_on : (q : Search) (format : Format) (entries : List Entry) → settles_at_first format.mode ≡ false
    → format.limit ≡ None → file_suffices q format entries ≡ false
file_goes_on q format [] c e = refl
file_goes_on q format (Missed name ∷ entries) c e = refl
file_goes_on q format (Read name bytes ending ∷ entries) c e =
    let ls = lines (terminator q) bytes in
    ap (λ t. is_running ending && t) (lines_go_on format.mode q format ls c (never_full q format ls e))
    ∙ and-false (is_running ending)

pub never_enough : (q : Search) (format : Format) (entries : List Entry) → is_endless format ≡ true
    → is_enough q format entries ≡ false
never_enough q format entries e =
    let p = and_parts (not (is_some format.limit)) (not (settles_at_first format.mode)) e in
    let late = not-true (settles_at_first format.mode) p.1 in
    not_quiet format.mode late (list_any (has_selected q) entries) (file_suffices q format entries)
    ∙ file_goes_on q format entries late (no_limit format.limit p.0)
