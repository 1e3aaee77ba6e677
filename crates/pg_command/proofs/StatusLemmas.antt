-- A status is 0, 1 or 2.
use Rattle.std.proofs.Common.{◌≤◌, Bool, true, false, List, if◌then◌else◌, ◌&&◌, ℕ, arith, subst, sym}
use Rattle.std.specs.List.{list_any}
use Rattle.pg_selection.specs.Search.{Search}
use Rattle.pg_rows.specs.declared.format.Format.{Format}
use Rattle.pg_rows.specs.Modes.{is_quiet}
use Rattle.pg_base.specs.Entries.{Entry}
use Rattle.pg_rows.specs.Output.{status, has_selected, is_bad}
use Rattle.pg_files.specs.Given.{FilesPast, entries_given}
use Rattle.pg_base.specs.Sink.{Stream}
use Rattle.pg_run.specs.Outcome.{RunFinishes}
use Rattle.pg_run.specs.declared.setup.Setup.{Setup}

chosen : (a b c : Bool) → (if a then 0 else (if b then 2 else (if c then 0 else 1))) ≤ 2
chosen true b c = omega arith
chosen false true c = omega arith
chosen false false true = omega arith
chosen false false false = omega arith

status_small : (q : Search) (format : Format) (entries : List Entry) → status q format entries ≤ 2
status_small q format entries =
    chosen (is_quiet format.mode && list_any (has_selected q) entries) (list_any is_bad entries)
    (list_any (has_selected q) entries)

pub finishes_small : {q : Search} {setup : Setup} {finds : List (List ℕ) → Type 0} {past : FilesPast}
    {out out' told told' : Stream} {answer : ℕ} → RunFinishes q setup finds past out out' told told' answer → answer ≤ 2
finishes_small {q} {setup} {finds} {past} done =
    subst (λ n. n ≤ 2) (sym done.answered) (status_small q setup.format (entries_given past.given))
