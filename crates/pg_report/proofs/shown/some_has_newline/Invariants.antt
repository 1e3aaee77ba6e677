use Rattle.std.proofs.Common.{◌≡◌, drop}
use Rattle.std.specs.List.{list_any}
use Rattle.pg_grammar.specs.Slices.{bytes_of}
use Rattle.pg_report.specs.Shown.{has_newline}
use Rattle.pg_report.proofs.shown.some_has_newline.Given as goal

abbrev pub invariant-loop-text : goal.invariant-loop-text
invariant-loop-text l =
    list_any has_newline (bytes_of (drop l.text-index l.texts)) ≡ list_any has_newline (bytes_of l.texts)
