use Rattle.std.proofs.Common.{codes}
use Rattle.pg_report.proofs.ShownLemmas.{parts_join}
use Rattle.pg_report.proofs.telling.shown_parts.Goals as goal

pub returns : goal.returns
returns c =
    rw (
      c.as_bytes.ensures.value,
      c.as_bytes-2.ensures.value,
      c.as_bytes-3.ensures.value,
      c.as_bytes-4.ensures.value,
      c.as_bytes-5.ensures.value,
    ) (parts_join (codes "pargrep: pattern ") _ (codes ": ") _ (codes " at ") _ (codes "\n") (codes "pargrep:   ") _
    (codes "\npargrep:   ") _ (codes "^\n") _)
