use Rattle.std.proofs.Common.{sym, ◌∙◌, arith}
use Rattle.std.proofs.lemmas.Bool.{false≢true}
use Rattle.pg_strings.specs.Outcomes.{strings_of}
use Rattle.pg_prefilter.proofs.StandingLemmas.{are_some, hit_is_whole}
use Rattle.pg_prefilter.proofs.strings.whole_line.Goals as goal
use Rattle.pg_prefilter.proofs.strings.whole_line.Goals.{else-from-eq0-via-then-from-eq0+else-contains}
use Rattle.pg_prefilter.proofs.strings.whole_line.Goals.{else-from-eq0-via-else-from-eq0}

pub returns-else-from-eq0 : goal.returns-else-from-eq0
returns-else-from-eq0 g c = λ i j low hit.
    let set = c.args.set.now in
    let whole = hit_is_whole (strings_of set) c.args.line.now (are_some set) i j hit in
    elim c.else-from-eq0.branch [
      | else-from-eq0-via-then-from-eq0+else-contains w ↦
          false≢true (sym w.if-contains.false ∙ w.contains.ensures.1 whole.1)
      | else-from-eq0-via-else-from-eq0 w ↦ omega (arith, low, whole.0, w.if-from-eq0.false)
    ]
