use Rattle.pg_pattern.specs.Trees.{pattern}
use Rattle.pg_pattern.proofs.PatternLemmas.{pattern-rep}
use Rattle.pg_pattern.proofs.LengthLemmas.{rep_long}
use Rattle.pg_pattern.proofs.lengths.+longest_in.Goals as goal

pub returns-in_ok-most-in-Rep : goal.returns-in_ok-most-in-Rep
returns-in_ok-most-in-Rep g t c =
    let one = pattern c.in-Rep.inner.value in
    let most = c.in_ok-most-in-Rep.most in
    let found = c.longest_rounds.result in
    let rounds = c.longest_rounds.ensures (pattern c.deref-in-Rep.result.now) c.longest_in-in-Rep.ensures in
    let long = rep_long one c.in-Rep.field-1 most found (rw c.deref-in-Rep.ensures at rounds) in
    rw (pattern-rep _ _ _ _ c.in-Rep.is) (rw c.in_ok-most-in-Rep.was long)
