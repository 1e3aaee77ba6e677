use Rattle.std.proofs.Common.{◌+◌, ◌-◌, arith, rules}
use Rattle.pg_pattern.specs.Trees.{pattern}
use Rattle.pg_pattern.proofs.PatternLemmas.{pattern-cat, pattern-alt, pattern-rep}
use Rattle.pg_pattern.specs.Lengths.{EndsWithin}
use Rattle.pg_pattern.proofs.LengthLemmas.{checked_gives, cat_ends, alt_ends, no_round_ends, rep_ends}
use Rattle.pg_pattern.proofs.lengths.+nearest_end_in.Goals as goal

pub returns-then-least-eq0 : goal.returns-then-least-eq0
returns-then-least-eq0 g t c =
    rw (pattern-rep _ _ _ _ c.in-Rep.is) (no_round_ends _ c.in-Rep.least c.in-Rep.field-2 (omega arith))

pub returns-in_ok-second-in-Cat : goal.returns-in_ok-second-in-Cat
returns-in_ok-second-in-Cat g t c =
    let first = rw c.deref.ensures at c.in_ok-first-in-Cat.ensures in
    let second = rw c.deref-in-Cat.ensures at c.in_ok-second-in-Cat.ensures in
    let m = c.in_ok-first-in-Cat.first in
    let n = c.in_ok-second-in-Cat.second in
    checked_gives c.checked_add.result _ (m + n) c.checked_add.ensures (EndsWithin (pattern c.args.tree.now))
    (rw (pattern-cat _ _ _ c.in-Cat.is) (cat_ends _ _ m n first second))

pub returns-in_ok-second-in-Alt : goal.returns-in_ok-second-in-Alt
returns-in_ok-second-in-Alt g t c =
    let first = rw c.deref-in-Alt.ensures at c.in_ok-first-in-Alt.ensures in
    let second = rw c.deref-in-Alt-2.ensures at c.in_ok-second-in-Alt.ensures in
    let m = c.in_ok-first-in-Alt.first in
    let n = c.in_ok-second-in-Alt.second in
    rw (pattern-alt _ _ _ c.in-Alt.is)
    (alt_ends _ _ m n c.max.result (search rules) (search rules) first second)

pub returns-in_ok-last-in-Rep : goal.returns-in_ok-last-in-Rep
returns-in_ok-last-in-Rep g t c =
    let one = pattern c.in-Rep.inner.value in
    let least = c.in-Rep.least in
    let before = c.longest_rounds.ensures (pattern c.deref-in-Rep.result.now) c.longest_in-in-Rep.ensures in
    let first = rw c.in_ok-first-in-Rep.was at (rw c.deref-in-Rep.ensures at before) in
    let last = rw c.deref-in-Rep-2.ensures at c.in_ok-last-in-Rep.ensures in
    let m = c.in_ok-first-in-Rep.first in
    let n = c.in_ok-last-in-Rep.last in
    let ends = rep_ends one least c.in-Rep.field-2 (least - 1) m n (omega arith) first last in
    checked_gives c.checked_add-in-Rep.result _ (m + n) c.checked_add-in-Rep.ensures
    (EndsWithin (pattern c.args.tree.now)) (rw (pattern-rep _ _ _ _ c.in-Rep.is) ends)
