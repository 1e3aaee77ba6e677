use Rattle.std.proofs.Common.{◌≡◌, arith, length, take}
use Rattle.std.proofs.lemmas.List.{length-take-le}
use Rattle.std.proofs.lemmas.Option.{slice_get-get_or}
use Rattle.pg_match.specs.Stands.{HasRun}
use Rattle.pg_match.specs.Views.{nfa}
use Rattle.pg_match.proofs.LineLemmas.{line_whole}
use Rattle.pg_match.proofs.automaton.Automaton.recall_rest.Goals as goal

pub returns-in_ok-has_hit : goal.returns-in_ok-has_hit
returns-in_ok-has_hit g c =
    let bytes = c.args.bytes.now in
    let r = c.first_end-read.result in
    let f = c.first_end-read.ensures in
    let l = take r bytes in
    let at = c.walk-at.result.1 in
    let size : length l ≡ r = length-take-le r bytes f.first.within in
    let s = c.walk-at.ensures.stands 0 (omega arith) (c.requires.stands.stands r f.behind f.first.within) in
    line_whole (λ l. HasRun (nfa c.args.self.now) l 0) c.args.end bytes c.in_ok-has_hit.has_hit r f.first
    (c.in_ok-has_hit.ensures l 0 at s (slice_get-get_or l at 0 c.walk-at.ensures.within)
    (omega (arith, size, c.if-here-read.true)) (omega arith))

pub returns-in_ok-has_hit-2 : goal.returns-in_ok-has_hit-2
returns-in_ok-has_hit-2 g c =
    let bytes = c.args.bytes.now in
    let r = c.first_end-read.result in
    let f = c.first_end-read.ensures in
    let l = take r bytes in
    let at = c.walk-at.result.1 in
    let s = c.walk-at.ensures.stands 0 (omega arith) (c.requires.stands.stands r f.behind f.first.within) in
    line_whole (λ l. HasRun (nfa c.args.self.now) l 0) c.args.end bytes c.in_ok-has_hit-2.has_hit r f.first
    (c.in_ok-has_hit-2.ensures l 0 at c.walk-at.ensures.within s (slice_get-get_or l at 0 c.walk-at.ensures.within))
