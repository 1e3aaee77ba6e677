use Rattle.std.proofs.Common.{◌<◌, ◌-◌, length, drop, sym, subst, arith}
use Rattle.pg_strings.specs.Outcomes.{strings_of}
use Rattle.pg_selection.specs.Search.{terminator_of}
use Rattle.pg_prefilter.specs.Candidates.{IsLineAround}
use Rattle.pg_prefilter.specs.Enough.{strings_if_some}
use Rattle.pg_prefilter.proofs.EnoughLemmas.{among_all}
use Rattle.pg_prefilter.proofs.NeedleLemmas.{plain_end}
use Rattle.pg_prefilter.proofs.NeedleSetLemmas.{nowhere_behind, line_of_first}
use Rattle.pg_prefilter.proofs.needle_set.NeedleSet.next_line.Goals as goal

pub with_its_flag-requires-clause-found : goal.with_its_flag-requires-clause-found
with_its_flag-requires-clause-found g c =
    let text = c.args.text.now in
    let bytes = c.args.bytes.now in
    let at = c.args.at in
    let set = c.args.self.now.literals.now in
    let more = strings_if_some set.enough in
    let found = c.around-found.result in
    let some : at < length bytes = omega (arith, c.if-at-bytes.false, c.requires.at) in
    let outcome = c.in-Found.ensures.outcome in
    let line = subst (λ e. IsLineAround e at (drop at bytes) (c.in-Found.place - at) found.line) c.terminator-end.ensures
    c.around-found.ensures.line in
    let first = line_of_first text.fold bytes c.args.self.now.searched.now at (strings_of set.strings) more
    set.is_enough (among_all (strings_of set.strings) more set.among) c.requires.needles.searched some
    (terminator_of text) c.in-Found.place found (plain_end text text.fold) c.requires.needles.literals.lines outcome.0
    outcome.1 (sym c.around-found.ensures.flag) line in
    (omega (arith, line.starts), first.1, first.2, first.0)

pub returns-in-NotFound-clause-next : goal.returns-in-NotFound-clause-next
returns-in-NotFound-clause-next g c =
    let text = c.args.text.now in
    let bytes = c.args.bytes.now in
    let at = c.args.at in
    let set = c.args.self.now.literals.now in
    let more = strings_if_some set.enough in
    let some : at < length bytes = omega (arith, c.if-at-bytes.false, c.requires.at) in
    nowhere_behind text.fold bytes c.args.self.now.searched.now at (strings_of set.strings) more set.is_enough
    (among_all (strings_of set.strings) more set.among) c.requires.needles.searched some (terminator_of text)
    c.in-NotFound.ensures.outcome
