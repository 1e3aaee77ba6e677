use Rattle.pg_strings.specs.Outcomes.{strings_of}
use Rattle.pg_prefilter.proofs.StandingLemmas.{are_some, none_from, next_is, some_is}
use Rattle.pg_prefilter.proofs.strings.next_standing.Goals as goal

pub returns-in-NotFound : goal.returns-in-NotFound
returns-in-NotFound g c =
    let set = c.args.set.now in
    none_from (strings_of set) c.args.bounds c.args.line.now (are_some set) c.args.from c.in-NotFound.ensures.outcome

pub returns-in-Some : goal.returns-in-Some
returns-in-Some g c =
    let set = c.args.set.now in
    let found = c.in-Found.ensures.outcome in
    next_is (strings_of set) c.args.bounds c.args.line.now (are_some set) c.args.from c.in-Found.place found.0 found.1
    c.in-Some.len c.in-Some.ensures

pub returns-in-None : goal.returns-in-None
returns-in-None g c =
    let set = c.args.set.now in
    let found = c.in-Found.ensures.outcome in
    absurd (some_is (strings_of set) c.args.bounds c.args.line.now (are_some set) c.args.from c.in-Found.place found.0
    found.1 c.in-None.ensures)
