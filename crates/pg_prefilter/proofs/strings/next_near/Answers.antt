use Rattle.std.proofs.Common.{◌∙◌, ap, max}
use Rattle.pg_prefilter.proofs.NearLemmas.{near_nowhere, near_behind}
use Rattle.pg_prefilter.proofs.strings.next_near.Goals as goal

pub returns-in-Some : goal.returns-in-Some
returns-in-Some c = λ text is own same trees spelled.
    let near = c.args.near.now in
    let next = c.max.ensures ∙ ap (max c.args.from) c.saturating_sub-first.ensures in
    near_behind text near.finder near.before is c.args.line.now own c.args.from same c.requires
    c.in-Some.place c.max.result next c.in-Some.ensures trees spelled

pub returns-in-None : goal.returns-in-None
returns-in-None c = λ text is own same trees spelled.
    let near = c.args.near.now in
    near_nowhere text near.finder near.before is c.args.line.now own c.args.from same c.requires
    c.in-None.ensures trees spelled
