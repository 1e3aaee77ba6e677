use Rattle.pg_match.proofs.BuildLemmas.{building_more, building_one}
use Rattle.pg_match.proofs.build.add_choice.Goals as goal

pub returns : goal.returns
returns g c = λ t patterns p first added at.
    building_more t c.args.states.now.items c.push.new.states.items patterns c.args.before c.args.start c.args.entry
    c.in_ok-choice.choice p c.if-before-eq0.false first added c.in_ok-choice.ensures at

pub returns-then-before-eq0 : goal.returns-then-before-eq0
returns-then-before-eq0 g c = λ t patterns p first added at.
    building_one t c.args.states.now.items patterns c.args.before c.args.start c.args.entry p c.if-before-eq0.true first
    added at
