use Rattle.std.proofs.Common.{subst}
use Rattle.pg_prefilter.specs.Prefilters.{IsPrefilterOf}
use Rattle.pg_lines.specs.Queries.{Compiled}
use Rattle.pg_lines.proofs.query.Query.literals.Goals as goal

pub returns-clause-heads : goal.returns-clause-heads
returns-clause-heads g c =
    let Found : Compiled → Type 0 = λ q. IsPrefilterOf q.text c.self.inside.prefilter in
    c.literals.ensures.heads c.args.self.now.text (subst Found c.self.view_is c.self.invariant.1)
