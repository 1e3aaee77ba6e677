use Rattle.std.proofs.Common.{length}
use Rattle.pg_strings.specs.Outcomes.{strings_of}
use Rattle.pg_strings.proofs.PlaceLemmas.{outcome_of_any}
use Rattle.pg_strings.proofs.set.StringSet.find.Goals as goal

pub returns-clause-outcome : goal.returns-clause-outcome
returns-clause-outcome g c =
    outcome_of_any (strings_of c.args.self.now) c.args.bytes.now c.args.from (length c.args.bytes.now) c.find_hit.result
    c.find_hit.ensures.outcome
