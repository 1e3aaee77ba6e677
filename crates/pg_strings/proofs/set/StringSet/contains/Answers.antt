use Rattle.pg_strings.specs.Outcomes.{strings_of}
use Rattle.pg_strings.proofs.LongestLemmas.{line_found}
use Rattle.pg_strings.proofs.set.StringSet.contains.Goals as goal

pub returns : goal.returns
returns g c =
    line_found (strings_of c.args.self.now) c.args.line.now c.longest_at.result c.is_some.result c.longest_at.ensures
    c.is_some.ensures
