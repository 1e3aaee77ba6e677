use Rattle.pg_glob.proofs.MatchLemmas.{sound, complete}
use Rattle.pg_glob.proofs.laws.globs_match.Goals as goal

pub returns : goal.returns
returns c = λ ps t. (sound ps t, complete ps t)
