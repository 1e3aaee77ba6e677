use Rattle.pg_bytes.specs.ByteSets.{bytes}
use Rattle.pg_match.specs.Starts.{AreAmong}
use Rattle.pg_match.proofs.starts.read_by.Given as goal

abbrev pub invariant-loop-k : goal.invariant-loop-k
invariant-loop-k l = AreAmong l.states l.seeds l.k (bytes l.read)
