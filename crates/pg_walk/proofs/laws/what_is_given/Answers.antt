use Rattle.pg_walk.proofs.Lefts.{begins_walk, is_walk}
use Rattle.pg_walk.proofs.laws.what_is_given.Goals as goal

pub returns-clause-begins : goal.returns-clause-begins
returns-clause-begins g c = λ operands items h. begins_walk _ _ operands _ items _ h

pub returns-clause-whole : goal.returns-clause-whole
returns-clause-whole g c = λ operands items h e. is_walk _ _ operands _ items _ h e
