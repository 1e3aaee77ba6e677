use Rattle.std.proofs.Common.{arith, rules}
use Rattle.std.proofs.lemmas.Grind.{common_steps}
use Rattle.pg_files.proofs.mem_store.MemStoreStore.read.Goals as goal

pub returns-in_default-clause-given : goal.returns-in_default-clause-given
returns-in_default-clause-given g c = search rules

pub returns-in_default-clause-size : goal.returns-in_default-clause-size
returns-in_default-clause-size g c = search rules

pub returns-in_default-clause-takes : goal.returns-in_default-clause-takes
returns-in_default-clause-takes g c = search rules

pub returns-in_default-clause-files : goal.returns-in_default-clause-files
returns-in_default-clause-files g c = search rules

pub returns-then-eq-clause-given : goal.returns-then-eq-clause-given
returns-then-eq-clause-given g c = search rules

pub returns-then-eq-clause-size : goal.returns-then-eq-clause-size
returns-then-eq-clause-size g c = search rules

pub returns-then-eq-clause-takes : goal.returns-then-eq-clause-takes
returns-then-eq-clause-takes g c = grind (arith, common_steps)

pub returns-then-eq-clause-files : goal.returns-then-eq-clause-files
returns-then-eq-clause-files g c = search rules

pub returns-then-count-eq0-clause-given : goal.returns-then-count-eq0-clause-given
returns-then-count-eq0-clause-given g c = search rules

pub returns-then-count-eq0-clause-size : goal.returns-then-count-eq0-clause-size
returns-then-count-eq0-clause-size g c = search rules

pub returns-then-count-eq0-clause-takes : goal.returns-then-count-eq0-clause-takes
returns-then-count-eq0-clause-takes g c = search rules

pub returns-then-count-eq0-clause-files : goal.returns-then-count-eq0-clause-files
returns-then-count-eq0-clause-files g c = search rules

pub returns-else-count-eq0-clause-given : goal.returns-else-count-eq0-clause-given
returns-else-count-eq0-clause-given g c = search rules

pub returns-else-count-eq0-clause-size : goal.returns-else-count-eq0-clause-size
returns-else-count-eq0-clause-size g c = search rules

pub returns-else-count-eq0-clause-takes : goal.returns-else-count-eq0-clause-takes
returns-else-count-eq0-clause-takes g c = grind (arith, common_steps)

pub returns-else-count-eq0-clause-files : goal.returns-else-count-eq0-clause-files
returns-else-count-eq0-clause-files g c = search rules
