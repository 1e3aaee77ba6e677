use Rattle.std.proofs.Common.{ap, map, arith}
use Rattle.pg_files.specs.MemStore.{stored_file}
use Rattle.pg_files.proofs.mem_store.MemStore.new.Goals as goal

pub invariant_of-result : goal.invariant_of-result
invariant_of-result g c = record {
  some_bytes = omega arith;
  is_open = λ place e. absurd (cc);
}

pub returns-clause-files : goal.returns-clause-files
returns-clause-files g c = ap (map stored_file) c.new.ensures.items
