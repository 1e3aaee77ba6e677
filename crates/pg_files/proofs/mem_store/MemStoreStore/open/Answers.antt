use Rattle.std.proofs.Common.{rules}
use Rattle.pg_files.proofs.mem_store.MemStoreStore.open.Goals as goal

pub returns-then-is_none-clause-opens : goal.returns-then-is_none-clause-opens
returns-then-is_none-clause-opens g c = search rules

pub returns-then-is_none-clause-found : goal.returns-then-is_none-clause-found
returns-then-is_none-clause-found g c = search rules

pub returns-then-is_none-clause-missing : goal.returns-then-is_none-clause-missing
returns-then-is_none-clause-missing g c = search rules

pub returns-then-is_none-clause-left : goal.returns-then-is_none-clause-left
returns-then-is_none-clause-left g c = search rules

pub returns-then-is_none-clause-files : goal.returns-then-is_none-clause-files
returns-then-is_none-clause-files g c = search rules
