-- Faults of a query as faults of a search.
use Rattle.pg_lines.specs.declared.query.QueryFault.{QueryFault}
use Rattle.pg_lines.specs.declared.query.QueryFault.TheVariants.{Syntax, TooLarge, OutOfMemory as NoMemoryForQuery}
use Rattle.pg_run.specs.declared.fault.RunFault.TheVariants.{OutOfMemory}
use Rattle.pg_search.specs.declared.fault.SearchFault.{SearchFault}
use Rattle.pg_search.specs.declared.fault.SearchFault.TheVariants.{Query, Run}

-- a query that was refused memory is a run that was
abbrev pub search_fault_of : QueryFault → SearchFault
search_fault_of (Syntax fault) = Query (Syntax fault)
search_fault_of TooLarge = Query TooLarge
search_fault_of NoMemoryForQuery = Run OutOfMemory
