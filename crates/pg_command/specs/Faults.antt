-- Faults of a search as those of the program.
use Rattle.pg_lines.specs.declared.query.QueryFault.{QueryFault}
use Rattle.pg_lines.specs.declared.query.QueryFault.TheVariants.{Syntax, TooLarge as QueryTooLarge}
use Rattle.pg_lines.specs.declared.query.QueryFault.TheVariants.{OutOfMemory as NoMemoryForQuery}
use Rattle.pg_run.specs.declared.fault.RunFault.{RunFault}
use Rattle.pg_run.specs.declared.fault.RunFault.TheVariants.{OutOfMemory as NoMemoryToRun, Sink}
use Rattle.pg_run.specs.declared.fault.RunFault.TheVariants.{TooManyFiles as TooManyToRun, TooLong}
use Rattle.pg_search.specs.declared.fault.SearchFault.{SearchFault}
use Rattle.pg_search.specs.declared.fault.SearchFault.TheVariants.{Query, Run}
use Rattle.pg_request.specs.declared.fault.Fault.{Fault}
use Rattle.pg_request.specs.declared.fault.Fault.TheVariants.{Pattern, TooLarge, OutOfMemory, WriteFailed}
use Rattle.pg_request.specs.declared.fault.Fault.TheVariants.{TooManyFiles, LineTooLong}

-- a query's fault, as the program's
abbrev pub fault_of_query : QueryFault → Fault
fault_of_query (Syntax fault) = Pattern fault
fault_of_query QueryTooLarge = TooLarge
fault_of_query NoMemoryForQuery = OutOfMemory

-- a run's fault, as the program's
abbrev pub fault_of_run : RunFault → Fault
fault_of_run NoMemoryToRun = OutOfMemory
fault_of_run Sink = WriteFailed
fault_of_run TooManyToRun = TooManyFiles
fault_of_run TooLong = LineTooLong

-- a search's fault, as the program's
abbrev pub fault_of_search : SearchFault → Fault
fault_of_search (Query fault) = fault_of_query fault
fault_of_search (Run fault) = fault_of_run fault
