-- Faults of the parts as faults of a run.
use Rattle.pg_blocks.specs.declared.cutter.CutFault.{CutFault}
use Rattle.pg_blocks.specs.declared.cutter.CutFault.TheVariants.{OutOfMemory as NoMemoryToCut, LineTooLong, FileTooLong}
use Rattle.pg_run.specs.declared.fault.RunFault.{RunFault}
use Rattle.pg_run.specs.declared.fault.RunFault.TheVariants.{OutOfMemory, Sink, TooLong}
use Rattle.pg_round.specs.declared.fault.RoundFault.{RoundFault}
use Rattle.pg_round.specs.declared.fault.RoundFault.TheVariants.{OutOfMemory as NoMemoryForRound, Sink as RoundSink}

-- a round's fault, as a run's
abbrev pub fault_of_round : RoundFault → RunFault
fault_of_round NoMemoryForRound = OutOfMemory
fault_of_round RoundSink = Sink

-- a cutter's fault, as a run's: a line and a file that are too long are told alike
abbrev pub fault_of_cut : CutFault → RunFault
fault_of_cut NoMemoryToCut = OutOfMemory
fault_of_cut LineTooLong = TooLong
fault_of_cut FileTooLong = TooLong
