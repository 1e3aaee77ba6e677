use Rattle.pg_grammar.proofs.fault.ListFaultDisplay.fmt.Goals as goal

pub returns-in-OutOfMemory-clause-writes : goal.returns-in-OutOfMemory-clause-writes
returns-in-OutOfMemory-clause-writes g c =
    rw c.in-OutOfMemory.is (rw c.in-OutOfMemory.is at c.write.ensures.writes)
