-- What a drain writes.
use Rattle.std.specs.Prelude.{◌≡◌, ℕ, Bool, true, false, ◌||◌, Result, Ok, Err, List, [], ◌++◌}
use Rattle.pg_rows.specs.Output.{output}
use Rattle.pg_base.specs.Sink.{IsBeginning}
use Rattle.pg_plan.specs.Plan.{entries_of}
use Rattle.pg_plan.specs.History.{Past, plan, handed}
use Rattle.pg_plan.specs.declared.answers.SinkFault.{SinkFault}
use Rattle.pg_plan.specs.declared.answers.SinkFault.TheVariants.{WriteFailed, Failed}

-- this is a beginning of what the plan gives
abbrev pub IsSafe : Past → List ℕ → Type 0
IsSafe past written = IsBeginning written (output past.query past.format (entries_of (plan past)))

-- what a drain did that wrote a text
abbrev pub Drained : Result (Unit {0}) SinkFault → Past → List ℕ → Type 0
Drained (Ok u) past text = (past.failed ≡ false) × (past.written ++ text ≡ handed past)
Drained (Err WriteFailed) past text = (past.failed ≡ false) × IsBeginning (past.written ++ text) (handed past)
Drained (Err Failed) past text = (past.failed ≡ true) × (text ≡ [])

-- a drain that answers so failed
abbrev pub fails : Result (Unit {0}) SinkFault → Bool
fails (Ok u) = false
fails (Err fault) = true

-- behind a drain that wrote a text
abbrev pub drained : Past → List ℕ → Result (Unit {0}) SinkFault → Past
drained past text result = record past { written = past.written ++ text; failed = past.failed || fails result }
