-- What was told of words that aren't taken is what is to be told. For program::command.
use Rattle.std.proofs.Common.{ℕ, Bool, ◌⊎◌, inl, inr, refl, subst, sym, Result}
use Rattle.std.specs.Result.{IsErr}
use Rattle.std.specs.String.{string_bytes}
use Rattle.pg_walk.specs.Answers.{Answers as Tree}
use Rattle.pg_files.specs.Given.{FileOutcome}
use Rattle.pg_base.specs.Sink.{Stream}
use Rattle.std.specs.Prelude.{List}
use Rattle.pg_words.specs.Asks.{Asks}
use Rattle.pg_words.specs.Gives.{IsWordsFault}
use Rattle.pg_words.specs.declared.words.WordsFault.{WordsFault}
use Rattle.pg_words.specs.declared.words.WordsFault.TheVariants.{Refused, OutOfMemory as NoMemoryForWords}
use Rattle.pg_words.specs.declared.words.WordsFault.TheVariants.{Usage as UsageOfWords}
use Rattle.pg_command.specs.Command.{Does, RefusesWords, TellsOfWords}
use Rattle.pg_report.specs.Told.{line_of}
use Rattle.pg_request.specs.declared.fault.Fault.TheVariants.{OutOfMemory}

pub refusal_told : {T : Type 0} (tells : Type 0) (tree : Tree) (terminal : Bool) (past : List FileOutcome)
    (out err err' : Stream) (answer : Result ℕ T) (fault : WordsFault) (asked_for : Asks) → IsWordsFault asked_for fault
    → TellsOfWords fault err err' → IsErr answer
    → Does tells tree terminal asked_for past past out out err err' answer
    ⊎ RefusesWords (line_of OutOfMemory) past past out out err err' answer
refusal_told tells tree terminal past out err err' answer (Refused text) asked_for is told failed =
    inl (subst (λ (a : Asks). Does tells tree terminal a past past out out err err' answer) (sym is) (
      string_bytes text,
      record { fault = failed; unopened = refl; unwritten = refl; told = told },
    ))
refusal_told tells tree terminal past out err err' answer (UsageOfWords usage) asked_for is told failed =
    inl (subst (λ (a : Asks). Does tells tree terminal a past past out out err err' answer) (sym is)
    (record { fault = failed; unopened = refl; unwritten = refl; told = told }))
refusal_told tells tree terminal past out err err' answer NoMemoryForWords asked_for is told failed =
    inr (record { fault = failed; unopened = refl; unwritten = refl; told = told })
