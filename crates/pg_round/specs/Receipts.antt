-- What a collector stands after once results have come, and what was written.
use Rattle.std.specs.Prelude.{◌≡◌, ℕ, ◌<◌, false, List, [], ◌∷◌, ◌++◌, Result}
use Rattle.std.specs.Result.{MatchResult}
use Rattle.pg_board.specs.Merge.{IsMerge}
use Rattle.pg_selection.specs.Searched.{SearchedBlock}
use Rattle.pg_base.specs.Sink.{Stream}
use Rattle.pg_plan.specs.History.{Past, Event, Arrived, handed}
use Rattle.pg_plan.specs.Drains.{IsSafe}
use Rattle.pg_workers.specs.Results.{HasAll}
use Rattle.pg_round.specs.declared.fault.RoundFault.{RoundFault}
use Rattle.pg_round.specs.declared.fault.RoundFault.TheVariants.{OutOfMemory, Sink}

-- the events, the newest first, after these arrivals too
abbrev pub arrivals : List SearchedBlock → List Event → List Event
arrivals [] events = events
arrivals (r ∷ rs) events = arrivals rs (Arrived r ∷ events)

-- the past after these arrivals too, and after drains that wrote this
abbrev pub received : Past → List SearchedBlock → List ℕ → Past
received past rs text = record past { events = arrivals rs past.events; written = past.written ++ text }

-- what a writer took grew by this text, and all that was written is safe
abbrev pub Wrote : Past → List ℕ → List ℕ → List ℕ → Type 0
Wrote past before after text = (after ≡ before ++ text) × IsSafe past (past.written ++ text)

-- something was written, and all that was written is safe
abbrev pub WroteSafely : Past → List ℕ → List ℕ → Type 0
WroteSafely past before after = (text : List ℕ) × Wrote past before after text

-- a collector, by what it stands after, received these results, and wrote something safe
abbrev pub HasReceived : (Past → Type 0) → List SearchedBlock → Past → List ℕ → List ℕ → Type 0
HasReceived stands rs past before after =
    (text : List ℕ) × Wrote past before after text × stands (received past rs text)

-- a collector received these results, and all was written that may be handed out after them
abbrev pub HasWritten : (Past → Type 0) → List SearchedBlock → Past → List ℕ → List ℕ → Type 0
HasWritten stands rs past before after =
    (text : List ℕ) × Wrote past before after text × stands (received past rs text)
    × (past.written ++ text ≡ handed (received past rs text))

-- a collector received the rest of what passes put, behind what was taken, and all was written that may be
abbrev pub HasDelivered :
    (Past → Type 0) → List (List SearchedBlock) → List SearchedBlock → Past → List ℕ → List ℕ → Type 0
HasDelivered stands lists taken past before after =
    (rs : List SearchedBlock) × IsMerge lists (taken ++ rs) × HasWritten stands rs past before after

-- a collector received the result of each of these blocks, and all was written that may be handed out after them
abbrev pub HasRound :
    {B : Type 0} → (Past → Type 0) → (B → SearchedBlock → Type 0) → List B → Past → List ℕ → List ℕ → Type 0
HasRound stands finds blocks past before after =
    (rs : List SearchedBlock) × HasAll finds blocks rs × HasWritten stands rs past before after

-- no write failed, unless that is the fault
abbrev pub NoOtherFailed : RoundFault → (before after : Stream) → Type 0
NoOtherFailed OutOfMemory before after = after.failures ≡ before.failures
NoOtherFailed Sink before after = Unit {0}

-- a write failed, where that is the fault
abbrev pub FailedBy : RoundFault → (before after : Stream) → Type 0
FailedBy OutOfMemory before after = Unit {0}
FailedBy Sink before after = before.failures < after.failures

-- How the taking of results ended, whatever past the collector stood after, if all is safe that was written by then: at
-- Ok this came of it, and at Err something safe was written. No write failed, unless that is the fault.
pub record TakesResults {T : Type 0} (result : Result T RoundFault) (stands : Past → Type 0)
    (took : Past → (before after : List ℕ) → Type 0) (before after : Stream) : Type 0 where
  pub calm : MatchResult result (λ _. after.failures ≡ before.failures) (λ fault. NoOtherFailed fault before after)
  pub outcome : (past : Past) → stands past → past.failed ≡ false → IsSafe past past.written →
      MatchResult result (λ _. took past before.taken after.taken)
      (λ fault. WroteSafely past before.taken after.taken × FailedBy fault before after)
