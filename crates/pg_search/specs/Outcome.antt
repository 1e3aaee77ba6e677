-- What a search did that broke off.
use Rattle.std.specs.Prelude.{◌≡◌, ◌⊎◌}
use Rattle.pg_selection.specs.Search.{Search, SearchText}
use Rattle.pg_base.specs.Sink.{Stream}
use Rattle.pg_lines.specs.Queries.{IsQueryFault}
use Rattle.pg_lines.specs.declared.query.QueryFault.TheVariants.{OutOfMemory as NoMemoryForQuery}
use Rattle.pg_files.specs.Given.{FilesPast, nothing_given}
use Rattle.pg_run.specs.Outcome.{IsSearchFor, BreaksOff}
use Rattle.pg_run.specs.declared.fault.RunFault.TheVariants.{OutOfMemory}
use Rattle.pg_run.specs.declared.setup.Setup.{Setup}
use Rattle.pg_search.specs.declared.fault.SearchFault.{SearchFault}
use Rattle.pg_search.specs.declared.fault.SearchFault.TheVariants.{Query, Run}

-- nothing was asked for, written or told
abbrev pub NothingWasDone : FilesPast → (out out' told told' : Stream) → Type 0
NothingWasDone past out out' told told' = (past ≡ nothing_given) × (out' ≡ out) × (told' ≡ told)

-- The patterns can't be searched for, which isn't for want of memory, and nothing was done; or memory was lacking
-- before anything was done; or the run of the search for the text broke off.
abbrev pub SearchBreaksOff : SearchText → Setup → FilesPast → (out out' told told' : Stream) → SearchFault → Type 0
SearchBreaksOff text setup past out out' told told' (Query why) =
    IsQueryFault text why × ¬ (why ≡ NoMemoryForQuery) × NothingWasDone past out out' told told'
SearchBreaksOff text setup past out out' told told' (Run fault) =
    ((fault ≡ OutOfMemory) × NothingWasDone past out out' told told')
    ⊎ ((q : Search) × IsSearchFor text q × BreaksOff q setup past.given out out' told told' fault)
