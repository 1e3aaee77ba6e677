-- What reading gives, by what the words ask for.
use Rattle.std.specs.Prelude.{◌≡◌, ℕ, ◌≤◌, Some, Result, Ok, Err}
use Rattle.pg_words.specs.Asked.{asked_of, pace_of}
use Rattle.pg_words.specs.Asks.{Asks, AsksHelp, AsksSearch, AsksVersion, HasFault, IsRefused}
use Rattle.pg_words.specs.Found.{value_behind}
use Rattle.pg_words.specs.Line.{Word, Number}
use Rattle.pg_words.specs.declared.words.Task.{Task}
use Rattle.pg_words.specs.declared.words.Task.TheVariants as task
use Rattle.pg_words.specs.declared.words.WordsFault.{WordsFault}
use Rattle.pg_words.specs.declared.words.WordsFault.TheVariants as fault

abbrev pub IsTask : Asks → Task → Type 0
IsTask asks (task.Search request) = asks ≡ AsksSearch (asked_of request) (pace_of request)
IsTask asks task.Help = asks ≡ AsksHelp
IsTask asks task.Version = asks ≡ AsksVersion

-- a refused text is told in `clap`'s words, and memory may always be lacking
abbrev pub IsWordsFault : Asks → WordsFault → Type 0
IsWordsFault asks (fault.Refused text) = asks ≡ IsRefused
IsWordsFault asks (fault.Usage usage) = asks ≡ HasFault usage
IsWordsFault asks fault.OutOfMemory = Unit {0}

-- just what is asked for, or why it isn't had
abbrev pub Gives : Asks → Result Task WordsFault → Type 0
Gives asks (Ok task) = IsTask asks task
Gives asks (Err fault) = IsWordsFault asks fault

-- no usage fault
abbrev pub IsRefusal : WordsFault → Type 0
IsRefusal (fault.Refused text) = Unit {0}
IsRefusal (fault.Usage usage) = ⊥
IsRefusal fault.OutOfMemory = Unit {0}

-- a number of at most this stands behind the option of this name
abbrev pub IsNumberUpTo : ℕ → Word → Type 0
IsNumberUpTo most name = (low high : ℕ) × (value_behind name ≡ Some (Number low high)) × (high ≤ most)
