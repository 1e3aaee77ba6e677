-- What files gave, as their output and status are told from it.
use Rattle.std.specs.Prelude.{ℕ, Bool, true, false, List}

-- how a file's reading came to its end; a file that was left was given up without a failure
pub data Ending : Type 0 where
  Running : Ending
  Ended : Ending
  Failed : Ending
  Left : Ending

abbrev pub is_running : Ending → Bool
is_running Running = true
is_running Ended = false
is_running Failed = false
is_running Left = false

abbrev pub is_failed : Ending → Bool
is_failed Running = false
is_failed Ended = false
is_failed Failed = true
is_failed Left = false

-- a name that could not be opened, or a file with the bytes that its reads gave
pub data Entry : Type 0 where
  Missed : (name : List ℕ) → Entry
  Read : (name bytes : List ℕ) (ending : Ending) → Entry
