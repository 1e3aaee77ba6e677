-- What was kept of the paths that were opened, as what they gave.
use Rattle.std.specs.Prelude.{ℕ, Bool, if◌then◌else◌, List, [], ◌∷◌, map, reverse, Option, Some, None}
use Rattle.pg_base.specs.Entries.{Left, Ended, Failed}
use Rattle.pg_files.specs.Given.{FileOutcome, NoFile, File}
use Rattle.pg_files.specs.declared.past.Access.{Access}
use Rattle.pg_files.specs.declared.past.Reading.{Reading}
use Rattle.pg_files.specs.declared.past.Reading.TheVariants.{Refused, Unfinished, Finished, Broken}

abbrev pub given_as : (path bytes : List ℕ) → Reading → FileOutcome
given_as path bytes (Refused cause) = NoFile path cause
given_as path bytes Unfinished = File path bytes Left
given_as path bytes Finished = File path bytes Ended
given_as path bytes Broken = File path bytes Failed

abbrev pub given_of : Access → FileOutcome
given_of access = given_as access.path.items access.bytes.items access.reading

abbrev pub newest_of : Option Access → List FileOutcome → List FileOutcome
newest_of None earlier = []
newest_of (Some access) earlier = given_of access ∷ earlier

-- an end was met, or a failure, which stays; where there was no file nothing changes
abbrev pub reading_ended : Bool → Reading → Reading
reading_ended failed (Refused cause) = Refused cause
reading_ended failed Unfinished = if failed then Broken else Finished
reading_ended failed Finished = if failed then Broken else Finished
reading_ended failed Broken = Broken

-- The earlier accesses stand in their order, and then the newest; without a newest there is none.
abbrev pub outcomes_of : List Access → Option Access → List FileOutcome
outcomes_of earlier newest = newest_of newest (reverse (map given_of earlier))
