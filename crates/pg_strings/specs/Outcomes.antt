-- What searches for strings come to.
use Rattle.std.specs.Prelude.{◌≡◌, ℕ, ◌+◌, ◌-◌, ◌*◌, ◌≤◌, List, Option, length, map, MatchOption}
use Rattle.std.specs.List.{All}
use Rattle.memchr.specs.Find.{Nowhere, NoneBefore}
use Rattle.pg_pattern.specs.declared.bounds.Bounds.{Bounds}
use Rattle.pg_pattern.specs.Strings.{items_of}
use Rattle.pg_strings.specs.Sets.{StandsAs, SomeStandsAs, StandsSo}
use Rattle.pg_strings.specs.declared.set.StringSet.{StringSet}
use Rattle.pg_strings.specs.declared.outcome.Outcome.{Outcome}
use Rattle.pg_strings.specs.declared.outcome.Outcome.TheVariants.{Found, NotFound, GaveUp}
use Rattle.pg_strings.specs.declared.outcome.Look.{Look}
use Rattle.pg_strings.specs.declared.outcome.Look.TheVariants.{Stands, NoneStands, GaveUp as LookGaveUp}

-- the strings of a set, in their order
abbrev pub strings_of : {A : Type 0} → StringSet A → List (List ℕ)
strings_of set = map items_of set.strings.items

-- The first place from one on, up to another, where P holds; or it holds nowhere there; or up to a place that was
-- reached it holds nowhere.
abbrev pub IsOutcome : (ℕ → Type 0) → ℕ → ℕ → Outcome → Type 0
IsOutcome P from stop (Found place) = NoneBefore P from stop place × P place
IsOutcome P from stop NotFound = Nowhere P from stop
IsOutcome P from stop (GaveUp place) = (from ≤ place) × (place ≤ stop) × Nowhere P from place

-- The budget grows by 8 at most for each byte that was passed, and no more of it is spent than what comparing all
-- strings costs at each place that was looked at. A search that gives up has used it up.
abbrev pub IsWithinBudget : (work from stop old new : ℕ) → Outcome → Type 0
IsWithinBudget work from stop old new (Found place) =
    (new ≤ old + 8 * (place - from)) × (old ≤ new + (place + 1 - from) * work)
IsWithinBudget work from stop old new NotFound = (new ≤ old + 8 * (stop - from)) × (old ≤ new + (stop - from) * work)
IsWithinBudget work from stop old new (GaveUp place) = (new ≡ 0) × (old ≤ (place + 1 - from) * work)

-- the longest string that stands at the place and ends where a match may has this length; or none does
abbrev pub IsLongestAt : List (List ℕ) → Bounds → List ℕ → ℕ → Option ℕ → Type 0
IsLongestAt strings bounds bytes place result = MatchOption result (SomeStandsAs strings bounds bytes place → ⊥)
    (λ n. StandsSo strings bounds bytes place n
    × All (λ string. StandsAs bounds bytes place string → length string ≤ n) strings)

-- P holds, or not; or nothing is left of the budget
abbrev pub IsLook : Type 0 → ℕ → Look → Type 0
IsLook P left Stands = P
IsLook P left NoneStands = P → ⊥
IsLook P left LookGaveUp = left ≡ 0
