-- Where one of many strings stands, and begins and ends as a match may (GNU grep, -w; XCU grep, -x).
use Rattle.std.specs.Prelude.{◌≡◌, ℕ, ◌+◌, List, length, sum_by}
use Rattle.std.specs.List.{Any}
use Rattle.memchr.specs.Find.{OccursAt}
use Rattle.pg_pattern.specs.Bounds.{MayBegin, MayEnd}
use Rattle.pg_pattern.specs.declared.bounds.Bounds.{Bounds}

-- some string stands at the place
abbrev pub SomeStands : List (List ℕ) → List ℕ → ℕ → Type 0
SomeStands strings bytes place = Any (λ string. OccursAt bytes string place) strings

-- the string stands at the place, and a match may end where it does
abbrev pub StandsAs : Bounds → List ℕ → ℕ → List ℕ → Type 0
StandsAs bounds bytes place string = OccursAt bytes string place × MayEnd bounds bytes (place + length string)

-- some string stands so
abbrev pub SomeStandsAs : List (List ℕ) → Bounds → List ℕ → ℕ → Type 0
SomeStandsAs strings bounds bytes place = Any (StandsAs bounds bytes place) strings

-- some string stands so, and a match may begin there
abbrev pub SomeHit : List (List ℕ) → Bounds → List ℕ → ℕ → Type 0
SomeHit strings bounds bytes place = MayBegin bounds bytes place × SomeStandsAs strings bounds bytes place

-- a string of this length stands so
abbrev pub StandsSo : List (List ℕ) → Bounds → List ℕ → ℕ → ℕ → Type 0
StandsSo strings bounds bytes place n = Any (λ string. StandsAs bounds bytes place string × (length string ≡ n)) strings

-- what it costs to compare all strings at a place, at most
abbrev pub work : List (List ℕ) → ℕ
work strings = sum_by (λ string. 1 + length string) strings
