-- What is known of the matches of some patterns in a row.
use Rattle.std.specs.Prelude.{◌≡◌, ◌⊎◌, ◌↔◌, ◌≤◌, ◌<◌, ℕ, zero, suc, ◌+◌, Bool, List, [], ◌++◌, length, map}
use Rattle.std.specs.Prelude.{Option, Some, IfSome, true, false}
use Rattle.std.specs.Prelude.{IsTrue}
use Rattle.pg_bytes.specs.Sets.{Bytes, one}
use Rattle.pg_pattern.specs.Patterns.{Pattern, Set, Rep, folded}
use Rattle.pg_grammar.specs.Grammar.{Spells}
use Rattle.pg_grammar.specs.declared.pattern_list.Kind.TheVariants.{Fixed}
use Rattle.pg_pattern.specs.Matches.{Match}
use Rattle.pg_pattern.specs.declared.bounds.Bounds.{Bounds}
use Rattle.pg_pattern.specs.declared.bounds.Bounds.TheVariants.{Any}
use Rattle.pg_literal.specs.Rows.{StandsAt, row_of}
use Rattle.pg_literal.specs.declared.known.MatchFacts.{MatchFacts}
use Rattle.pg_literal.specs.declared.known.ChosenPart.{ChosenPart}

-- the row that each match begins with, forwards
abbrev pub head_of : {A : Type 0} → MatchFacts A → List Bytes
head_of known = row_of known.head.items

-- the other row, forwards
abbrev pub best_of : {A : Type 0} → MatchFacts A → List Bytes
best_of known = row_of known.best.items

-- what is known of no pattern, which matches the empty string
pub record IsNothing {A : Type 0} (known : MatchFacts A) : Type 0 where
  pub head : known.head.items ≡ []
  pub best : known.best.items ≡ []
  pub sure : known.is_sure ≡ true

-- the head stands at the place, and the other row somewhere
pub record HasRows {A : Type 0} (known : MatchFacts A) (line : List ℕ) (i : ℕ) : Type 0 where
  pub head : StandsAt line (head_of known) i
  pub best : (place : ℕ) × StandsAt line (best_of known) place

-- a row that is sure stands at the place
abbrev pub IsSureAt : {A : Type 0} → MatchFacts A → List ℕ → ℕ → Type 0
IsSureAt known line i =
    (IsTrue known.is_sure × StandsAt line (head_of known) i)
    ⊎ (IsTrue known.is_best_sure × StandsAt line (best_of known) i)

-- the pattern matches the empty string everywhere
abbrev pub MatchesEmpty : Pattern → Type 0
MatchesEmpty p = (line : List ℕ) (i : ℕ) → Match p line i i

-- the pattern matches one byte of the set
abbrev pub MatchesSet : Pattern → Bytes → Type 0
MatchesSet p set = (line : List ℕ) (i j : ℕ) → Match p line i j ↔ Match (Set set) line i j

-- the sets of a fixed string's bytes, with their other cases where case is folded
abbrev pub sets_of : Bool → List ℕ → List Bytes
sets_of fold text = map (λ b. folded fold (one b)) text

-- The pattern stands in front of the rest: its matches that lead to the rows of the rest begin at those of the whole,
-- and are as long as what they add to the head. Where a sure row of the whole stands, the pattern leads to a sure row
-- of the rest. A fixed string makes the head longer by its bytes, keeps it as sure as it was, and keeps the other row.
pub record Extends {A : Type 0} (fold : Bool) (p : Pattern) (rest whole : MatchFacts A) : Type 0 where
  pub rows : (line : List ℕ) (i j : ℕ) → Match p line i j → HasRows rest line j → HasRows whole line i
  pub long : (line : List ℕ) (i j : ℕ) → Match p line i j
      → i + length whole.head.items ≤ j + length rest.head.items
  pub sure : (line : List ℕ) (i : ℕ) → IsSureAt whole line i → (j : ℕ) × Match p line i j × IsSureAt rest line j
  pub fixed : (text : List ℕ) → Spells Fixed fold text p
      → (head_of whole ≡ sets_of fold text ++ head_of rest) × (whole.is_sure ≡ rest.is_sure)
      × (whole.best.items ≡ rest.best.items)

-- The rows of the rest may stand anywhere further right, and one of them is kept. It stays sure only behind what is
-- optional.
pub record Hides {A : Type 0} (is_optional : Bool) (rest whole : MatchFacts A) : Type 0 where
  pub head : whole.head.items ≡ []
  pub best : ((whole.best ≡ rest.head) × (IsTrue whole.is_best_sure → IsTrue is_optional × IsTrue rest.is_sure))
      ⊎ ((whole.best ≡ rest.best) × (IsTrue whole.is_best_sure → IsTrue is_optional × IsTrue rest.is_best_sure))
  pub sure : IsTrue whole.is_sure → IsTrue is_optional × IsTrue rest.is_sure × (rest.head.items ≡ [])

-- the pattern stands in front of the rest, so many times
abbrev pub Repeats : {A : Type 0} → Bool → Pattern → ℕ → MatchFacts A → MatchFacts A → Type 0
Repeats fold p zero rest whole = whole ≡ rest
Repeats {A} fold p (suc count) rest whole =
    (known : MatchFacts A) × Repeats fold p count rest known × Extends fold p known whole

-- The rounds of a repetition behind its first ones, if there may be any, hide the rest; they are optional where the
-- first ones are enough.
abbrev pub HidesOthers : {A : Type 0} → ℕ → ℕ → Option ℕ → MatchFacts A → MatchFacts A → Type 0
HidesOthers rounds least most rest whole =
    ((least ≡ rounds) × (most ≡ Some rounds) × (whole ≡ rest))
    ⊎ ((is_optional : Bool) × (IsTrue is_optional → (least ≡ rounds) × IfSome most (λ most. rounds ≤ most))
    × Hides is_optional rest whole)

-- The rounds of a repetition behind its first ones, if there may be any, hide the rest, optional where the first ones
-- are enough; or they hide the rest with the last round in front of it.
abbrev pub HidesLast : {A : Type 0} → Bool → Pattern → ℕ → ℕ → Option ℕ → MatchFacts A → MatchFacts A → Type 0
HidesLast {A} fold p rounds least most rest whole =
    HidesOthers rounds least most rest whole
    ⊎ ((last : MatchFacts A) × Extends fold p rest last × Hides false last whole)

-- with the pattern in front once more all rounds of a repetition are
abbrev pub LacksFirst : {A : Type 0} → Bool → Pattern → ℕ → Option ℕ → MatchFacts A → MatchFacts A → Type 0
LacksFirst {A} fold p least most rest behind =
    (whole : MatchFacts A) → Extends fold p behind whole → Extends fold (Rep p least most) rest whole

-- A part of one of the two rows. It is enough only where it is all of a row that is sure, and any match counts; it is a
-- head only where each match begins with it.
pub record IsChosen {A : Type 0} (bounds : Bounds) (known : MatchFacts A) (chosen : ChosenPart A) : Type 0 where
  pub ordered : chosen.window.start ≤ chosen.window.stop
  pub within : chosen.window.stop ≤ length chosen.row.items
  pub row : (chosen.row ≡ known.head) ⊎ (chosen.row ≡ known.best)
  pub enough : IsTrue chosen.is_enough → (bounds ≡ Any) × (chosen.window.start ≡ 0)
      × (chosen.window.stop ≡ length chosen.row.items)
      × ((IsTrue known.is_sure × (chosen.row ≡ known.head)) ⊎ (IsTrue known.is_best_sure × (chosen.row ≡ known.best)))
  pub head : IsTrue chosen.is_head → (chosen.row ≡ known.head) × (chosen.window.stop ≡ length chosen.row.items)
      × (chosen.window.start < chosen.window.stop)
