-- Worked examples of the definitions.
use Rattle.std.proofs.Common.{ℕ, ◌≡◌, ◌≢◌, ◌⊎◌, Bool, true, false, List, [], ◌∷◌, Option, None, Some, inl, inr}
use Rattle.std.proofs.Common.{codes, ap, refl, arith}
use Rattle.pg_bytes.specs.Sets.{empty, one, between, union, complement}
use Rattle.pg_bytes.specs.Classes.{digit}
use Rattle.pg_pattern.specs.Patterns.{Pattern, Empty, Set, Begin, Cat, Alt, Rep, folded}
use Rattle.pg_grammar.specs.Intervals as I
use Rattle.pg_grammar.specs.Intervals.{IsNumber, IsBounds}
use Rattle.pg_grammar.specs.Brackets as B
use Rattle.pg_grammar.specs.Brackets.{Element, Single, Enclosed, IsBracket}
use Rattle.pg_grammar.specs.Grammar as G
use Rattle.pg_grammar.specs.Grammar.{Atom, Piece, Body, Mark, Spells}
use Rattle.pg_grammar.specs.Places.{CanGoOn, CannotGoOn, PlaceIn, BytesStand}
use Rattle.pg_grammar.specs.declared.syntax.Syntax.{Syntax}
use Rattle.pg_grammar.specs.declared.syntax.Syntax.TheVariants.{Basic, Extended}
use Rattle.pg_grammar.specs.declared.pattern_list.Kind.TheVariants as K
use Rattle.pg_grammar.specs.declared.fault.FaultKind.TheVariants.{TrailingBackslash, BadEscape, BackReference, BadClass}
use Rattle.pg_grammar.specs.declared.fault.FaultKind.TheVariants.{BadRange, NothingToRepeat, EmptyOperand}

-- ---- intervals

three : IsNumber (codes "3") 3
three = record { some = λ e. cc; digits = refl; value = refl; small = omega arith }

twelve : IsNumber (codes "12") 12
twelve = record { some = λ e. cc; digits = refl; value = refl; small = omega arith }

two : IsNumber (codes "2") 2
two = record { some = λ e. cc; digits = refl; value = refl; small = omega arith }

bounds : IsBounds (codes "3,12") 3 (Some 12)
bounds = I.from_to {t = codes "3"} {u = codes "12"} three twelve (omega arith)

-- ---- brackets

range : IsBracket false (codes "[a-c]") (folded false (union (between 97 99) empty))
range = B.plain refl (B.single refl refl (B.single refl refl (B.single refl refl B.close)))
    (B.range refl refl refl (omega arith) refl B.none)

-- a `]` that stands first is an element, also behind a `^`
bracket_in_a_bracket : IsBracket false (codes "[^]a]")
    (complement (folded false (union (one 93) (union (one 97) empty))))
bracket_in_a_bracket = B.negated (B.single refl refl (B.single refl refl B.close))
    (B.alone refl refl (B.alone refl refl B.none))

-- a `-` ends a range, and one that stands last is itself
range_to_a_hyphen : IsBracket false (codes "[%--]") (folded false (union (between 37 45) empty))
range_to_a_hyphen = B.plain refl (B.single refl refl (B.single refl refl (B.single refl refl B.close)))
    (B.range refl refl refl (omega arith) refl B.none)

hyphen_at_the_end : IsBracket false (codes "[a-]") (folded false (union (one 97) (union (one 45) empty)))
hyphen_at_the_end = B.plain refl (B.single refl refl (B.single refl refl B.close))
    (B.alone refl refl (B.alone refl refl B.none))

digits_and_points : IsBracket false (codes "[[:digit:].]") (folded false (union digit (union (one 46) empty)))
digits_and_points = B.plain refl
    (B.enclosed {c = 58} {content = codes "digit"} {t = codes ".]"} refl refl (B.single refl refl B.close))
    (B.alone refl refl (B.alone refl refl B.none))

-- ---- expressions

-- the set of one byte, where case isn't folded
abbrev byte : ℕ → Pattern
byte b = Set (folded false (one b))

-- a byte that is no `*` may stand anywhere
not_star : {before : List ℕ} (b : ℕ) → b ≢ 42 → b ≡ 42 → (before ≡ []) ⊎ (before ≡ 94 ∷ [])
not_star b n e = absurd (n e)

a : (syntax : Syntax) {before after : List ℕ} {d : ℕ} → Atom syntax false before (codes "a") after (byte 97) d
a Basic = G.byte (refl, λ e. omega (arith, e), λ e. omega (arith, e), not_star 97 (omega arith))
a Extended = G.byte (refl, λ e. omega (arith, e))

piece_of_a : (syntax : Syntax) {before after : List ℕ} {d : ℕ} → Piece syntax false before (codes "a") after (byte 97) d
piece_of_a syntax = G.item (G.atom (a syntax))

body_of_a : (syntax : Syntax) {d : ℕ} → Body syntax false (codes "a") (byte 97) d
body_of_a syntax = G.single (G.first (piece_of_a syntax))

-- bytes side by side
two_bytes : (syntax : Syntax) → Body syntax false (codes "aa") (Cat (byte 97) (byte 97)) 0
two_bytes syntax = G.single (G.more {text = codes "a"} {next = codes "a"} (G.first (piece_of_a syntax))
    (piece_of_a syntax))

-- alternatives
alternatives : Body Extended false (codes "a|a") (Alt (byte 97) (byte 97)) 0
alternatives = G.bar {text = codes "a"} {next = codes "a"} refl (body_of_a Extended) (G.first (piece_of_a Extended))

alternatives_spelled : Spells K.Extended false (codes "a|a") (Alt (byte 97) (byte 97))
alternatives_spelled = G.some (omega arith) alternatives

-- a group is repeated as a whole
repeated_group : Body Extended false (codes "(aa)*") (Rep (Cat (byte 97) (byte 97)) 0 None) 0
repeated_group = G.single (G.first (G.item (G.marked {text = codes "(aa)"} {mark = codes "*"}
    (G.atom (G.group {text = codes "aa"} (omega arith)
    (G.single (G.more {text = codes "a"} {next = codes "a"} (G.first (piece_of_a Extended)) (piece_of_a Extended)))))
    G.star)))

-- each mark repeats all that stands to its left
two_marks : Body Extended false (codes "a+?") (Rep (Rep (byte 97) 1 None) 0 (Some 1)) 0
two_marks = G.single (G.first (G.item (G.marked {text = codes "a+"} {mark = codes "?"}
    (G.marked {text = codes "a"} {mark = codes "+"} (G.atom (a Extended)) (G.plus refl)) (G.question refl))))

-- an interval
twice : Body Basic false (codes "a\\{2\\}") (Rep (byte 97) 2 (Some 2)) 0
twice = G.single (G.first (G.item (G.marked {text = codes "a"} {mark = codes "\\{2\\}"} (G.atom (a Basic))
    (G.interval {t = codes "2"} (I.exactly two)))))

-- in a basic expression a `^` is an anchor where it stands first in a group, and in an extended one everywhere
anchor_in_a_group : Body Basic false (codes "\\(^a\\)") (Cat Begin (byte 97)) 0
anchor_in_a_group = G.single (G.first (G.item (G.atom (G.group {text = codes "^a"} (omega arith)
    (G.single (G.more {text = codes "^"} {next = codes "a"} (G.first (G.begin refl)) (piece_of_a Basic)))))))

byte_behind_a_byte : Body Basic false (codes "a^") (Cat (byte 97) (byte 94)) 0
byte_behind_a_byte = G.single (G.more {text = codes "a"} {next = codes "^"} (G.first (piece_of_a Basic))
    (G.item (G.atom (G.byte (refl, λ e n. cc, λ e. omega (arith, e), not_star 94 (omega arith))))))

anchor_behind_a_byte : Body Extended false (codes "a^") (Cat (byte 97) Begin) 0
anchor_behind_a_byte = G.single (G.more {text = codes "a"} {next = codes "^"} (G.first (piece_of_a Extended))
    (G.caret refl))

-- outside all groups a `)` of an extended expression is itself
parenthesis : Body Extended false (codes "a)") (Cat (byte 97) (byte 41)) 0
parenthesis = G.single (G.more {text = codes "a"} {next = codes ")"} (G.first (piece_of_a Extended))
    (G.item (G.atom (G.byte (refl, λ e. refl)))))

-- where case is folded a letter is both
folded_letter : Body Extended true (codes "a") (Set (folded true (one 97))) 0
folded_letter = G.single (G.first (G.item (G.atom (G.byte (refl, λ e. refl)))))

-- in a basic expression a `*` that stands first is itself
star_in_front : Body Basic false (codes "*a") (Cat (byte 42) (byte 97)) 0
star_in_front = G.single (G.more {text = codes "*"} {next = codes "a"} (G.first (G.item (G.atom (G.byte
    (refl, λ e. omega (arith, e), λ e. omega (arith, e), λ e. inl refl))))) (piece_of_a Basic))

-- in a basic expression a `*` behind the `^` in front is itself
star_behind_the_front : Body Basic false (codes "^*") (Cat Begin (byte 42)) 0
star_behind_the_front = G.single (G.more {text = codes "^"} {next = codes "*"} (G.first (G.begin refl))
    (G.item (G.atom (G.byte (refl, λ e. omega (arith, e), λ e. omega (arith, e), λ e. inr refl)))))

-- the empty text
nothing_spelled : Spells K.Basic false [] Empty
nothing_spelled = G.nothing

-- in a fixed string each byte is itself
star_in_a_fixed_string : Spells K.Fixed false (codes "a*") (Cat (byte 97) (byte 42))
star_in_a_fixed_string = G.some (omega arith) (G.more {text = codes "a"} (G.first 97) 42)

-- ---- places of faults

-- bytes that differ make elements and escapes that differ, and counts are the same only where their numbers are
abbrev byte_of : Element → ℕ
byte_of (Single b) = b
byte_of (Enclosed c content) = c

other_element : {b c : ℕ} → b ≢ c → Single b ≢ Single c
other_element n e = n (ap byte_of e)

abbrev second : List ℕ → ℕ
second [] = 0
second (b ∷ []) = 0
second (b ∷ c ∷ t) = c

other_escape : {b c : ℕ} → b ≢ c → 92 ∷ b ∷ [] ≢ 92 ∷ c ∷ []
other_escape n e = n (ap second e)

abbrev count : Option ℕ → ℕ
count None = 0
count (Some n) = n

same_count : {m n : ℕ} → Some m ≡ Some n → m ≡ n
same_count e = ap count e

nothing_goes_on : (syntax : Syntax) → CanGoOn syntax []
nothing_goes_on syntax = record { fold = false; groups = 0; pattern = byte 97; closed = body_of_a syntax }

backslash_at_the_end : PlaceIn Basic TrailingBackslash (codes "a\\") 1
backslash_at_the_end = (
  1,
  record { fold = false; groups = 0; pattern = Cat (byte 97) (byte 97); closed = two_bytes Basic },
  (refl, refl),
)

escape_without_a_meaning : PlaceIn Basic BadEscape (codes "\\q") 0
escape_without_a_meaning = (
  0,
  nothing_goes_on Basic,
  (
    refl,
    113,
    ((refl, other_escape (omega arith), other_escape (omega arith), other_escape (omega arith)), inr (omega arith)),
    ([], refl),
  ),
)

back_reference : PlaceIn Extended BackReference (codes "\\1") 0
back_reference = (0, nothing_goes_on Extended, (refl, 49, omega arith, omega arith, ([], refl)))

-- the fault of a range stands where it begins, and its token where the bracket does
range_upside_down : PlaceIn Extended BadRange (codes "[b-a]") 1
range_upside_down = (
  0,
  nothing_goes_on Extended,
  (
    Single 98,
    Single 97,
    codes "]",
    record {
      inside = (codes "b-a]", true, inl (refl, refl), B.begin, inl refl);
      from = codes "a]";
      begins = (refl, refl);
      ends = (refl, refl);
      inner = other_element (omega arith);
    },
    inl (λ m n low high. omega (arith, same_count low, same_count high)),
  ),
)

-- behind a range no other one begins
range_behind_a_range : PlaceIn Basic BadRange (codes "[a-c-e]") 1
range_behind_a_range = (
  0,
  nothing_goes_on Basic,
  (
    Single 97,
    Single 99,
    codes "-e]",
    record {
      inside = (codes "a-c-e]", true, inl (refl, refl), B.begin, inl refl);
      from = codes "c-e]";
      begins = (refl, refl);
      ends = (refl, refl);
      inner = other_element (omega arith);
    },
    inr (record {
      next = Single 101;
      from = codes "e]";
      rest = codes "]";
      dash = refl;
      front = (refl, refl);
      inner = other_element (omega arith);
    }),
  ),
)

class_that_there_is_not : PlaceIn Basic BadClass (codes "[[:foo:]]") 1
class_that_there_is_not = (
  0,
  nothing_goes_on Basic,
  record {
    content = codes "foo";
    rest = codes "]";
    inside = (codes "[:foo:]]", true, inl (refl, refl), B.begin, inl refl);
    front = (refl, refl, refl);
    nothing = refl;
  },
)

-- the last alternative is empty
nothing_behind_a_bar : PlaceIn Extended EmptyOperand (codes "a|") 2
nothing_behind_a_bar = (
  2,
  record { fold = false; groups = 0; pattern = Alt (byte 97) (byte 97); closed = alternatives },
  (refl, inr (inr (refl, record { fold = false; pattern = Alt (byte 97) (byte 97); filled = alternatives }))),
)

-- a `*` behind an item is no fault, whatever stands behind it
star_between : (fold : Bool) → Body Extended fold (codes "a*a")
    (Cat (Rep (Set (folded fold (one 97))) 0 None) (Set (folded fold (one 97)))) 0
star_between fold = G.single (G.more {text = codes "a*"} {next = codes "a"}
    (G.first (G.item (G.marked {text = codes "a"} {mark = codes "*"}
    (G.atom (G.byte (refl, λ e. refl))) G.star)))
    (G.item (G.atom (G.byte (refl, λ e. refl)))))

abbrev front : List ℕ → ℕ
front [] = 0
front (b ∷ t) = b

other_front : {b c : ℕ} {s t : List ℕ} → b ≢ c → b ∷ s ≢ c ∷ t
other_front n e = n (ap front e)

repeats : {mark : List ℕ} {m : ℕ} {n : Option ℕ} → Mark Extended mark m n → BytesStand (codes "a*\\q") 1 mark
    → CannotGoOn Extended (codes "a") mark → ⊥
repeats G.star (rest, is) cannot = cannot.none 0 _ (star_between cannot.fold)
repeats (G.plus e) (rest, is) cannot = other_front (omega arith) is
repeats (G.question e) (rest, is) cannot = other_front (omega arith) is
repeats (G.interval b) (rest, is) cannot = other_front (omega arith) is

something_to_repeat : PlaceIn Extended NothingToRepeat (codes "a*\\q") 1 → ⊥
something_to_repeat (token, goes_on, (is, mark, m, n, marks, (stands, cannot))) = repeats marks stands cannot
