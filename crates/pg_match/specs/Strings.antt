-- The patterns that fixed strings spell (XCU grep, -F).
use Rattle.std.specs.Prelude.{ℕ, Bool, List, [], ◌∷◌, map}
use Rattle.std.specs.Borrow.{Bor}
use Rattle.pg_bytes.specs.Sets.{one}
use Rattle.pg_pattern.specs.Patterns.{Pattern, Empty, Set, Cat, folded}

-- a pattern, and bytes behind it, with both cases of letters where case is folded
abbrev pub with_string : Bool → Pattern → List ℕ → Pattern
with_string fold p [] = p
with_string fold p (b ∷ text) = with_string fold (Cat p (Set (folded fold (one b)))) text

-- the pattern of a string: its bytes, one behind the other; of the empty string the empty pattern
abbrev pub string_pattern : Bool → List ℕ → Pattern
string_pattern fold [] = Empty
string_pattern fold (b ∷ text) = with_string fold (Set (folded fold (one b))) text

-- the patterns of strings, in their order
abbrev pub string_patterns : Bool → List (Bor (List ℕ)) → List Pattern
string_patterns fold strings = map (λ string. string_pattern fold string.now) strings
