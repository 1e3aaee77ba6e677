-- Worked examples of the classes of the C locale.
use Rattle.std.specs.Prelude.{ℕ, ◌≡◌, Bool, true, false, List, Option, Some, None, codes, refl}
use Rattle.pg_bytes.specs.Sets.{Bytes}
use Rattle.pg_bytes.specs.Classes.{class}

abbrev has : Option Bytes → ℕ → Bool
has None b = false
has (Some s) b = s b

-- the byte is one of the class
abbrev is_in : ℕ → List ℕ → Bool
is_in b name = has (class name) b

-- a vertical tab is white space, and no blank
white_space : is_in 11 (codes "space") ≡ true
white_space = refl

no_blank : is_in 11 (codes "blank") ≡ false
no_blank = refl

-- a space is printed, and has no glyph
printed_space : is_in 32 (codes "print") ≡ true
printed_space = refl

no_glyph : is_in 32 (codes "graph") ≡ false
no_glyph = refl

-- an underscore is punctuation, a digit and a letter aren't
underscore : is_in 95 (codes "punct") ≡ true
underscore = refl

no_punctuation : is_in 48 (codes "punct") ≡ false
no_punctuation = refl

-- F is a hexadecimal digit, G is none
hexadecimal_digit : is_in 70 (codes "xdigit") ≡ true
hexadecimal_digit = refl

no_digit : is_in 71 (codes "xdigit") ≡ false
no_digit = refl

-- the last byte of ASCII is a control character
delete : is_in 127 (codes "cntrl") ≡ true
delete = refl

-- bytes behind ASCII are in no class
letter_of_another_locale : is_in 228 (codes "alpha") ≡ false
letter_of_another_locale = refl

byte_without_a_glyph : is_in 128 (codes "print") ≡ false
byte_without_a_glyph = refl

-- names have one case, and there are no others
name_in_capitals : class (codes "DIGIT") ≡ None
name_in_capitals = refl

other_name : class (codes "word") ≡ None
other_name = refl
