-- Worked examples of the definitions.
use Rattle.std.specs.Prelude.{◌≡◌, true, false, [], ◌∷◌, codes, refl}
use Rattle.pg_bytes.specs.Sets.{all, between, complement, empty, one, union}
use Rattle.pg_bytes.specs.Classes.{digit}
use Rattle.pg_glob.specs.Brackets.{bracket_at, class_at, is_enclosed, member_at, members_at, range_end, single}
use Rattle.pg_glob.specs.Globs.{AnyBytes, OneOf, matches, piece, pieces_of}

-- ---- how texts are read

star_and_ending_read : pieces_of (codes "*.c") ≡ AnyBytes ∷ OneOf (one 46) ∷ OneOf (one 99) ∷ []
unfolding piece
star_and_ending_read = refl

question_mark_read : pieces_of (codes "?") ≡ OneOf all ∷ []
unfolding piece
question_mark_read = refl

quoted_star_read : pieces_of (codes "\\*") ≡ OneOf (one 42) ∷ []
unfolding piece
quoted_star_read = refl

backslash_at_the_end_read : pieces_of (codes "a\\") ≡ OneOf (one 97) ∷ OneOf empty ∷ []
unfolding piece
backslash_at_the_end_read = refl

bracket_without_its_end_read : pieces_of (codes "a[") ≡ OneOf (one 97) ∷ OneOf (one 91) ∷ []
unfolding piece bracket_at members_at
bracket_without_its_end_read = refl

complement_read :
    pieces_of (codes "[!a-c]x") ≡ OneOf (complement (union empty (between 97 99))) ∷ OneOf (one 120) ∷ []
unfolding piece bracket_at members_at member_at single class_at range_end is_enclosed
complement_read = refl

bracket_and_hyphen_read : pieces_of (codes "[]-]") ≡ OneOf (union (union empty (one 93)) (one 45)) ∷ []
unfolding piece bracket_at members_at member_at single class_at range_end is_enclosed
bracket_and_hyphen_read = refl

class_read : pieces_of (codes "[[:digit:]]") ≡ OneOf (union empty digit) ∷ []
unfolding piece bracket_at members_at member_at single class_at range_end is_enclosed
class_read = refl

hyphen_between_dots_read : pieces_of (codes "[[.-.]]") ≡ OneOf (union empty (one 45)) ∷ []
unfolding piece bracket_at members_at member_at single class_at range_end is_enclosed
hyphen_between_dots_read = refl

-- ---- what they match

-- the ending that is asked for
named_ending : matches (pieces_of (codes "*.c")) (codes "a.c") ≡ true
unfolding piece
named_ending = refl

other_ending : matches (pieces_of (codes "*.c")) (codes "a.cc") ≡ false
unfolding piece
other_ending = refl

-- a `*` may take nothing, a leading dot or a slash
star_takes_nothing : matches (pieces_of (codes "*.c")) (codes ".c") ≡ true
unfolding piece
star_takes_nothing = refl

star_takes_a_slash : matches (pieces_of (codes "*.c")) (codes "d/a.c") ≡ true
unfolding piece
star_takes_a_slash = refl

-- a `?` takes one byte
one_byte : matches (pieces_of (codes "?")) (codes "a") ≡ true
unfolding piece
one_byte = refl

no_byte : matches (pieces_of (codes "?")) (codes "") ≡ false
unfolding piece
no_byte = refl

two_bytes : matches (pieces_of (codes "?")) (codes "ab") ≡ false
unfolding piece
two_bytes = refl

-- a bracket and its complement
not_in_the_range : matches (pieces_of (codes "[!a-c]x")) (codes "dx") ≡ true
unfolding piece bracket_at members_at member_at single class_at range_end is_enclosed
not_in_the_range = refl

in_the_range : matches (pieces_of (codes "[!a-c]x")) (codes "bx") ≡ false
unfolding piece bracket_at members_at member_at single class_at range_end is_enclosed
in_the_range = refl

caret_complements : matches (pieces_of (codes "[^a-c]x")) (codes "bx") ≡ false
unfolding piece bracket_at members_at member_at single class_at range_end is_enclosed
caret_complements = refl

-- a `]` that comes first and a hyphen that comes last are members
first_bracket_is_a_member : matches (pieces_of (codes "[]-]")) (codes "]") ≡ true
unfolding piece bracket_at members_at member_at single class_at range_end is_enclosed
first_bracket_is_a_member = refl

last_hyphen_is_a_member : matches (pieces_of (codes "[]-]")) (codes "-") ≡ true
unfolding piece bracket_at members_at member_at single class_at range_end is_enclosed
last_hyphen_is_a_member = refl

neither : matches (pieces_of (codes "[]-]")) (codes "a") ≡ false
unfolding piece bracket_at members_at member_at single class_at range_end is_enclosed
neither = refl

-- classes
a_digit : matches (pieces_of (codes "[[:digit:]]")) (codes "7") ≡ true
unfolding piece bracket_at members_at member_at single class_at range_end is_enclosed
a_digit = refl

no_digit : matches (pieces_of (codes "[[:digit:]]")) (codes "a") ≡ false
unfolding piece bracket_at members_at member_at single class_at range_end is_enclosed
no_digit = refl

no_such_class : matches (pieces_of (codes "[[:nothing:]]")) (codes "n") ≡ false
unfolding piece bracket_at members_at member_at single class_at range_end is_enclosed
no_such_class = refl

upper_case_is_no_name : matches (pieces_of (codes "[[:A:]")) (codes "A") ≡ true
unfolding piece bracket_at members_at member_at single class_at range_end is_enclosed
upper_case_is_no_name = refl

-- a backslash quotes, and at the end matches nothing
quoted_star_is_a_byte : matches (pieces_of (codes "\\*")) (codes "*") ≡ true
unfolding piece
quoted_star_is_a_byte = refl

quoted_star_is_no_star : matches (pieces_of (codes "\\*")) (codes "a") ≡ false
unfolding piece
quoted_star_is_no_star = refl

quoted_in_a_bracket : matches (pieces_of (codes "[\\]]")) (codes "]") ≡ true
unfolding piece bracket_at members_at member_at single class_at range_end is_enclosed
quoted_in_a_bracket = refl

nothing_quoted : matches (pieces_of (codes "a\\")) (codes "a\\") ≡ false
unfolding piece
nothing_quoted = refl

-- a `[` without its `]` is a byte
no_bracket : matches (pieces_of (codes "a[")) (codes "a[") ≡ true
unfolding piece bracket_at members_at member_at single class_at range_end is_enclosed
no_bracket = refl

-- a byte in `[.` and `.]` or in `[=` and `=]`; the second begins no range
dots_enclose : matches (pieces_of (codes "[[.-.]]")) (codes "-") ≡ true
unfolding piece bracket_at members_at member_at single class_at range_end is_enclosed
dots_enclose = refl

dots_begin_a_range : matches (pieces_of (codes "[[.a.]-c]")) (codes "b") ≡ true
unfolding piece bracket_at members_at member_at single class_at range_end is_enclosed
dots_begin_a_range = refl

equals_begin_no_range : matches (pieces_of (codes "[[=a=]-c]")) (codes "b") ≡ false
unfolding piece bracket_at members_at member_at single class_at range_end is_enclosed
equals_begin_no_range = refl

-- each `*` takes what it has to
later_place : matches (pieces_of (codes "*a*b")) (codes "xaxxb") ≡ true
unfolding piece
later_place = refl

no_place : matches (pieces_of (codes "*a*b")) (codes "xaxxbx") ≡ false
unfolding piece
no_place = refl
