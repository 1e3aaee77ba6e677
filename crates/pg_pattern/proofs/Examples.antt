-- Worked examples of the definitions.
use Rattle.std.specs.Prelude.{◌≡◌, ℕ, ◌==◌, true, false, List, [], ◌∷◌, codes, Some, None, refl}
use Rattle.pg_pattern.specs.Patterns.{Pattern, Empty, Set, Begin, End, Cat, Alt, Rep}
use Rattle.pg_pattern.specs.Tests.{is_match, has_hit}
use Rattle.pg_pattern.specs.Parts.{parts, parts_from}
use Rattle.pg_pattern.specs.declared.bounds.Bounds.TheVariants.{Any, Word, Whole}

-- a text, one byte behind the other
abbrev text : List ℕ → Pattern
text [] = Empty
text (b ∷ bs) = Cat (Set (λ c. c == b)) (text bs)

-- a repetition without a greatest count
abbrev any_number : Pattern → Pattern
any_number p = Rep p 0 None

-- ---- what a pattern matches

-- a repetition goes on to its greatest count and no further, and not below its least
abbrev two_or_three : Pattern
two_or_three = Rep (text (codes "a")) 2 (Some 3)

too_few : is_match two_or_three (codes "aaaa") 0 1 ≡ false
too_few = refl

enough : is_match two_or_three (codes "aaaa") 0 3 ≡ true
enough = refl

too_many : is_match two_or_three (codes "aaaa") 0 4 ≡ false
too_many = refl

-- `(a*)*b`: spans of a repetition may be empty, and of several bytes
abbrev stars_and_b : Pattern
stars_and_b = Cat (any_number (any_number (text (codes "a")))) (text (codes "b"))

repeated_repetition : is_match stars_and_b (codes "aab") 0 3 ≡ true
repeated_repetition = refl

repeated_nothing : is_match stars_and_b (codes "b") 0 1 ≡ true
repeated_nothing = refl

other_byte : is_match stars_and_b (codes "cb") 0 2 ≡ false
other_byte = refl

-- a least count above the bytes is met by empty spans
empty_spans : is_match (Rep (any_number (text (codes "a"))) 4 None) (codes "a") 0 1 ≡ true
empty_spans = refl

-- the anchors stand at the ends of the line alone
begin_within : is_match (Cat (text (codes "a")) Begin) (codes "ab") 0 1 ≡ false
begin_within = refl

end_of_line : is_match (Cat (text (codes "ab")) End) (codes "ab") 0 2 ≡ true
end_of_line = refl

-- ---- which lines are selected

empty_pattern : has_hit (Empty ∷ []) Any [] ≡ true
unfolding has_hit
empty_pattern = refl

no_pattern : has_hit [] Any (codes "a") ≡ false
unfolding has_hit
no_pattern = refl

-- with -w a word of its own, and with -x the whole line
part_of_word : has_hit (text (codes "ab") ∷ []) Word (codes "abc") ≡ false
unfolding has_hit
part_of_word = refl

word_alone : has_hit (text (codes "ab") ∷ []) Word (codes "c-ab") ≡ true
unfolding has_hit
word_alone = refl

not_whole : has_hit (text (codes "ab") ∷ []) Whole (codes "ab-") ≡ false
unfolding has_hit
not_whole = refl

whole : has_hit (text (codes "b") ∷ text (codes "ab") ∷ []) Whole (codes "ab") ≡ true
unfolding has_hit
whole = refl

-- ---- the parts of a line

-- `a|ab|abc`: the longest from the first place, and then on from its end
abbrev alternatives : Pattern
alternatives = Alt (text (codes "a")) (Alt (text (codes "ab")) (text (codes "abc")))

longest_alternative : parts (alternatives ∷ []) Any (codes "abcab") ≡ (0, 3) ∷ (3, 5) ∷ []
unfolding parts_from
longest_alternative = refl

-- `x*`: its empty spans are no parts
no_empty_part : parts (any_number (text (codes "x")) ∷ []) Any (codes "axxbx") ≡ (1, 3) ∷ (4, 5) ∷ []
unfolding parts_from
no_empty_part = refl

-- of several patterns the longest, too
longest_pattern : parts (text (codes "ab") ∷ text (codes "b") ∷ []) Any (codes "abb") ≡ (0, 2) ∷ (2, 3) ∷ []
unfolding parts_from
longest_pattern = refl

-- `a` and `a-b` with -w: a shorter match counts where the longer one is not a word of its own
words : parts (text (codes "a") ∷ text (codes "a-b") ∷ []) Word (codes "a-bc a") ≡ (0, 1) ∷ (5, 6) ∷ []
unfolding parts_from
words = refl
