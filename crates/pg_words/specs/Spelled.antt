-- Further ways to write options: `-y` is `-i`, `-r` and `--recursive` are `--directories=recurse`, `-R` and
-- `--dereference-recursive` are that too, and digits among the letters of a word are the number of -C. So `-n12ye x` is
-- `-n -C12 -i -e x`, where each letter has a word of its own. As `getopt_long` has it, a long name may be cut short
-- where that leaves one option: `--inc=x` is `--include=x`. The value of `--color` stands in its word alone, or is left
-- out: `--color x` is `--color=auto x`.
use Rattle.std.specs.Prelude.{ℕ, ◌==◌, ◌&&◌, ◌||◌, Bool, false, not, if◌then◌else◌, List, [], ◌∷◌, ◌++◌, Option, Some}
use Rattle.std.specs.Prelude.{None, codes, filter, is_some, length, map, slice_index, take, unwrap_or}
use Rattle.std.specs.Char.{is_ascii_digit}
use Rattle.std.specs.List.{list_any}
use Rattle.std.specs.Str.{bytes_eq}
use Rattle.clap.specs.Lexer.{long_of, short_of}
use Rattle.pg_words.specs.Joined.{NextWord, Free, ValueOf, Rest, waits}
use Rattle.pg_words.specs.Line.{Word, Opt, Uses, by_letter, by_name, has_value, is_mark, table, uses_from}

-- ---- long names that are cut short

-- the name begins so
abbrev pub begins : Word → Word → Bool
begins name start = bytes_eq start (take (length start) name)

-- a long name of the option begins so; `--always-spread`, which serves tests alone, is never cut
abbrev pub is_begun : Word → Opt → Bool
is_begun start o =
    not (bytes_eq o.name (codes "always-spread"))
    && (begins o.name start || list_any (λ other. begins other start) o.others)

-- the first names of the options that may be meant
abbrev pub names_begun : List Opt → Word → List Word
names_begun os start = map (λ o. o.name) (filter (is_begun start) os)

-- the text that is alone in a list
abbrev pub only_one : List Word → Option Word
only_one [] = None
only_one (t ∷ []) = Some t
only_one (t ∷ u ∷ ts) = None

-- the name in full: one that is a long name stays, as does one that begins those of no option or of several
unfoldable pub full_name : List Opt → Word → Word
full_name os name =
    if is_some (by_name os name) then name else unwrap_or (only_one (names_begun os name)) name

-- `--color` and `--colour`
abbrev pub is_color : Word → Bool
is_color name = bytes_eq name (codes "color") || bytes_eq name (codes "colour")

-- the word for a name: `--recursive` is `--directories=recurse`, `--dereference-recursive` is `-R`, and `--color`
-- without a value is `--color=auto`
abbrev pub name_word : Word → Word
name_word name =
    if bytes_eq name (codes "recursive") then codes "--directories=recurse"
    else (if bytes_eq name (codes "dereference-recursive") then codes "-R"
    else (if is_color name then codes "--color=auto" else codes "--" ++ name))

abbrev pub full_long : List Opt → Word → Option Word → Word
full_long os name None = name_word (full_name os name)
full_long os name (Some v) = codes "--" ++ full_name os name ++ 61 ∷ v

abbrev pub full_or_same : List Opt → Option (Word × Option Word) → Word → Word
full_or_same os None w = w
full_or_same os (Some p) w = full_long os p.0 p.1

-- a word with its long name in full
abbrev pub full_word : List Opt → Word → Word
full_word os w = full_or_same os (long_of w) w

-- ---- letters and digits

-- the letter that this one is another name of: `-y` (121) is `-i` (105)
abbrev pub newer_letter : ℕ → ℕ
newer_letter x = if x == 121 then 105 else x

-- the words for a letter: `-r` (114) is `-d recurse`, and `-R` (82) stands beside it
abbrev pub flag_words : ℕ → List Word
flag_words x =
    if x == 114 then codes "-drecurse" ∷ []
    else (if x == 82 then codes "-R" ∷ codes "-drecurse" ∷ [] else (45 ∷ x ∷ []) ∷ [])

-- an option without a value
abbrev pub is_flag : Option Opt → Bool
is_flag None = false
is_flag (Some o) = not (has_value o)

-- -C with these digits, where there are any
abbrev pub number_words : Word → List Word
number_words digits = if length digits == 0 then [] else (codes "-C" ++ digits) ∷ []

-- a word from a letter on whose option has a value, or that is none of ours; a hyphen is no letter, and its word is
-- refused as it is
abbrev pub rest_word : Word → Word → Word
rest_word w rest = if slice_index rest 0 == 45 then w else 45 ∷ rest

-- the words for these letters of the word, behind these digits
abbrev pub letter_words : List Opt → Word → Word → Word → List Word
letter_words os w digits [] = number_words digits
letter_words os w digits (x ∷ rest) =
    if is_ascii_digit x then letter_words os w (digits ++ x ∷ []) rest
    else (if is_flag (by_letter os (newer_letter x))
    then number_words digits ++ flag_words (newer_letter x) ++ letter_words os w [] rest
    else number_words digits ++ rest_word w (x ∷ rest) ∷ [])

-- a word that holds no letters stays as it is
abbrev pub short_words : List Opt → Option Word → Word → List Word
short_words os None w = w ∷ []
short_words os (Some letters) w = letter_words os w [] letters

abbrev pub spelled_word : List Opt → Word → List Word
spelled_word os w = short_words os (short_of w) w

-- what follows this word: the value of its last option, if that waits for it
abbrev pub place_behind : List Opt → Word → NextWord
place_behind os w = if waits os (full_word os w) then ValueOf w else Free

unfoldable pub spelled_from : List Opt → NextWord → List Word → List Word
spelled_from os Free [] = []
spelled_from os (ValueOf o) [] = []
spelled_from os Rest ws = ws
spelled_from os (ValueOf o) (w ∷ ws) = w ∷ spelled_from os Free ws
spelled_from os Free (w ∷ ws) =
    if is_mark w then w ∷ ws else spelled_word os (full_word os w) ++ spelled_from os (place_behind os w) ws

-- what the words of a command line come to
abbrev pub uses_in : List Word → Uses
uses_in words = uses_from table (spelled_from table Free words) None
