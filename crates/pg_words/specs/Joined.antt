-- The words that `clap` is given: each value stands behind `=` in the word of its option, so that none of them is taken
-- for an option, and none loses a `=` of its own.
use Rattle.std.specs.Prelude.{Bool, true, false, ◌&&◌, not, is_some, if◌then◌else◌, List, [], ◌∷◌, ◌++◌, map}
use Rattle.std.specs.Prelude.{ℕ, ◌==◌, Option, Some, None, option_and_then, option_map}
use Rattle.clap.specs.Lexer.{long_of, short_of}
use Rattle.clap.specs.Walk.{attached_value}
use Rattle.pg_words.specs.Line.{Word, Opt, Given, Operand, Uses, by_letter, by_name, has_value, is_mark, table}
use Rattle.pg_words.specs.Line.{then_uses, valued}

-- ---- joining

abbrev pub takes_value : Option Opt → Bool
takes_value None = false
takes_value (Some o) = has_value o

-- the value in a bundle, or else behind it
abbrev pub behind_text : Word → Word → Word
behind_text [] tail = tail
behind_text (y ∷ ys) tail = 61 ∷ y ∷ ys

abbrev pub joined_letters : List Opt → Word → Word → Word
joined_letters os [] tail = []
joined_letters os (x ∷ rest) tail =
    x ∷ (if takes_value (by_letter os x) then behind_text rest tail else joined_letters os rest tail)

abbrev pub letters_wait : List Opt → Word → Bool
letters_wait os [] = false
letters_wait os (x ∷ rest) = if takes_value (by_letter os x) then not
    (is_some (attached_value rest)) else letters_wait os rest

abbrev pub joined_short : List Opt → Option Word → Word → Word → Word
joined_short os (Some flags) w tail = 45 ∷ joined_letters os flags tail
joined_short os None w tail = w

abbrev pub short_waits : List Opt → Option Word → Bool
short_waits os (Some flags) = letters_wait os flags
short_waits os None = false

abbrev pub long_waits : Option Opt → Option Word → Bool
long_waits f None = takes_value f
long_waits f (Some v) = false

abbrev pub joined_long : List Opt → Option (Word × Option Word) → Word → Word → Word
joined_long os (Some p) w tail = if long_waits (by_name os p.0) p.1 then w ++ tail else w
joined_long os None w tail = joined_short os (short_of w) w tail

abbrev pub long_or_short_waits : List Opt → Option (Word × Option Word) → Word → Bool
long_or_short_waits os (Some p) w = long_waits (by_name os p.0) p.1
long_or_short_waits os None w = short_waits os (short_of w)

-- the word ends with an option that waits for its value
abbrev pub waits : List Opt → Word → Bool
waits os w = long_or_short_waits os (long_of w) w

-- a word, with the value that it waits for, if it waits for one
abbrev pub joined_word : List Opt → Word → Word → Word
joined_word os w v = joined_long os (long_of w) w (61 ∷ v)

-- what the next word is
pub data NextWord : Type 0 where
  -- an option or an operand
  Free : NextWord
  -- the value of the option at the end of this word
  ValueOf : Word → NextWord
  -- an operand, since it stands behind `--`
  Rest : NextWord

unfoldable pub joined_from : List Opt → NextWord → List Word → List Word
joined_from os Free [] = []
joined_from os (ValueOf w) [] = w ∷ []
joined_from os Rest ws = ws
joined_from os (ValueOf w) (v ∷ ws) = joined_word os w v ∷ joined_from os Free ws
joined_from os Free (w ∷ ws) =
    if is_mark w then w ∷ ws
    else (if waits os w then joined_from os (ValueOf w) ws else (joined_word os w [] ∷ joined_from os Free ws))

-- ---- where a value stands

-- the letters up to the first whose option has a value, and what stands behind that
abbrev pub letters_cut : List Opt → Word → Option (Word × Word)
letters_cut os [] = None
letters_cut os (x ∷ rest) =
    if takes_value (by_letter os x) then Some (x ∷ [], rest)
    else option_map (λ cut. (x ∷ cut.0, cut.1)) (letters_cut os rest)

abbrev pub short_cut : List Opt → Option Word → Option (Word × Word)
short_cut os None = None
short_cut os (Some flags) = option_map (λ cut. (45 ∷ cut.0, cut.1)) (letters_cut os flags)

abbrev pub long_or_short_cut : List Opt → Option (Word × Option Word) → Word → Option (Word × Word)
long_or_short_cut os (Some p) w = if long_waits (by_name os p.0) p.1 then Some (w, []) else None
long_or_short_cut os None w = short_cut os (short_of w)

-- an option with a value in the word, and what stands behind it there
abbrev pub value_cut : List Opt → Word → Option (Word × Word)
value_cut os w = long_or_short_cut os (long_of w) w

-- the option of this letter has a value
abbrev pub letter_takes_value : ℕ → Bool
letter_takes_value x = takes_value (by_letter table x)

-- `-i` is one of the letters before a value
abbrev pub case_letters : Word → Bool
case_letters [] = false
case_letters (x ∷ rest) =
    if letter_takes_value x then false else (if x == 105 then true else case_letters rest)

-- ---- what joined words ask for

-- `--name` or `--name=value`
abbrev pub long : Option Opt → Option Word → Uses
long None v = None
long (Some o) None = if has_value o then None else Some (Given o [] ∷ [])
long (Some o) (Some v) = if has_value o then valued o v else None

-- `-abc`: flags, the last of which may be an option with its value behind it
abbrev pub letter : Option Opt → Word → Uses → Uses
letter None rest next = None
letter (Some o) rest next =
    if has_value o then option_and_then (valued o) (attached_value rest) else then_uses (Some (Given o [] ∷ [])) next

abbrev pub letters : List Opt → Word → Uses
letters os [] = Some []
letters os (x ∷ rest) = letter (by_letter os x) rest (letters os rest)

abbrev pub short_word : List Opt → Option Word → Word → Uses
short_word os (Some flags) w = letters os flags
short_word os None w = Some (Operand w ∷ [])

abbrev pub long_word : List Opt → Option (Word × Option Word) → Word → Uses
long_word os (Some p) w = long (by_name os p.0) p.1
long_word os None w = short_word os (short_of w) w

abbrev pub word : List Opt → Word → Uses
word os w = long_word os (long_of w) w

-- words that hold the values of their options
unfoldable pub asked : List Opt → List Word → Uses
asked os [] = Some []
asked os (w ∷ ws) = if is_mark w then Some (map Operand ws) else then_uses (word os w) (asked os ws)

-- no word before `--` but the last waits for its value
unfoldable pub complete : List Opt → List Word → Bool
complete os [] = true
complete os (w ∷ []) = true
complete os (w ∷ x ∷ ws) = if is_mark w then true else (not (waits os w) && complete os (x ∷ ws))
