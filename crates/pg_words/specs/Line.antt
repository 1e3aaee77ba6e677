-- The command line: its options as data, and what its words ask for. Letters without a value may stand in one word
-- behind one hyphen (XBD 12.2, guideline 5), the value of an option is the rest of its word or else the next word,
-- whatever that is (6 and 7), and `--` ends the options (10). As `getopt_long` has it, options may also stand behind
-- operands, and each has a long name: `--name`, `--name value` or `--name=value`.
use Rattle.std.specs.Prelude.{ℕ, ◌==◌, ◌||◌, Bool, true, false, if◌then◌else◌, List, [], ◌∷◌, ◌++◌, map}
use Rattle.std.specs.Prelude.{Option, Some, None, option_map, find, codes, pos, slice_get}
use Rattle.std.specs.List.{list_any}
use Rattle.std.specs.Option.{option_map_or}
use Rattle.std.specs.Str.{bytes_eq}
use Rattle.clap.specs.ValueTests.{is_signed_in}
use Rattle.clap.specs.Lexer.{long_of, short_of}

abbrev pub Word : Type 0
Word = List ℕ

-- ---- the options

-- what stands behind an option
pub data Value : Type 0 where
  Nothing : Value
  -- whatever it is
  AnyText : Value
  -- a decimal number from the first to the second one
  Number : ℕ → ℕ → Value

-- an option: its letter, its long name and further ones, and what stands behind it
pub record Opt : Type 0 where
  pub letter : Option ℕ
  pub name : Word
  pub others : List Word
  pub value : Value

-- an option with this letter, or with none where that is empty
abbrev pub opt : Word → Word → Value → Opt
opt letter name value = record { letter = slice_get letter 0; name = name; others = []; value = value }

abbrev pub table : List Opt
table = record (opt (codes "q") (codes "quiet") Nothing) { others = codes "silent" ∷ [] }
    ∷ opt (codes "E") (codes "extended-regexp") Nothing
    ∷ opt (codes "F") (codes "fixed-strings") Nothing
    ∷ opt (codes "G") (codes "basic-regexp") Nothing
    ∷ opt (codes "P") (codes "perl-regexp") Nothing
    ∷ opt (codes "i") (codes "ignore-case") Nothing
    ∷ opt [] (codes "no-ignore-case") Nothing
    ∷ opt (codes "v") (codes "invert-match") Nothing
    ∷ opt (codes "w") (codes "word-regexp") Nothing
    ∷ opt (codes "x") (codes "line-regexp") Nothing
    ∷ opt (codes "z") (codes "null-data") Nothing
    ∷ opt (codes "e") (codes "regexp") AnyText
    ∷ opt (codes "f") (codes "file") AnyText
    ∷ opt (codes "o") (codes "only-matching") Nothing
    ∷ opt (codes "c") (codes "count") Nothing
    ∷ opt (codes "l") (codes "files-with-matches") Nothing
    ∷ opt (codes "L") (codes "files-without-match") Nothing
    ∷ opt (codes "Z") (codes "null") Nothing
    ∷ opt (codes "b") (codes "byte-offset") Nothing
    ∷ opt (codes "n") (codes "line-number") Nothing
    ∷ opt (codes "T") (codes "initial-tab") Nothing
    ∷ opt (codes "H") (codes "with-filename") Nothing
    ∷ opt (codes "h") (codes "no-filename") Nothing
    ∷ opt [] (codes "label") AnyText
    ∷ opt (codes "m") (codes "max-count") (Number 1 4294967295)
    ∷ opt (codes "A") (codes "after-context") (Number 0 4294967295)
    ∷ opt (codes "B") (codes "before-context") (Number 0 65535)
    ∷ opt (codes "C") (codes "context") (Number 0 65535)
    ∷ opt [] (codes "group-separator") AnyText
    ∷ opt [] (codes "no-group-separator") Nothing
    ∷ record (opt [] (codes "color") AnyText) { others = codes "colour" ∷ [] }
    ∷ opt (codes "r") (codes "recursive") Nothing
    ∷ opt (codes "R") (codes "dereference-recursive") Nothing
    ∷ opt (codes "d") (codes "directories") AnyText
    ∷ opt (codes "D") (codes "devices") AnyText
    ∷ opt [] (codes "include") AnyText
    ∷ opt [] (codes "exclude") AnyText
    ∷ opt [] (codes "exclude-from") AnyText
    ∷ opt [] (codes "exclude-dir") AnyText
    ∷ opt (codes "s") (codes "no-messages") Nothing
    ∷ opt (codes "a") (codes "text") Nothing
    ∷ opt (codes "U") (codes "binary") Nothing
    ∷ opt [] (codes "binary-files") AnyText
    ∷ opt [] (codes "line-buffered") Nothing
    ∷ opt [] (codes "workers") (Number 1 64)
    ∷ opt [] (codes "block") (Number 1 16777216)
    ∷ opt [] (codes "round") (Number 1 1024)
    ∷ opt [] (codes "always-spread") Nothing
    ∷ opt [] (codes "help") Nothing
    ∷ opt (codes "V") (codes "version") Nothing
    ∷ []

-- something stands behind the option
abbrev pub has_value : Opt → Bool
has_value o = elim o.value [ Nothing ↦ false | AnyText ↦ true | Number low high ↦ true ]

-- this may stand behind the option; a number may have a sign
abbrev pub fits_value : Value → Word → Bool
fits_value Nothing v = true
fits_value AnyText v = true
fits_value (Number low high) v = is_signed_in (pos low) (pos high) v

abbrev pub by_letter : List Opt → ℕ → Option Opt
by_letter os x = find (λ o. option_map_or (λ letter. letter == x) o.letter false) os

-- by a long name in full
abbrev pub by_name : List Opt → Word → Option Opt
by_name os name = find (λ o. bytes_eq o.name name || list_any (λ other. bytes_eq other name) o.others) os

-- by its first name alone
abbrev pub own : List Opt → Word → Option Opt
own os name = find (λ o. bytes_eq o.name name) os

-- ---- what words ask for

-- an option with its value, or with the empty text where it has none; or an operand
pub data Use : Type 0 where
  Given : Opt → Word → Use
  Operand : Word → Use

-- what words come to, from left to right; or nothing where they are refused
abbrev pub Uses : Type 0
Uses = Option (List Use)

abbrev pub then_uses : Uses → Uses → Uses
then_uses None next = None
then_uses (Some us) next = option_map (λ rest. us ++ rest) next

-- an option and its value
abbrev pub valued : Opt → Word → Uses
valued o v = if fits_value o.value v then Some (Given o v ∷ []) else None

-- what one word comes to: its uses, and the option that waits for its value, which is the next word
abbrev pub Read : Type 0
Read = Option (List Use × Option Opt)

abbrev pub with_use : Use → Read → Read
with_use u None = None
with_use u (Some p) = Some (u ∷ p.0, p.1)

abbrev pub read_value : Opt → Word → Read
read_value o v = option_map (λ us. (us, None)) (valued o v)

-- behind a letter whose option has a value
abbrev pub read_rest : Opt → Word → Read
read_rest o [] = Some ([], Some o)
read_rest o (x ∷ rest) = read_value o (x ∷ rest)

abbrev pub read_letter : Option Opt → Word → Read → Read
read_letter None rest next = None
read_letter (Some o) rest next = if has_value o then read_rest o rest else with_use (Given o []) next

-- `-abc`
abbrev pub read_letters : List Opt → Word → Read
read_letters os [] = Some ([], None)
read_letters os (x ∷ rest) = read_letter (by_letter os x) rest (read_letters os rest)

-- `--name` and `--name=value`
abbrev pub read_long : Option Opt → Option Word → Read
read_long None v = None
read_long (Some o) None = if has_value o then Some ([], Some o) else Some (Given o [] ∷ [], None)
read_long (Some o) (Some v) = if has_value o then read_value o v else None

-- a word behind one hyphen holds letters; any other is an operand, `-` too
abbrev pub read_short_word : List Opt → Option Word → Word → Read
read_short_word os (Some flags) w = read_letters os flags
read_short_word os None w = Some (Operand w ∷ [], None)

-- a word behind two hyphens is a long name, with its value behind the first `=`
abbrev pub read_long_word : List Opt → Option (Word × Option Word) → Word → Read
read_long_word os (Some p) w = read_long (by_name os p.0) p.1
read_long_word os None w = read_short_word os (short_of w) w

abbrev pub read_word : List Opt → Word → Read
read_word os w = read_long_word os (long_of w) w

abbrev pub followed : Read → (Option Opt → Uses) → Uses
followed None next = None
followed (Some p) next = then_uses (Some p.0) (next p.1)

abbrev pub is_mark : Word → Bool
is_mark w = bytes_eq w (codes "--")

-- all words, where an option may wait for its value
unfoldable pub uses_from : List Opt → List Word → Option Opt → Uses
uses_from os [] None = Some []
uses_from os [] (Some o) = None
uses_from os (w ∷ ws) (Some o) = then_uses (valued o w) (uses_from os ws None)
uses_from os (w ∷ ws) None =
    if is_mark w then Some (map Operand ws) else followed (read_word os w) (uses_from os ws)

-- ---- what uses come to

-- the values of the option of this name, in their order
abbrev pub values_of : Word → List Use → List Word
values_of name [] = []
values_of name (Given o v ∷ us) = if bytes_eq o.name name then v ∷ values_of name us else values_of name us
values_of name (Operand v ∷ us) = values_of name us

abbrev pub operands_of : List Use → List Word
operands_of [] = []
operands_of (Given o v ∷ us) = operands_of us
operands_of (Operand v ∷ us) = v ∷ operands_of us

abbrev pub some_text : List Word → Bool
some_text [] = false
some_text (v ∷ vs) = true

abbrev pub is_given : Word → List Use → Bool
is_given name us = some_text (values_of name us)

-- -i ignores case, and --no-ignore-case doesn't
abbrev pub case_by : Word → Bool → Bool
case_by name before =
    if bytes_eq name (codes "ignore-case") then true
    else (if bytes_eq name (codes "no-ignore-case") then false else before)

-- the last of these options counts
abbrev pub case_after : List Use → Bool → Bool
case_after [] before = before
case_after (Given o v ∷ us) before = case_after us (case_by o.name before)
case_after (Operand v ∷ us) before = case_after us before

-- case is ignored
abbrev pub ignores_case : List Use → Bool
ignores_case us = case_after us false

-- --group-separator gives a text, and --no-group-separator takes it away
abbrev pub separator_by : Word → Word → Option Word → Option Word
separator_by name v before =
    if bytes_eq name (codes "group-separator") then Some v
    else (if bytes_eq name (codes "no-group-separator") then None else before)

-- the last of these options counts
abbrev pub separator_after : List Use → Option Word → Option Word
separator_after [] before = before
separator_after (Given o v ∷ us) before = separator_after us (separator_by o.name v before)
separator_after (Operand v ∷ us) before = separator_after us before

-- the text between groups of lines, if there is one; without these options it is two hyphens
abbrev pub separator_in : List Use → Option Word
separator_in us = separator_after us (Some (codes "--"))

-- which files are searched: --include keeps those whose name this pattern matches, --exclude leaves them out, and so
-- --exclude-from those that a pattern in this file matches
pub data Filter : Type 0 where
  Include : Word → Filter
  Exclude : Word → Filter
  ExcludeFrom : Word → Filter

abbrev pub filter_by : Word → Word → List Filter
filter_by name v =
    if bytes_eq name (codes "include") then Include v ∷ []
    else (if bytes_eq name (codes "exclude") then Exclude v ∷ []
    else (if bytes_eq name (codes "exclude-from") then ExcludeFrom v ∷ [] else []))

-- --include, --exclude and --exclude-from, in their order
abbrev pub filters_in : List Use → List Filter
filters_in [] = []
filters_in (Given o v ∷ us) = filter_by o.name v ++ filters_in us
filters_in (Operand v ∷ us) = filters_in us

-- the last of the texts, or this one where there is none
abbrev pub last_of : List Word → Option Word → Option Word
last_of [] before = before
last_of (v ∷ vs) before = last_of vs (Some v)

abbrev pub last_value : Word → List Use → Option Word
last_value name us = last_of (values_of name us) None
