-- What the words of a command line ask for.
use Rattle.std.specs.Prelude.{ℕ, ◌+◌, ◌||◌, Bool, not, if◌then◌else◌, List, [], ◌∷◌, codes, length, map, take, drop}
use Rattle.std.specs.Prelude.{Option, Some, None, is_some, option_and_then, option_map, unwrap_or}
use Rattle.std.specs.List.{filter, list_any}
use Rattle.std.specs.Str.{bytes_eq, str_eq_ignore_ascii_case}
use Rattle.std.specs.Str.Parse.{digits_value, without_leading_sign}
use Rattle.pg_rows.specs.Separator.{separator_for}
use Rattle.pg_rows.specs.declared.format.Mode.{Mode}
use Rattle.pg_words.specs.Asked.{Asked, Pace}
use Rattle.pg_words.specs.Line.{Word, Use, Uses, filters_in, ignores_case, is_given, last_value, operands_of, some_text}
use Rattle.pg_words.specs.Line.{separator_in, values_of}
use Rattle.pg_words.specs.Operands.{searched}
use Rattle.pg_words.specs.Spelled.{uses_in}
use Rattle.pg_words.specs.Options.{format_of_options, given_modes, kind_of_options, modes, naming_of}
use Rattle.pg_words.specs.Usage.{usage_fault}
use Rattle.pg_words.specs.declared.options.DirectoryAction.{DirectoryAction}
use Rattle.pg_words.specs.declared.options.DirectoryAction.TheVariants.{Read as ReadDirectories}
use Rattle.pg_words.specs.declared.options.DirectoryAction.TheVariants.{Skip as SkipDirectories}
use Rattle.pg_words.specs.declared.options.DirectoryAction.TheVariants.{Recurse}
use Rattle.pg_words.specs.declared.options.DeviceAction.{DeviceAction}
use Rattle.pg_words.specs.declared.options.DeviceAction.TheVariants.{Read, Skip}
use Rattle.pg_words.specs.declared.options.Coloring.{Coloring}
use Rattle.pg_words.specs.declared.options.Coloring.TheVariants.{Always as AlwaysColored, Never as NeverColored}
use Rattle.pg_words.specs.declared.options.Coloring.TheVariants.{OnTerminal}
use Rattle.pg_words.specs.declared.options.GivenModes.{GivenModes}
use Rattle.pg_words.specs.declared.options.Options.{Options}
use Rattle.pg_words.specs.declared.usage.UsageFault.{UsageFault}

-- a search, --help, --version, a usage fault, or nothing: the words are refused
pub data Asks : Type 0 where
  AsksSearch : Asked → Pace → Asks
  AsksHelp : Asks
  AsksVersion : Asks
  HasFault : UsageFault → Asks
  IsRefused : Asks

-- the last number that is given
abbrev pub number_in : Word → List Use → Option ℕ
number_in name us = option_map (λ numeral. digits_value 10 (without_leading_sign numeral)) (last_value name us)

-- a type of files other than text
abbrev pub has_other_type : List Word → Bool
has_other_type names = list_any (λ name. not (bytes_eq name (codes "text"))) names

-- what -d asks for, by its value (GNU grep's option, of which -r is the action `recurse`)
abbrev pub directory_action : Word → Option DirectoryAction
directory_action v =
    if bytes_eq v (codes "read") then Some ReadDirectories
    else (if bytes_eq v (codes "skip") then Some SkipDirectories
    else (if bytes_eq v (codes "recurse") then Some Recurse else None))

-- a value of -d that asks for nothing
abbrev pub has_other_directory_action : List Word → Bool
has_other_directory_action values = list_any (λ v. not (is_some (directory_action v))) values

-- what is asked for by the last -d, -r or -R
abbrev pub directories_in : List Use → Option DirectoryAction
directories_in us = option_and_then directory_action (last_value (codes "directories") us)

-- directories are visited
abbrev pub is_recursive : Option DirectoryAction → Bool
is_recursive None = Bool.false
is_recursive (Some ReadDirectories) = Bool.false
is_recursive (Some SkipDirectories) = Bool.false
is_recursive (Some Recurse) = Bool.true

-- directories are left out (`-d skip`)
abbrev pub skips_directories : Option DirectoryAction → Bool
skips_directories None = Bool.false
skips_directories (Some ReadDirectories) = Bool.false
skips_directories (Some SkipDirectories) = Bool.true
skips_directories (Some Recurse) = Bool.false

-- what -D asks for, by its value (GNU grep's option)
abbrev pub device_action : Word → Option DeviceAction
device_action v =
    if bytes_eq v (codes "read") then Some Read else (if bytes_eq v (codes "skip") then Some Skip else None)

-- a value of -D that asks for nothing
abbrev pub has_other_action : List Word → Bool
has_other_action values = list_any (λ v. not (is_some (device_action v))) values

-- the value is one of these words; case is ignored
abbrev pub is_word_of : List Word → Word → Bool
is_word_of words v = list_any (λ word. str_eq_ignore_ascii_case v word) words

-- when rows are colored, by the value of --color (GNU grep's option)
abbrev pub coloring_by : Word → Option Coloring
coloring_by v =
    if is_word_of (codes "always" ∷ codes "yes" ∷ codes "force" ∷ []) v then Some AlwaysColored
    else (if is_word_of (codes "never" ∷ codes "no" ∷ codes "none" ∷ []) v then Some NeverColored
    else (if is_word_of (codes "auto" ∷ codes "tty" ∷ codes "if-tty" ∷ []) v then Some OnTerminal else None))

-- a value of --color that asks for nothing
abbrev pub has_other_coloring : List Word → Bool
has_other_coloring values = list_any (λ v. not (is_some (coloring_by v))) values

-- a text of --group-separator that no separator can hold
abbrev pub has_long_separator : List Word → Bool
has_long_separator values = list_any (λ v. not (is_some (separator_for v))) values

-- what is asked for by the last --color; without it rows are never colored
abbrev pub coloring_in : List Use → Coloring
coloring_in us = unwrap_or (option_and_then coloring_by (last_value (codes "color") us)) NeverColored

-- the modes that options of a table ask for
abbrev pub modes_given : List (Word × Mode) → List Use → List Mode
modes_given options us = map (λ option. option.1) (filter (λ option. is_given option.0 us) options)

-- what is given of the options that say what is written of each file
abbrev pub modes_in : List Use → GivenModes
modes_in us = given_modes (modes_given modes us)

-- the options that exclude one another, want operands or decide how rows look
abbrev pub options_in : List Use → Options
options_in us = record {
  extended = is_given (codes "extended-regexp") us;
  fixed = is_given (codes "fixed-strings") us;
  perl = is_given (codes "perl-regexp") us;
  binary = has_other_type (values_of (codes "binary-files") us);
  unknown_directories = has_other_directory_action (values_of (codes "directories") us);
  unknown_devices = has_other_action (values_of (codes "devices") us);
  unknown_coloring = has_other_coloring (values_of (codes "color") us);
  long_separator = has_long_separator (values_of (codes "group-separator") us);
  invert = is_given (codes "invert-match") us;
  fold = ignores_case us;
  parts = is_given (codes "only-matching") us;
  modes = modes_in us;
  numbers = is_given (codes "line-number") us;
  null = is_given (codes "null") us;
  tabs = is_given (codes "initial-tab") us;
  offsets = is_given (codes "byte-offset") us;
  separator = option_and_then separator_for (separator_in us);
  names = is_given (codes "with-filename") us;
  no_names = is_given (codes "no-filename") us;
  recursive = is_recursive (directories_in us);
  limit = number_in (codes "max-count") us;
  after = number_in (codes "after-context") us;
  before = number_in (codes "before-context") us;
  around = number_in (codes "context") us;
}

-- -e or -f
abbrev pub gives_patterns : List Use → Bool
gives_patterns us = some_text (values_of (codes "regexp") us) || some_text (values_of (codes "file") us)

-- the -e texts; beside neither -e nor -f the first operand is PATTERN
abbrev pub texts_in : List Use → List Word
texts_in us = if gives_patterns us then values_of (codes "regexp") us else take 1 (operands_of us)

-- each FILE
abbrev pub files_in : List Use → List Word
files_in us = if gives_patterns us then operands_of us else drop 1 (operands_of us)

abbrev pub asked_in : List Use → Asked
asked_in us = record {
  kind = kind_of_options (options_in us);
  texts = texts_in us;
  pattern_files = values_of (codes "file") us;
  fold = ignores_case us;
  whole = is_given (codes "line-regexp") us;
  word = is_given (codes "word-regexp") us;
  invert = is_given (codes "invert-match") us;
  zero = is_given (codes "null-data") us;
  parts = is_given (codes "only-matching") us;
  format = format_of_options (options_in us);
  coloring = coloring_in us;
  names = naming_of (options_in us);
  label = last_value (codes "label") us;
  files = searched (files_in us);
  recursive = is_recursive (directories_in us);
  follows = is_given (codes "dereference-recursive") us;
  skips_directories = skips_directories (directories_in us);
  devices = option_and_then device_action (last_value (codes "devices") us);
  filters = filters_in us;
  excluded = values_of (codes "exclude-dir") us;
  silent = is_given (codes "no-messages") us;
}

abbrev pub pace_in : List Use → Pace
pace_in us = record {
  workers = unwrap_or (number_in (codes "workers") us) 4;
  block = unwrap_or (number_in (codes "block") us) 65536;
  round = unwrap_or (number_in (codes "round") us) 64;
  line_buffered = is_given (codes "line-buffered") us;
  always_spread = is_given (codes "always-spread") us;
}

-- a search that has no usage fault
abbrev pub search_or : List Use → Option UsageFault → Asks
search_or us None = AsksSearch (asked_in us) (pace_in us)
search_or us (Some fault) = HasFault fault

abbrev pub fault_in : List Use → Option UsageFault
fault_in us = usage_fault (options_in us) (length (texts_in us) + length (values_of (codes "file") us))
    (length (files_in us))

-- --help comes before --version, and both come before a usage fault
abbrev pub asks_of : Uses → Asks
asks_of None = IsRefused
asks_of (Some us) =
    if is_given (codes "help") us then AsksHelp
    else (if is_given (codes "version") us then AsksVersion else search_or us (fault_in us))

-- what words ask for
abbrev pub asks : List Word → Asks
asks words = asks_of (uses_in words)
