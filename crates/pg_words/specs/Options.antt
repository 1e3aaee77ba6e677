-- What the options ask for, as they are given.
use Rattle.std.specs.Prelude.{◌&&◌, ◌||◌, Bool, true, false, not, if◌then◌else◌, is_some, max, map, codes}
use Rattle.std.specs.Prelude.{List, [], ◌∷◌}
use Rattle.std.specs.List.{list_all}
use Rattle.std.specs.Option.{option_map, option_or}
use Rattle.pg_grammar.specs.declared.pattern_list.Kind.{Kind}
use Rattle.pg_grammar.specs.declared.pattern_list.Kind.TheVariants.{Basic, Extended, Fixed}
use Rattle.pg_rows.specs.declared.format.Format.{Format}
use Rattle.pg_rows.specs.declared.format.Mode.{Mode}
use Rattle.pg_rows.specs.declared.format.Mode.TheVariants.{Rows, Count, List as Names, ListOthers as Others, Quiet}
use Rattle.pg_words.specs.Line.{Word, own, table}
use Rattle.pg_words.specs.Spelled.{is_flag}
use Rattle.pg_words.specs.declared.options.GivenModes.{GivenModes}
use Rattle.pg_words.specs.declared.options.GivenModes.TheVariants.{Unset, One, Several}
use Rattle.pg_words.specs.declared.options.ModeOption.{ModeOption}
use Rattle.pg_words.specs.declared.options.Options.{Options}
use Rattle.pg_words.specs.declared.options.Naming.{Naming}
use Rattle.pg_words.specs.declared.options.Naming.TheVariants.{Always, Never, BySeveral}

-- the syntax of the patterns
abbrev pub kind_of_options : Options → Kind
kind_of_options options = if options.extended then Extended else (if options.fixed then Fixed else Basic)

-- the options that say what is written of each file, by their long names (XCU grep, -c, -l and -q; GNU grep, -L)
abbrev pub modes : List (Word × Mode)
modes = (codes "count", Count)
    ∷ (codes "files-with-matches", Names)
    ∷ (codes "files-without-match", Others)
    ∷ (codes "quiet", Quiet)
    ∷ []

-- what is given, by the modes that are asked for
abbrev pub given_modes : List Mode → GivenModes
given_modes [] = Unset
given_modes (mode ∷ []) = One mode
given_modes (mode ∷ other ∷ more) = Several

-- what is written: without an option lines have rows
abbrev pub mode_by : GivenModes → Mode
mode_by Unset = Rows
mode_by (One mode) = mode
mode_by Several = Rows

-- at least one is given
abbrev pub is_some_mode : GivenModes → Bool
is_some_mode Unset = false
is_some_mode (One mode) = true
is_some_mode Several = true

-- more than one is given
abbrev pub are_several : GivenModes → Bool
are_several Unset = false
are_several (One mode) = false
are_several Several = true

-- the options of the code's table
abbrev pub mode_table : List ModeOption → List (Word × Mode)
mode_table rows = map (λ row. (row.0.now, row.1)) rows

-- the options of these modes have no value
abbrev pub are_flags : List ModeOption → Bool
are_flags rows = list_all (λ row. is_flag (own table row.0.now)) rows

-- when names are written: -h takes them away, and without either option the number of files decides
abbrev pub naming_of : Options → Naming
naming_of options = if options.no_names then Never else (if options.names then Always else BySeveral)

-- How rows look: -h takes the names away, a limit is at least 1, and -C gives what -B or -A doesn't.
abbrev pub format_of_options : Options → Format
format_of_options options = record {
  names = options.names && not options.no_names;
  null = options.null;
  tabs = options.tabs;
  parts = options.parts;
  colored = false;
  separator = options.separator;
  numbers = options.numbers;
  offsets = options.offsets;
  mode = mode_by options.modes;
  limit = option_map (λ lines. max lines 1) options.limit;
  before = option_or options.before options.around;
  after = option_or options.after options.around;
}

-- -A, -B or -C
abbrev pub has_context : Options → Bool
has_context options = is_some options.after || is_some options.before || is_some options.around

-- -v, an option that says what is written of each file, -A, -B or -C
abbrev pub has_excluded_by_parts : Options → Bool
has_excluded_by_parts options = options.invert || is_some_mode options.modes || has_context options
