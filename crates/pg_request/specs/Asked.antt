-- What is searched for where a search is asked for, and when rows have names.
pub use Rattle.pg_words.specs.Asked.{Asked, Pace, asked_of, pace_of}
use Rattle.std.specs.Prelude.{ℕ, ◌==◌, Bool, true, false, not, ◌&&◌, ◌||◌, if◌then◌else◌, List, [], ◌∷◌, map, ◌++◌}
use Rattle.std.specs.Prelude.{unwrap_or, Option, Some, None}
use Rattle.pg_glob.specs.Filters.{Rule}
use Rattle.pg_glob.specs.GlobFiles.{rules_in}
use Rattle.pg_glob.specs.Globs.{pieces_of}
use Rattle.pg_walk.specs.Scopes.{Scope}
use Rattle.pg_walk.specs.declared.scope.Devices.{Devices}
use Rattle.pg_walk.specs.declared.scope.Devices.TheVariants.{ReadOperands, Read as ReadAsFiles, Skip as SkipThem}
use Rattle.pg_selection.specs.Search.{Patterns, Split, ByLine, SearchText}
use Rattle.pg_files.specs.Given.{standard_input}
use Rattle.pg_rows.specs.declared.format.Mode.{Mode}
use Rattle.pg_rows.specs.Modes.{shows_rows}
use Rattle.pg_words.specs.Line.{Filter, Include, Exclude, ExcludeFrom}
use Rattle.pg_words.specs.declared.options.Coloring.{Coloring}
use Rattle.pg_words.specs.declared.options.Coloring.TheVariants.{Always as AlwaysColored, Never as NeverColored}
use Rattle.pg_words.specs.declared.options.Coloring.TheVariants.{OnTerminal}
use Rattle.pg_words.specs.declared.options.DeviceAction.{DeviceAction}
use Rattle.pg_words.specs.declared.options.DeviceAction.TheVariants.{Read as ReadAll, Skip as SkipAll}
use Rattle.pg_words.specs.declared.options.Naming.{Naming}
use Rattle.pg_words.specs.declared.options.Naming.TheVariants.{Always, Never, BySeveral}

-- rows are colored, where standard output is a terminal or not
abbrev pub is_colored : Coloring → (terminal : Bool) → Bool
is_colored NeverColored terminal = false
is_colored AlwaysColored terminal = true
is_colored OnTerminal terminal = terminal

-- what is asked for, with rows colored or not by whether standard output is a terminal
abbrev pub asked_on : (terminal : Bool) → Asked → Asked
asked_on terminal asked =
    record asked { format = record asked.format { colored = is_colored asked.coloring terminal } }

-- the pace, by which a terminal gets its rows as each block or round was searched
abbrev pub paced_on : (terminal : Bool) → Pace → Pace
paced_on terminal pace = record pace { line_buffered = pace.line_buffered || terminal }

-- the matched parts of lines are wanted: with -o, and where those of selected lines are colored
abbrev pub wants_parts : Asked → Bool
wants_parts asked = asked.parts || (asked.format.colored && shows_rows asked.format.mode && not asked.invert)

-- what is searched for with these lists behind the -e texts
abbrev pub text_with : Asked → List Patterns → SearchText
text_with asked lists = record {
  kind = asked.kind;
  lists = map Split asked.texts ++ lists;
  fold = asked.fold;
  whole = asked.whole;
  word = asked.word;
  invert = asked.invert;
  with_parts = wants_parts asked;
  zero = asked.zero;
}

-- What is searched for where the -f files have these contents: the patterns of all -e texts, which newlines split, and
-- then those of all -f files, which are their lines.
abbrev pub text_of_query : Asked → List (List ℕ) → SearchText
text_of_query asked contents = text_with asked (map ByLine contents)

-- the file that rows go to isn't searched itself; a count, a name or nothing may go there
abbrev pub spares_output : Mode → Bool
spares_output mode = shows_rows mode

-- what standard input is called in rows and fault lines: as --label has it
abbrev pub input_name : Asked → List ℕ
input_name asked = unwrap_or asked.label standard_input

-- there are two operands or more
abbrev pub are_several_operands : List (List ℕ) → Bool
are_several_operands [] = false
are_several_operands (file ∷ []) = false
are_several_operands (file ∷ other ∷ files) = true

-- rows have names: always, never, or where there are several operands or a directory is visited
abbrev pub has_names : Naming → (files : List (List ℕ)) → (recursive directory : Bool) → Bool
has_names Always files recursive directory = true
has_names Never files recursive directory = false
has_names BySeveral files recursive directory = are_several_operands files || (recursive && directory)

-- a rule for files
abbrev pub file_rule : Bool → List ℕ → Rule
file_rule keeps glob = record { keeps = keeps; glob = pieces_of glob }

-- the path of a file of globs
abbrev pub glob_file : Filter → Option (List ℕ)
glob_file (Include glob) = None
glob_file (Exclude glob) = None
glob_file (ExcludeFrom path) = Some path

-- a path, if there is one, before others
abbrev pub before_files : Option (List ℕ) → List (List ℕ) → List (List ℕ)
before_files None paths = paths
before_files (Some path) paths = path ∷ paths

-- the paths of all of them, in their order
abbrev pub glob_files : List Filter → List (List ℕ)
glob_files [] = []
glob_files (filter ∷ filters) = before_files (glob_file filter) (glob_files filters)

-- the rules of --include, --exclude and --exclude-from in their order, where the files of globs have these contents
abbrev pub file_rules : List Filter → (contents : List (List ℕ)) → List Rule
file_rules [] contents = []
file_rules (Include glob ∷ filters) contents = file_rule true glob ∷ file_rules filters contents
file_rules (Exclude glob ∷ filters) contents = file_rule false glob ∷ file_rules filters contents
file_rules (ExcludeFrom path ∷ filters) [] = file_rules filters []
file_rules (ExcludeFrom path ∷ filters) (content ∷ contents) = rules_in content ++ file_rules filters contents

-- a glob without a slash (47) at its end
abbrev pub without_slash : List ℕ → List ℕ
without_slash [] = []
without_slash (x ∷ []) = if x == 47 then [] else x ∷ []
without_slash (x ∷ y ∷ glob) = x ∷ without_slash (y ∷ glob)

-- the rule of --exclude-dir
abbrev pub directory_rule : List ℕ → Rule
directory_rule glob = record { keeps = false; glob = pieces_of (without_slash glob) }

-- what is done with devices, FIFOs and sockets: without -D operands are read, and others give nothing
abbrev pub devices_for : Option DeviceAction → Devices
devices_for None = ReadOperands
devices_for (Some ReadAll) = ReadAsFiles
devices_for (Some SkipAll) = SkipThem

-- Which part of the trees is searched: with -r what is in directories too, and with -R also what links there lead to,
-- but for what -d, -D and the globs leave out. The files of globs have these contents.
abbrev pub scope_for : Asked → (globs : List (List ℕ)) → Scope
scope_for asked globs = record {
  recursive = asked.recursive;
  follows = asked.follows;
  skips_directories = asked.skips_directories;
  devices = devices_for asked.devices;
  files = file_rules asked.filters globs;
  directories = map directory_rule asked.excluded;
}
