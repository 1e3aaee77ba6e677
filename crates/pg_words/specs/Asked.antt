-- What a search asks for, as plain data.
use Rattle.std.specs.Prelude.{ℕ, Bool, List, Option, option_map}
use Rattle.pg_grammar.specs.Slices.{bytes_of}
use Rattle.pg_grammar.specs.declared.pattern_list.Kind.{Kind}
use Rattle.pg_rows.specs.declared.format.Format.{Format}
use Rattle.pg_words.specs.Filters.{filters_of}
use Rattle.pg_words.specs.Line.{Filter}
use Rattle.pg_words.specs.declared.options.Coloring.{Coloring}
use Rattle.pg_words.specs.declared.options.DeviceAction.{DeviceAction}
use Rattle.pg_words.specs.declared.options.Naming.{Naming}
use Rattle.pg_words.specs.declared.request.Request.{Request}

-- the syntax of the patterns, the -e texts, the paths of the -f files, the options -i, -x, -w, -v, -z and -o, how rows
-- look, when they are colored and when they have names, the name of --label, the FILE operands, whether directories are
-- visited, whether links are followed below them too and whether directories are left out, what -D asks for, --include,
-- --exclude and --exclude-from in their order, the patterns of --exclude-dir, and the option -s
pub record Asked : Type 0 where
  pub kind : Kind
  pub texts : List (List ℕ)
  pub pattern_files : List (List ℕ)
  pub fold : Bool
  pub whole : Bool
  pub word : Bool
  pub invert : Bool
  pub zero : Bool
  pub parts : Bool
  pub format : Format
  pub coloring : Coloring
  pub names : Naming
  pub label : Option (List ℕ)
  pub files : List (List ℕ)
  pub recursive : Bool
  pub follows : Bool
  pub skips_directories : Bool
  pub devices : Option DeviceAction
  pub filters : List Filter
  pub excluded : List (List ℕ)
  pub silent : Bool

-- by how many threads, in which blocks and rounds it is done, and when rows are sent on
pub record Pace : Type 0 where
  pub workers : ℕ
  pub block : ℕ
  pub round : ℕ
  pub line_buffered : Bool
  pub always_spread : Bool

-- what a request asks for; by how many threads and in which blocks is no part of it
abbrev pub asked_of : Request → Asked
asked_of request = record {
  kind = request.kind;
  texts = bytes_of request.texts.items;
  pattern_files = bytes_of request.pattern_files.items;
  fold = request.fold;
  whole = request.whole;
  word = request.word;
  invert = request.invert;
  zero = request.zero;
  parts = request.parts;
  format = request.format;
  coloring = request.coloring;
  names = request.names;
  label = option_map (λ name. name.now) request.label;
  files = bytes_of request.files.items;
  recursive = request.recursive;
  follows = request.follows;
  skips_directories = request.skips_directories;
  devices = request.devices;
  filters = filters_of request.filters.items;
  excluded = bytes_of request.excluded.items;
  silent = request.silent;
}

abbrev pub pace_of : Request → Pace
pace_of request = record {
  workers = request.workers;
  block = request.block;
  round = request.round;
  line_buffered = request.line_buffered;
  always_spread = request.always_spread;
}
