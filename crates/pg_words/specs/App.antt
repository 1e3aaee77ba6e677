-- The command as `clap` knows it.
use Rattle.std.specs.Prelude.{ℕ, ◌==◌, ◌&&◌, ◌||◌, Bool, not, true, false, List, [], ◌∷◌, ◌++◌, map, Some, None}
use Rattle.std.specs.Prelude.{codes, pos}
use Rattle.std.specs.List.{list_any}
use Rattle.std.specs.Str.{bytes_eq}
use Rattle.clap.specs.Words.{App, Rule, new_rule}
use Rattle.clap.specs.Simple.{new_shape}
use Rattle.clap.specs.declared.builder.action.ArgAction.TheVariants.{Set, Append, SetTrue}
use Rattle.clap.specs.declared.builder.action.ArgAction.{ArgAction}
use Rattle.clap.specs.declared.builder.value_parser.ValueParser.{ValueParser}
use Rattle.clap.specs.declared.builder.value_parser.ValueParser.TheVariants as vp
use Rattle.pg_words.specs.Line.{Word, Value, Nothing, AnyText, Number, Opt, table}
use Rattle.pg_words.specs.Spelled.{begins}
use Rattle.pg_words.specs.declared.command.OptionRow.{OptionRow}
use Rattle.pg_words.specs.declared.command.OptionValue.{OptionValue}
use Rattle.pg_words.specs.declared.command.OptionValue.TheVariants as behind
use Rattle.pg_words.specs.declared.command.Names.{Names}
use Rattle.pg_words.specs.declared.command.Names.TheVariants as names

abbrev pub action_for : Value → ArgAction
action_for Nothing = SetTrue
action_for AnyText = Append
action_for (Number low high) = Set

abbrev pub parser_for : Value → ValueParser
parser_for Nothing = vp.Bool
parser_for AnyText = vp.String
parser_for (Number low high) = vp.Signed (pos low) (pos high)

-- an option
abbrev pub option_rule : Opt → Rule
option_rule o = record (new_rule o.name) {
  long = Some o.name;
  short = o.letter;
  aliases = o.others;
  value_names = 1;
  action = Some (action_for o.value);
  parser = Some (parser_for o.value);
}

-- the operands
abbrev pub operands_rule : Rule
operands_rule = record (new_rule (codes "operands")) { value_names = 1; action = Some Append; parser = Some vp.String }

-- a command with these arguments; the last of two numbers counts
abbrev pub app_of_rules : List Rule → App
app_of_rules rules = record {
  top = record (new_shape (codes "pargrep")) {
    rules = rules;
    no_binary_name = true;
    disable_help_flag = true;
    args_override_self = true;
  };
  subs = [];
}

abbrev pub bare_app : App
bare_app = app_of_rules []

-- the options of a table, and the operands
abbrev pub app_with : List Opt → App
app_with os = app_of_rules (map option_rule os ++ operands_rule ∷ [])

abbrev pub our_app : App
our_app = app_with table

-- ---- the rows of the code's table

abbrev pub action_behind : OptionValue → ArgAction
action_behind behind.Nothing = SetTrue
action_behind (behind.Text name) = Append
action_behind (behind.Number low high) = Set
action_behind behind.Itself = Append

abbrev pub parser_behind : OptionValue → ValueParser
parser_behind behind.Nothing = vp.Bool
parser_behind (behind.Text name) = vp.String
parser_behind (behind.Number low high) = vp.Signed (pos low) (pos high)
parser_behind behind.Itself = vp.String

-- what is found by this name
abbrev pub named_rule : OptionValue → Word → Rule
named_rule it name = record (new_rule name) {
  value_names = 1;
  action = Some (action_behind it);
  parser = Some (parser_behind it);
}

abbrev pub rule_by : Names → Word → OptionValue → Rule
rule_by (names.Letter letter others) name it =
    record (named_rule it name) { long = Some name; short = Some letter; aliases = map (λ other. other.now) others.now }
rule_by (names.Long others) name it =
    record (named_rule it name) { long = Some name; aliases = map (λ other. other.now) others.now }
rule_by names.Place name it = named_rule it name

abbrev pub rule_for : OptionRow → Rule
rule_for row = rule_by row.0 row.1.now row.2

abbrev pub has_value_behind : OptionValue → Bool
has_value_behind behind.Nothing = false
has_value_behind (behind.Text name) = true
has_value_behind (behind.Number low high) = true
has_value_behind behind.Itself = true

-- the option has this letter
abbrev pub has_letter : OptionRow → ℕ → Bool
has_letter row x = elim row.0 [
  | names.Letter letter others ↦ letter == x
  | names.Long others ↦ false
  | names.Place ↦ false
]

-- the option goes by this long name
abbrev pub has_name : OptionRow → Word → Bool
has_name row name = elim row.0 [
  | names.Letter letter others ↦ bytes_eq row.1.now name || list_any (λ other. bytes_eq other.now name) others.now
  | names.Long others ↦ bytes_eq row.1.now name || list_any (λ other. bytes_eq other.now name) others.now
  | names.Place ↦ false
]

-- a long name of the option begins so, and may be cut short
abbrev pub has_begun_name : OptionRow → Word → Bool
has_begun_name row start =
    not (bytes_eq row.1.now (codes "always-spread"))
    && elim row.0 [
      | names.Letter letter others ↦ begins row.1.now start || list_any (λ other. begins other.now start) others.now
      | names.Long others ↦ begins row.1.now start || list_any (λ other. begins other.now start) others.now
      | names.Place ↦ false
    ]

abbrev pub value_of : OptionValue → Value
value_of behind.Nothing = Nothing
value_of (behind.Text name) = AnyText
value_of (behind.Number low high) = Number low high
value_of behind.Itself = AnyText

-- the options of these rows, without the operands
abbrev pub opts_of : List OptionRow → List Opt
opts_of [] = []
opts_of (row ∷ rows) = elim row.0 [
  | names.Letter letter others ↦ record {
    letter = Some letter;
    name = row.1.now;
    others = map (λ other. other.now) others.now;
    value = value_of row.2;
  } ∷ opts_of rows
  | names.Long others ↦ record {
    letter = None;
    name = row.1.now;
    others = map (λ other. other.now) others.now;
    value = value_of row.2;
  } ∷ opts_of rows
  | names.Place ↦ opts_of rows
]
