-- What `clap` found, by what the words come to.
use Rattle.std.specs.Prelude.{◌≡◌, ℕ, ◌⊎◌, Bool, true, false, List, [], Option, Some, None, option_map, unwrap_or}
use Rattle.std.specs.Prelude.{codes}
use Rattle.clap.specs.Words.{matched_of, one_text, raw_values}
use Rattle.clap.specs.Lexer.{without_minus}
use Rattle.clap.specs.declared.parser.matches.Found.{Found}
use Rattle.pg_grammar.specs.Slices.{bytes_of}
use Rattle.pg_words.specs.Asks.{files_in, texts_in}
use Rattle.pg_words.specs.declared.operands.Sources.{Sources}
use Rattle.pg_words.specs.Line.{Word, Value, Nothing, AnyText, Number, Use, fits_value, is_given, last_value}
use Rattle.pg_words.specs.Line.{operands_of}
use Rattle.pg_words.specs.Line.{own}
use Rattle.pg_words.specs.Line.{table, values_of}

-- what a flag has: `true` where it is given
abbrev pub Flags : Option Word → Bool → Type 0
Flags o true = o ≡ Some (codes "true")
Flags o false = (o ≡ None) ⊎ (o ≡ Some (codes "false"))

-- what stands behind the option of this name
abbrev pub value_behind : Word → Option Value
value_behind name = option_map (λ o. o.value) (own table name)

-- the values that were found by this name
abbrev pub found_values : Found → Word → List Word
found_values f name = unwrap_or (option_map raw_values (matched_of f name)) []

-- the value that was found is that of the uses, and a number is in its range
pub record IsOfUses (us : List Use) (f : Found) : Type 0 where
  pub flag : (name : Word) → value_behind name ≡ Some Nothing → Flags (one_text f name) (is_given name us)
  pub number : (name : Word) (low high : ℕ) → value_behind name ≡ Some (Number low high)
      → one_text f name ≡ option_map without_minus (last_value name us)
  pub fit : (name : Word) (v : Value) → value_behind name ≡ Some v → (t : Word) → last_value name us ≡ Some t
      → fits_value v t ≡ true
  pub texts : (name : Word) → value_behind name ≡ Some AnyText → found_values f name ≡ values_of name us
  pub operands : found_values f (codes "operands") ≡ operands_of us

-- the patterns and the files are those of the uses
pub record AreSources (us : List Use) (sources : Sources) : Type 0 where
  pub texts : bytes_of sources.texts.now ≡ texts_in us
  pub pattern_files : bytes_of sources.pattern_files.now ≡ values_of (codes "file") us
  pub files : bytes_of sources.files.now ≡ files_in us
