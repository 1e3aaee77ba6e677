-- What is searched for, as plain data (XCU grep, OPTIONS).
use Rattle.std.specs.Prelude.{ℕ, Bool, false, if◌then◌else◌, List}
pub use Rattle.pg_grammar.specs.declared.pattern_list.Kind.{Kind}
pub use Rattle.pg_grammar.specs.declared.pattern_list.Kind.TheVariants.{Basic, Extended, Fixed}
pub use Rattle.pg_grammar.specs.PatternLists.{Patterns, Split, ByLine, patterns}
pub use Rattle.pg_pattern.specs.Patterns.{Pattern}
use Rattle.pg_grammar.specs.ListResults.{AreSpelled}
pub use Rattle.pg_pattern.specs.declared.bounds.Bounds.{Bounds}
pub use Rattle.pg_pattern.specs.declared.bounds.Bounds.TheVariants.{Any, Word, Whole}

-- the kind of the patterns, the lists, and the options -i, -x, -w, -v, -o and -z
pub record SearchText : Type 0 where
  pub kind : Kind
  pub lists : List Patterns
  pub fold : Bool
  pub whole : Bool
  pub word : Bool
  pub invert : Bool
  pub with_parts : Bool
  pub zero : Bool

-- the trees are those that the patterns spell, in their order
abbrev pub AreTreesOf : SearchText → List Pattern → Type 0
AreTreesOf text trees = AreSpelled text.kind text.fold (patterns text.lists) trees

-- each pattern spells a tree
abbrev pub HasTrees : SearchText → Type 0
HasTrees text = (trees : List Pattern) × AreTreesOf text trees

-- a text with the trees of its patterns
pub record Search : Type 0 where
  pub text : SearchText
  pub trees : List Pattern

-- the trees are those that its patterns spell
abbrev pub HasItsTrees : Search → Type 0
HasItsTrees q = AreTreesOf q.text q.trees

-- a text without its -v: it selects the lines with a hit
abbrev pub uninverted : SearchText → SearchText
uninverted text = record {
  kind = text.kind;
  lists = text.lists;
  fold = text.fold;
  whole = text.whole;
  word = text.word;
  invert = false;
  with_parts = text.with_parts;
  zero = text.zero;
}

-- the search for a text whose patterns have these trees
abbrev pub search_of : SearchText → List Pattern → Search
search_of text trees = record { text = text; trees = trees }

-- where a match may begin and end: -x asks for the whole line, also with -w
abbrev pub bounds_of : SearchText → Bounds
bounds_of text = if text.whole then Whole else if text.word then Word else Any

-- the byte that ends a line: byte 0 with -z (GNU grep, -z), else newline
abbrev pub terminator_of : SearchText → ℕ
terminator_of text = if text.zero then 0 else 10

-- that of a query
abbrev pub terminator : Search → ℕ
terminator q = terminator_of q.text
