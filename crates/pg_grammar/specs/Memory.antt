-- Pattern lists of the program as plain data, without where they lie in memory.
use Rattle.pg_grammar.specs.PatternLists.{Patterns, Split, ByLine}
use Rattle.pg_grammar.specs.declared.pattern_list.PatternList.{PatternList}
use Rattle.pg_grammar.specs.declared.pattern_list.PatternList.TheVariants.{Text, Lines}

-- a list without where it lies in memory
abbrev pub patterns_of : {A : Type 0} → PatternList A → Patterns
patterns_of (Text text) = Split text.items
patterns_of (Lines bytes) = ByLine bytes.items
