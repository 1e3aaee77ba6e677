-- Patterns that fixed strings spell (XCU grep, -F), however they were written.
use Rattle.std.specs.Prelude.{ℕ, Bool, List}
use Rattle.pg_grammar.specs.Grammar.{Spells}
use Rattle.pg_grammar.specs.declared.pattern_list.Kind.TheVariants.{Fixed}
use Rattle.pg_pattern.specs.Patterns.{Pattern}

-- some fixed string spells the pattern
abbrev pub IsOfString : Bool → Pattern → Type 0
IsOfString fold p = (text : List ℕ) × Spells Fixed fold text p
