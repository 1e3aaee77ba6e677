-- Patterns without special bytes (XBD 9.3.3, 9.4.3).
use Rattle.std.specs.Prelude.{ℕ, not, List, IsTrue}
use Rattle.std.specs.List.{All}
use Prim.Native.String.{String}
use Rattle.pg_grammar.specs.Grammar.{◌∈◌}
use Rattle.pg_grammar.specs.declared.pattern_list.Kind.{Kind}
use Rattle.pg_grammar.specs.declared.pattern_list.Kind.TheVariants.{Basic, Extended, Fixed}

-- the special bytes of a kind (XBD 9.3.3, 9.4.3; XCU grep for fixed strings)
abbrev pub special_of : Kind → String
special_of Basic = ".[\\*^$"
special_of Extended = ".[\\()*+?{|^$"
special_of Fixed = ""

-- no byte is special
abbrev pub IsPlain : Kind → List ℕ → Type 0
IsPlain kind text = All (λ b. IsTrue (not (b ∈ special_of kind))) text
