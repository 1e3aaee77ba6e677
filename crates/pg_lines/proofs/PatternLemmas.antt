-- The patterns of a text.
use Rattle.std.proofs.Common.{ℕ, zero, suc, Bool, All, List, [], ◌∷◌, arith}
use Rattle.pg_pattern.specs.Patterns.{Pattern, IsProper}
use Rattle.pg_grammar.specs.ListResults.{AreSpelled}
use Rattle.pg_selection.specs.Search.{Kind}

all_more : (t : Pattern) (ts : List Pattern) → IsProper t → All IsProper ts → All IsProper (t ∷ ts)
all_more t ts p ps zero d below = p
all_more t ts p ps (suc k) d below = ps k d (omega arith)

-- trees that texts spell are proper
pub all_proper : (kind : Kind) (fold : Bool) (texts : List (List ℕ)) (trees : List Pattern)
    → AreSpelled kind fold texts trees → All IsProper trees
all_proper kind fold [] [] h = λ k d below. absurd (omega arith)
all_proper kind fold [] (t ∷ ts) h = absurd h
all_proper kind fold (text ∷ texts) [] h = absurd h
all_proper kind fold (text ∷ texts) (t ∷ ts) h = all_more t ts h.0.proper (all_proper kind fold texts ts h.1)
