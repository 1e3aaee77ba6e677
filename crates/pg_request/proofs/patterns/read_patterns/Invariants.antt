use Rattle.std.proofs.Common.{◌≡◌, ℕ, List, map, take}
use Rattle.pg_grammar.specs.Memory.{patterns_of}
use Rattle.pg_grammar.specs.Slices.{bytes_of}
use Rattle.pg_selection.specs.Search.{ByLine}
use Rattle.pg_request.specs.Reading.{HasRead}
use Rattle.pg_request.proofs.patterns.read_patterns.Given as goal

abbrev pub invariant-loop-path : goal.invariant-loop-path
invariant-loop-path g l =
    (contents : List (List ℕ)) × (map patterns_of l.lists.items ≡ map ByLine contents)
    × HasRead (g.S.Store.past l.fn.store) (g.S.Store.past l.store) (bytes_of (take l.path-index l.paths)) contents
