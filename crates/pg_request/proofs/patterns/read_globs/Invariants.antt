use Rattle.std.proofs.Common.{◌≡◌, ◌++◌, List, ℕ, drop}
use Rattle.pg_words.specs.Filters.{filters_of}
use Rattle.pg_request.specs.Asked.{glob_files}
use Rattle.pg_request.specs.Reading.{HasRead, contents_of}
use Rattle.pg_request.proofs.patterns.read_globs.Given as goal

abbrev pub invariant-loop-filter : goal.invariant-loop-filter
invariant-loop-filter g l =
    (front : List (List ℕ))
    × (front ++ glob_files (filters_of (drop l.filter-index l.filters)) ≡ glob_files (filters_of l.filters))
    × HasRead (g.S.Store.past l.fn.store) (g.S.Store.past l.store) front (contents_of l.contents.items)
