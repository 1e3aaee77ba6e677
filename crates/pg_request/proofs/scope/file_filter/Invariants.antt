use Rattle.std.proofs.Common.{◌≡◌, ◌++◌, drop}
use Rattle.pg_glob.specs.Views.{rules}
use Rattle.pg_words.specs.Filters.{filters_of}
use Rattle.pg_request.specs.Asked.{file_rules}
use Rattle.pg_request.specs.Reading.{contents_of}
use Rattle.pg_request.proofs.scope.file_filter.Given as goal

abbrev pub invariant-loop-asked : goal.invariant-loop-asked
invariant-loop-asked l =
    rules l.filter ++ file_rules (filters_of (drop l.asked-index l.filters)) (contents_of l.left)
    ≡ file_rules (filters_of l.filters) (contents_of l.contents)
