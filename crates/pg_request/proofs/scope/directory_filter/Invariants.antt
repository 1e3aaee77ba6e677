use Rattle.std.proofs.Common.{◌≡◌, map, take}
use Rattle.pg_grammar.specs.Slices.{bytes_of}
use Rattle.pg_glob.specs.Views.{rules}
use Rattle.pg_request.specs.Asked.{directory_rule}
use Rattle.pg_request.proofs.scope.directory_filter.Given as goal

abbrev pub invariant-loop-glob : goal.invariant-loop-glob
invariant-loop-glob l = rules l.filter ≡ map directory_rule (bytes_of (take l.glob-index l.globs))
