use Rattle.std.proofs.Common.{◌≡◌, map, drop}
use Rattle.pg_glob.specs.Filters.{by_default, decided, fits_path}
use Rattle.pg_glob.specs.Views.{rule_of, rules}
use Rattle.pg_glob.proofs.filter.Filter.leaves_out.Given as goal

abbrev pub invariant-loop-entry : goal.invariant-loop-entry
invariant-loop-entry g l =
    decided (fits_path l.operand l.path) (map rule_of (drop l.entry-index l.self.entries.items)) l.left_out
    ≡ decided (fits_path l.operand l.path) (rules l.self) (by_default (rules l.self))
