use Rattle.std.proofs.Common.{◌≡◌, ℕ, List, map, take}
use Rattle.std.specs.List.{All}
use Rattle.pg_prefilter.specs.Literals.{data_of}
use Rattle.pg_prefilter.specs.Candidates.{literal_of, IsAhead}
use Rattle.pg_prefilter.proofs.needle.NeedleList.new.Given as goal

abbrev pub invariant-loop-literal : goal.invariant-loop-literal
invariant-loop-literal g l = record {
  literals : map literal_of l.needles.items ≡ map data_of (take l.literal-index l.literals);
  ahead : (bytes : List ℕ) → All (IsAhead bytes 0) l.needles.items;
}
