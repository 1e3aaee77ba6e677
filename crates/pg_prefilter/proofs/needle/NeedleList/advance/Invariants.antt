use Rattle.std.proofs.Common.{◌≡◌, map}
use Rattle.std.specs.List.{All, AllWithin}
use Rattle.pg_prefilter.specs.Candidates.{literal_of, IsAhead, IsFoundBehind}
use Rattle.pg_prefilter.proofs.needle.NeedleList.advance.Given as goal

-- the needles so far stand at the place or further
abbrev pub invariant-loop-needle : goal.invariant-loop-needle
invariant-loop-needle g l = record {
  literals : map literal_of l.needle-items ≡ map literal_of l.fn.self.needles.items;
  ahead : All (IsAhead l.searched l.at) l.needle-items;
  found : AllWithin (IsFoundBehind l.searched l.at) l.needle-items 0 l.needle-index;
}
