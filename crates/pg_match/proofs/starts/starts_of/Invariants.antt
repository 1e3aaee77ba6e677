use Rattle.std.proofs.Common.{◌≡◌, ◌*◌, ◌≤◌, length}
use Rattle.std.specs.Prelude.{slice_index}
use Rattle.pg_match.specs.Starts.{StartsBelow}
use Rattle.pg_match.proofs.starts.starts_of.Given as goal

abbrev pub invariant-loop-byte : goal.invariant-loop-byte
invariant-loop-byte g l = record {
  size : length l.cuts.items ≡ 257;
  last : slice_index l.cuts.items l.byte ≡ length l.targets.items;
  few : length l.targets.items ≤ l.byte * 65536;
  below : StartsBelow l.states l.seeds l.targets.items l.cuts.items l.byte;
}
