use Rattle.std.proofs.Common.{◌≡◌, ◌<◌, ℕ, length, take, true, get_or}
use Rattle.std.specs.Prelude.{slice_index_or}
use Rattle.pg_strings.specs.Whole.{IsPrefixHash, KeepsFlags, flag_by, hash_behind}
use Rattle.pg_strings.proofs.whole.flag_beginnings.Given as goal

abbrev pub invariant-loop-at : goal.invariant-loop-at
invariant-loop-at g l = record {
  all : length l.flags.items ≡ 131072;
  prefix : IsPrefixHash l.string 0 l.prefix;
  own : (i : ℕ) → i < l.at → get_or l.lengths i 0 < length l.string
      → slice_index_or l.flags.items (flag_by (hash_behind 0 (take (get_or l.lengths i 0) l.string))) true ≡ true;
  kept : KeepsFlags l.fn.flags.items l.flags.items;
}
