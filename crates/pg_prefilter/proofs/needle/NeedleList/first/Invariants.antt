use Rattle.std.proofs.Common.{◌<◌, ℕ, get_or}
use Rattle.std.specs.Option.{IfSome}
use Rattle.std.specs.List.{Any}
use Rattle.pg_prefilter.specs.Candidates.{NeedleAt, IsBefore}
use Rattle.pg_prefilter.specs.declared.needle.Needle.{Needle}
use Rattle.pg_prefilter.proofs.needle.NeedleList.first.Given as goal

-- the least place so far
abbrev pub invariant-loop-needle : goal.invariant-loop-needle
invariant-loop-needle g l = record {
  stands : IfSome l.first (λ place. Any (NeedleAt place) l.self.needles.items);
  least : (k : ℕ) (d : Needle) → k < l.needle-index → IsBefore l.first (get_or l.self.needles.items k d);
}
