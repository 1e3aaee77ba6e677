use Rattle.std.proofs.Common.{◌≡◌, ◌-◌, ◌≤◌, length, drop}
use Rattle.pg_syntax.proofs.Onward.{Leads}
use Rattle.pg_syntax.specs.States.{state_of}
use Rattle.pg_syntax.proofs.TokenLoop.{Keeps}
use Rattle.pg_syntax.proofs.parser.build.Given as goal

abbrev pub invariant-loop-at : goal.invariant-loop-at
invariant-loop-at g l = record {
  within : l.at ≤ length l.source.text.now;
  whole : l.len ≡ length l.source.text.now;
  keeps : Keeps l.source.syntax l.source.fold l.source.text.now (state_of l.builder) (drop l.at l.source.text.now);
  leads : Leads l.source.syntax l.source.fold l.source.text.now (state_of l.builder) (drop l.at l.source.text.now);
}

abbrev pub decreases-loop-at : goal.decreases-loop-at
decreases-loop-at g l = l.len - l.at
