use Rattle.std.proofs.Common.{◌-◌, ◌≤◌, length}
use Rattle.pg_match.specs.Machines.{Fits}
use Rattle.pg_lines.proofs.PartLemmas.{IsPushed}
use Rattle.pg_lines.proofs.parts.push_parts.Given as goal

abbrev pub invariant-loop-start : goal.invariant-loop-start
invariant-loop-start g l = record {
  fits : Fits l.scratch l.query.machine;
  within : l.place ≤ length l.line;
  pushed : IsPushed l.query.text l.line l.at l.number l.place l.fn.found.items l.found.items;
}

abbrev pub decreases-loop-start : goal.decreases-loop-start
decreases-loop-start g l = length l.line - l.place
