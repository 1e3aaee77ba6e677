use Rattle.std.proofs.Common.{◌+◌, ◌-◌, ◌≤◌, List, length, drop}
use Rattle.pg_match.specs.Machines.{Fits}
use Rattle.pg_blocks.specs.Lines.{AreShort}
use Rattle.pg_selection.specs.Search.{Pattern, AreTreesOf, search_of, terminator_of}
use Rattle.pg_lines.proofs.BetweenLemmas.{IsPassedBy}
use Rattle.pg_prefilter.specs.Candidates.{AreNeedles}
use Rattle.pg_lines.proofs.search.runs_between_hits.Given as goal

abbrev pub invariant-loop-line : goal.invariant-loop-line
invariant-loop-line g l = record {
  fits : Fits l.scratch l.query.machine;
  within : l.at ≤ length l.bytes;
  few : l.seen ≤ l.at;
  needles : AreNeedles l.query.text l.bytes l.at l.needles;
  short : AreShort (terminator_of l.query.text) (drop l.at l.bytes);
  passed : (trees : List Pattern) → AreTreesOf l.query.text trees
      → IsPassedBy (search_of l.query.text trees) l.bytes l.runs.items l.at l.seen;
}

abbrev pub decreases-loop-line : goal.decreases-loop-line
decreases-loop-line g l = length l.bytes + 1 - l.at
