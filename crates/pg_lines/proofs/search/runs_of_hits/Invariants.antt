use Rattle.std.proofs.Common.{◌≡◌, List, ◌+◌, ◌-◌, ◌≤◌, length, drop}
use Rattle.pg_match.specs.Machines.{Fits}
use Rattle.pg_blocks.specs.Lines.{AreShort}
use Rattle.pg_selection.specs.Search.{Pattern, AreTreesOf, search_of, terminator_of}
use Rattle.pg_lines.specs.Gathered.{IsGathered}
use Rattle.pg_lines.proofs.PartLemmas.{parts_before}
use Rattle.pg_prefilter.specs.Candidates.{AreNeedles}
use Rattle.pg_lines.proofs.search.runs_of_hits.Given as goal

abbrev pub invariant-loop-line : goal.invariant-loop-line
invariant-loop-line g l = record {
  fits : Fits l.scratch l.query.machine;
  within : l.run.span.end ≤ length l.bytes;
  few : l.run.first + l.run.count ≤ l.run.span.end;
  needles : AreNeedles l.query.text l.bytes l.run.span.end l.needles;
  short : AreShort (terminator_of l.query.text) (drop l.run.span.end l.bytes);
  gathered : (trees : List Pattern) → AreTreesOf l.query.text trees
      → IsGathered (search_of l.query.text trees) l.bytes l.runs.items l.run;
  parts : (trees : List Pattern) → AreTreesOf l.query.text trees
      → l.parts.items ≡ parts_before (search_of l.query.text trees) l.bytes l.run.span.end;
}

abbrev pub decreases-loop-line : goal.decreases-loop-line
decreases-loop-line g l = length l.bytes + 1 - l.run.span.end
