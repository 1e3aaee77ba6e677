use Rattle.std.proofs.Common.{List, ◌-◌, ◌≤◌, false, length, drop, take}
use Rattle.pg_match.specs.Machines.{Fits}
use Rattle.pg_blocks.specs.Lines.{AreShort}
use Rattle.pg_selection.specs.Search.{Pattern, AreTreesOf, search_of, uninverted, terminator_of}
use Rattle.pg_selection.specs.Runs.{AllLines}
use Rattle.pg_prefilter.proofs.LineLemmas.{IsPassed}
use Rattle.pg_lines.proofs.search.next_matched.Given as goal

-- the lines before `start` aren't selected
abbrev pub invariant-loop-start : goal.invariant-loop-start
invariant-loop-start g l = record {
  fits : Fits l.scratch l.query.machine;
  within : l.start ≤ length l.rest;
  passed : IsPassed (terminator_of l.query.text) l.rest l.start;
  unselected : (trees : List Pattern) → AreTreesOf l.query.text trees
      → AllLines (search_of (uninverted l.query.text) trees) false (take l.start l.rest);
  short : AreShort (terminator_of l.query.text) (drop l.start l.rest);
}

abbrev pub decreases-loop-start : goal.decreases-loop-start
decreases-loop-start g l = length l.rest - l.start
