use Rattle.std.proofs.Common.{List, ◌+◌, ◌*◌, ◌-◌, ◌<◌, ◌≤◌, length, drop}
use Rattle.pg_match.specs.Machines.{Fits}
use Rattle.pg_blocks.specs.Lines.{AreShort}
use Rattle.pg_selection.specs.Search.{Pattern, AreTreesOf, search_of, uninverted, terminator_of}
use Rattle.pg_prefilter.specs.Candidates.{AreNeedles, AreSome, row_sought}
use Rattle.pg_prefilter.proofs.CandidateLemmas.{IsSkipped}
use Rattle.pg_prefilter.proofs.SoughtLemmas.{turns}
use Rattle.pg_lines.proofs.search.next_confirmed.Given as goal

-- the lines before `from` aren't selected
abbrev pub invariant-loop-in_vain : goal.invariant-loop-in_vain
invariant-loop-in_vain g l = record {
  fits : Fits l.scratch l.query.machine;
  low : l.at ≤ l.from;
  within : l.from ≤ length l.bytes;
  few : l.in_vain ≤ 8;
  needles : AreNeedles l.query.text l.bytes l.from l.needles;
  some : l.in_vain < 8 → AreSome l.needles;
  short : AreShort (terminator_of l.query.text) (drop l.from l.bytes);
  skipped : (trees : List Pattern) → AreTreesOf l.query.text trees
      → IsSkipped (search_of (uninverted l.query.text) trees) l.at l.from l.bytes;
}

abbrev pub decreases-loop-in_vain : goal.decreases-loop-in_vain
decreases-loop-in_vain g l = 2 * (length l.bytes - l.from) + turns (row_sought l.needles)
