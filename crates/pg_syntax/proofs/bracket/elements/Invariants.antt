use Rattle.std.proofs.Common.{◌≡◌, ◌⊎◌, true, false, ◌≤◌, ◌-◌, length, drop}
use Rattle.pg_syntax.specs.declared.bracket.Mode.TheVariants.{Fresh}
use Rattle.pg_syntax.specs.BracketReading.{inside_at}
use Rattle.pg_syntax.specs.BracketViews.{reading}
use Rattle.pg_grammar.specs.Brackets.{ReadsUpTo}
use Rattle.pg_syntax.specs.BracketPlaces.{Placed}
use Rattle.pg_syntax.proofs.BracketRuns.{Left}
use Rattle.pg_syntax.proofs.bracket.elements.Given as goal

abbrev pub invariant-loop-at : goal.invariant-loop-at
invariant-loop-at l = record {
  above : l.fn.start ≤ l.at;
  within : l.at ≤ length l.text;
  left : Left (inside_at (length l.text - l.fn.start) true (drop l.fn.start l.text)) l.text (reading l.reading) l.first
      l.at;
  reached : ReadsUpTo (drop l.fn.start l.text) l.first (drop l.at l.text);
  begun : (l.reading.mode ≡ Fresh) ⊎ (l.first ≡ false);
  placed : Placed l.text l.fn.bracket (drop l.at l.text) l.reading;
}

abbrev pub decreases-loop-at : goal.decreases-loop-at
decreases-loop-at l = length l.text - l.at
