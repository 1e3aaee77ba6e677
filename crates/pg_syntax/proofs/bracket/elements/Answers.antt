use Rattle.std.proofs.Common.{ℕ, ◌≡◌, ◌+◌, ◌&&◌, Bool, true, false, not, eqb, drop, get_or, Some, option_and_then, ap}
use Rattle.std.proofs.Common.{◌∙◌, ◌-◌, length, sym, inl, inr, refl, arith}
use Rattle.std.proofs.lemmas.Bool.Decides.{nat_tests}
use Rattle.pg_syntax.specs.BracketViews.{element, reading}
use Rattle.pg_syntax.proofs.BracketRuns.{left_more, left_none, left_end, left_close, unended}
use Rattle.pg_syntax.proofs.BracketAt.{front_of, not_closing, inner}
use Rattle.pg_grammar.specs.Brackets.{begin, onward}
use Rattle.pg_syntax.specs.BracketReading.{Fresh, inside_at, rest_of, unread}
use Rattle.pg_syntax.proofs.bracket.elements.Goals as goal
use Rattle.pg_syntax.proofs.bracket.elements.Goals.{in-Ok, in-Err}
use Rattle.pg_syntax.proofs.bracket.elements.Goals.{else-text-at-eq93-via-then-text-at-eq93+else-not-first}
use Rattle.pg_syntax.proofs.bracket.elements.Goals.{else-text-at-eq93-via-else-text-at-eq93}

closes : (x : ℕ) (first : Bool) → x ≡ 93 → first ≡ false → (eqb x 93 && not first) ≡ true
closes x first e f = ap (λ y. eqb y 93 && not first) e ∙ ap not f

pub returns-then-not-first : goal.returns-then-not-first
returns-then-not-first c =
    let text = c.args.text.now in
    let at = c.loop-at.at in
    let done = left_close _ text _ c.loop-at.first at c.loop-at-test.true
    (closes (get_or text at 0) c.loop-at.first c.if-text-at-eq93.true c.if-not-first.true) c.loop-at.invariant.left
    in
    elim c.match-finish.branch [
      | in-Ok w ↦ rw w.result-is (
        done ∙ ap (option_and_then (λ s. Some (s, drop (at + 1) text))) w.in-Ok.ensures.reads,
        omega (arith, c.loop-at.invariant.above),
        omega (arith, c.loop-at-test.true),
      )
      | in-Err w ↦ rw w.result-is (
        done ∙ ap
            (option_and_then (λ s. Some (s, drop (at + 1) text))) w.in-Err.ensures.reads,
        w.in-Err.ensures.placed text c.args.bracket (drop at text) c.loop-at.invariant.placed,
      )
    ]

pub returns-in_default : goal.returns-in_default
returns-in_default c =
    let text = c.args.text.now in
    let at = c.loop-at.at in
    let differs : (eqb (get_or text at 0) 93 && not c.loop-at.first) ≡ false =
    elim c.else-text-at-eq93.branch [
      | else-text-at-eq93-via-then-text-at-eq93+else-not-first w ↦ grind (arith, nat_tests, w.if-not-first.false)
      | else-text-at-eq93-via-else-text-at-eq93 w ↦ grind (arith, nat_tests, w.if-text-at-eq93.false)
    ] in
    let none = left_none _ text _ c.loop-at.first at c.loop-at-test.true differs c.in_default.ensures
    c.loop-at.invariant.left in
    (ap (rest_of unread) none, (refl, unended text c.args.bracket c.args.start c.requires.opens none))

pub loop-at-init : goal.loop-at-init
loop-at-init c =
    let text = c.args.text.now in
    let start = c.args.start in
    record {
      above = omega arith;
      within = c.requires.within;
      left = record {
        steps = length text - start;
        enough = omega arith;
        reads = ap (λ s. rest_of (record { mode = Fresh; set = s; bad = false })
            (inside_at (length text - start) true (drop start text))) (sym c.empty.ensures);
        endless = λ n. n;
      };
      reached = begin;
      begun = inl refl;
      placed = (tt, tt);
    }

pub loop-at-preserved : goal.loop-at-preserved
loop-at-preserved c =
    let text = c.args.text.now in
    let at = c.loop-at.at in
    let differs : (eqb (get_or text at 0) 93 && not c.loop-at.first) ≡ false =
    elim c.else-text-at-eq93.branch [
      | else-text-at-eq93-via-then-text-at-eq93+else-not-first w ↦ grind (arith, nat_tests, w.if-not-first.false)
      | else-text-at-eq93-via-else-text-at-eq93 w ↦ grind (arith, nat_tests, w.if-text-at-eq93.false)
    ] in
    let e = c.in-Some.ensures in
    let next = element c.in-Some.next in
    let rest = drop c.in-Some.after text in
    let front = front_of (drop at text) next rest e.0 in
    let kind = not_closing text at c.loop-at.first next rest c.loop-at-test.true differs front in
    record {
      above = omega (arith, e.1);
      within = e.2;
      left = left_more _ text (reading c.loop-at.reading) c.loop-at.first at c.in-Some.after next
          c.loop-at-test.true e.1 differs e.0 (reading c.put.new.self) c.put.ensures.reads c.loop-at.invariant.left;
      reached = onward c.loop-at.invariant.reached front kind;
      begun = inr refl;
      placed = c.put.ensures.placed text c.args.bracket rest c.loop-at.invariant.placed (record {
        holds = record {
          inside = (
            drop c.args.start text,
            c.loop-at.first,
            c.requires.opens,
            c.loop-at.invariant.reached,
            kind,
          );
          front = front;
        };
        inner = inner c.loop-at.first next c.loop-at.reading.mode c.loop-at.invariant.begun kind;
      });
    }

pub returns : goal.returns
returns c =
    let none = left_end _ c.args.text.now _ c.loop-at.first c.loop-at.at c.loop-at-test.false
    c.loop-at.invariant.left in
    (ap (rest_of unread) none, (refl, unended c.args.text.now c.args.bracket c.args.start c.requires.opens none))
