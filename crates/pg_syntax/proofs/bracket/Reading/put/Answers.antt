use Rattle.std.proofs.Common.{ap, sym, ◌∙◌, subst, option_map, drop, inl, inr}
use Rattle.pg_bytes.specs.ByteSets.{bytes}
use Rattle.pg_syntax.specs.BracketViews.{element}
use Rattle.pg_syntax.specs.BracketPlaces.{EndsRange}
use Rattle.pg_syntax.proofs.BracketAt.{dash_front, ends_range, ranged_on, behind_dash, behind_range, no_range}
use Rattle.pg_syntax.proofs.bracket.Reading.put.Goals as goal
use Rattle.pg_syntax.proofs.bracket.Reading.put.Goals.{then-is_dash-2, else-is_dash-2}

pub returns-in-Dashed-clause-placed : goal.returns-in-Dashed-clause-placed
returns-in-Dashed-clause-placed c = λ text bracket rest p k.
    let held = rw c.in-Dashed.is at p.1 in
    let low = element c.in-Dashed.held in
    let high = element c.args.next in
    let start = c.in-Dashed.start in
    let inner = behind_dash _ text bracket start c.args.at c.in-Dashed.held c.args.next rest c.in-Dashed.is k in
    let range = ends_range text bracket start c.args.at c.in-Dashed.held c.args.next rest held k.holds inner in (
      c.add-in-Dashed.ensures.placed text bracket p.0 (λ none. c.range_fault.ensures text bracket _ rest held k.holds
          (low, high, rest, range, inl (no_range low high (sym c.range.ensures ∙ ap (option_map bytes) none)))),
      inl (low, high, range),
    )

pub returns-in-Barred-clause-placed : goal.returns-in-Barred-clause-placed
returns-in-Barred-clause-placed c = λ text bracket rest p k.
    let range = rw c.in-Barred.is at p.1 in
    let inner = behind_range _ text bracket c.in-Barred.start c.args.at c.args.next rest c.in-Barred.is k in
    let bad = ranged_on text bracket c.in-Barred.start c.args.at c.args.next rest range k.holds inner in
    (c.add-in-Barred.ensures.placed text bracket p.0 (λ none. bad), inr bad)

pub returns-after-is_dash-2-clause-placed : goal.returns-after-is_dash-2-clause-placed
returns-after-is_dash-2-clause-placed c = λ text bracket rest p k.
    let range = rw c.in-Ranged.is at p.1 in
    elim c.if-is_dash-2.branch [
      | then-is_dash-2 w ↦ rw w.self-is (
        p.0,
        subst (EndsRange text bracket c.in-Ranged.start) (dash_front (element c.args.next) (drop c.args.at text) rest
            (sym c.is_dash-in-Ranged.ensures ∙ w.if-is_dash-2.true) k.holds.front) range,
      )
      | else-is_dash-2 w ↦ rw w.self-is (p.0, k.holds)
    ]

pub returns-else-is_dash-clause-placed : goal.returns-else-is_dash-clause-placed
returns-else-is_dash-clause-placed c = λ text bracket rest p k. (
  c.add.ensures.placed text bracket p.0 (λ none. c.fault.ensures text bracket (drop c.args.at text)
      (sym c.member.ensures ∙ ap (option_map bytes) none) (rw c.in-Held.is at p.1)),
  k.holds,
)
