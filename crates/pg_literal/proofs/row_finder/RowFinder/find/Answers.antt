use Rattle.std.proofs.Common.{◌≡◌, ◌+◌, inl, inr, subst, arith, refl}
use Rattle.std.proofs.lemmas.Bool.{cases_lt, false≢true}
use Rattle.pg_literal.specs.Rows.{row_along, StandsAt}
use Rattle.pg_literal.proofs.FinderLemmas.{nowhere_more}
use Rattle.pg_literal.proofs.row_finder.RowFinder.find.Goals as goal

pub returns-then-stands_at : goal.returns-then-stands_at
returns-then-stands_at g c = (
  record {
    low = omega (arith, c.loop-at.invariant.behind);
    high = c.next_candidate-skip.ensures.candidate c.if-skip.true;
    before = nowhere_more c.args.bytes.now (row_along c.args.self.now.sets.items) 0 c.loop-at.at
        c.next_candidate-skip.result.places c.loop-at.invariant.nowhere c.next_candidate-skip.ensures.none;
  },
  c.if-stands_at.ensures.0 refl,
)

pub loop-at-preserved-else-tries-at : goal.loop-at-preserved-else-tries-at
loop-at-preserved-else-tries-at g c =
    let row = row_along c.args.self.now.sets.items in
    let bytes = c.args.bytes.now in
    let next = c.loop-at.at + c.next_candidate-skip.result.places in
    let before = nowhere_more bytes row 0 c.loop-at.at
    c.next_candidate-skip.result.places c.loop-at.invariant.nowhere c.next_candidate-skip.ensures.none in
    record {
      behind = omega (arith, c.loop-at.invariant.behind);
      within = omega (arith, c.next_candidate-skip.ensures.candidate c.if-skip.true);
      nowhere = λ k low high o. elim (cases_lt k next) [
        | inl less ↦ before k low less o
        | inr more ↦
            let same : k ≡ next = omega arith in
            absurd (false≢true (c.if-stands_at.ensures.1 (subst (StandsAt bytes row) same o)))
      ];
    }

pub loop-at-preserved : goal.loop-at-preserved
loop-at-preserved g c = record {
  behind = omega (arith, c.loop-at.invariant.behind);
  within = c.next_candidate-skip.ensures.within;
  nowhere = nowhere_more c.args.bytes.now (row_along c.args.self.now.sets.items) 0 c.loop-at.at
      c.next_candidate-skip.result.places c.loop-at.invariant.nowhere c.next_candidate-skip.ensures.none;
}
