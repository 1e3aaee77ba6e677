use Rattle.std.proofs.Common.{◌≡◌, ◌+◌, ◌-◌, true, get_or, subst, arith}
use Rattle.std.proofs.lemmas.Bool.Decides.{nat_tests}
use Rattle.pg_literal.specs.Ranges.{covered}
use Rattle.pg_literal.specs.Rows.{row_along}
use Rattle.pg_literal.proofs.FinderLemmas.{each_stands}
use Rattle.pg_literal.proofs.row_finder.RowFinder.skip_by_sets.Goals as goal

pub returns : goal.returns
returns g c =
    let finder = c.args.self.now in
    let bytes = c.args.bytes.now in
    let at = c.args.at in
    let row = row_along finder.sets.items in
    let distance = finder.far.offset - finder.near.offset in
    let told = c.uncovered_places-places.ensures in
    record {
      within = omega (arith, told.few, c.requires, finder.ordered);
      candidate = λ yes. grind (arith, nat_tests, told.few, c.requires, finder.ordered);
      none = λ k less stands.
          let near = each_stands bytes row (at + k) finder.near.offset finder.near_is.within stands in
          let far = each_stands bytes row (at + k) finder.far.offset finder.far_is.within stands in
          let near_at : at + k + finder.near.offset ≡ at + finder.near.offset + k = omega arith in
          let far_at : at + k + finder.far.offset ≡ at + finder.near.offset + distance + k = omega arith in
          told.none k less
          (subst (λ n. covered finder.near.cover (get_or bytes n 0) ≡ true) near_at
          (finder.near_is.covers _ (c.type_inv.bytes (at + k + finder.near.offset)).fits near.1))
          (subst (λ n. covered finder.far.cover (get_or bytes n 0) ≡ true) far_at
          (finder.far_is.covers _ (c.type_inv.bytes (at + k + finder.far.offset)).fits far.1));
      some = λ no. grind (arith, nat_tests);
    }
