use Rattle.std.proofs.Common.{◌≡◌, ℕ, List, false, sym, subst}
use Rattle.pg_literal.specs.Literals.{as_searched}
use Rattle.pg_selection.specs.Search.{SearchText, Pattern, AreTreesOf, search_of, uninverted}
use Rattle.pg_selection.specs.Runs.{AllLines}
use Rattle.pg_prefilter.specs.Prefilters.{IsPrefilterOf}
use Rattle.pg_lines.proofs.query.Query.may_hold.Goals as goal

pub may_hold-requires-clause-found : goal.may_hold-requires-clause-found
may_hold-requires-clause-found g c =
    subst (λ text. IsPrefilterOf text c.prefilter.result.now) (sym c.text.ensures.text) c.prefilter.ensures

pub returns : goal.returns
returns g c = λ lacks.
    let Tells : SearchText → Type 0 = λ text. (bytes : List ℕ) → c.args.searched.now ≡ as_searched text.fold bytes
    → (trees : List Pattern) → AreTreesOf text trees → AllLines (search_of (uninverted text) trees) false bytes in
    subst Tells c.text.ensures.text (c.may_hold.ensures lacks)
