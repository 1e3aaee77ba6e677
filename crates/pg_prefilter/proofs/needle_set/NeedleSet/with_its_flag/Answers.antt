use Rattle.std.proofs.Common.{◌≡◌, [], ◌∷◌, IsTrue, slice_range, refl, sym, subst, arith}
use Rattle.pg_blocks.specs.Lines.{lines}
use Rattle.pg_strings.specs.Outcomes.{strings_of}
use Rattle.pg_selection.specs.Search.{terminator_of}
use Rattle.pg_prefilter.specs.Enough.{strings_if_some}
use Rattle.pg_prefilter.specs.Literals.{set_literals}
use Rattle.pg_prefilter.proofs.NeedleSetLemmas.{first_with_enough, held_by_line}
use Rattle.pg_prefilter.proofs.needle_set.NeedleSet.with_its_flag.Goals as goal

pub returns-clause-found : goal.returns-clause-found
returns-clause-found g c =
    let text = c.args.text.now in
    let bytes = c.args.bytes.now in
    let end = terminator_of text in
    let found = c.args.found in
    let own = c.args.self.now in
    let set = own.literals.now in
    let more = strings_if_some set.enough in
    let was = c.requires.found in
    let first = was.3 in
    let held = held_by_line text.fold end (set_literals set) more c.args.at bytes own.searched.now found
    c.requires.needles.searched first (omega (arith, was.1, was.2)) (λ cut is.
    let holds : IsTrue c.holds_enough.result = let h = c.if-not-holds_enough.false in cc in
    c.holds_enough.ensures.held holds cut (subst (λ e. lines e (slice_range bytes found.line.start found.line.end)
    ≡ cut ∷ []) (sym c.terminator.ensures) is)) in (
      was.0,
      was.1,
      was.2,
      first_with_enough text.fold end (strings_of set.strings) more set.is_enough c.args.at _ found _
          refl refl first held,
    )
