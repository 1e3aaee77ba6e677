use Rattle.std.proofs.Common.{Vec, ℕ, sym, subst}
use Rattle.std.specs.List.{All}
use Rattle.std.proofs.lemmas.List.Elements.{All-map}
use Rattle.pg_pattern.specs.Strings.{items_of}
use Rattle.pg_prefilter.specs.Enough.{IsOneEnough}
use Rattle.pg_prefilter.proofs.EnoughLemmas.{enough_some}
use Rattle.pg_prefilter.proofs.literal_set.enough_of.Goals as goal

pub new-requires : goal.new-requires
new-requires g c =
    enough_some c.args.literals.now c.in_ok-copies_of_enough.field-0.items c.requires c.in_ok-copies_of_enough.ensures

pub returns : goal.returns
returns g c =
    let Of = IsOneEnough c.args.literals.now in
    subst (All Of) (sym c.in_ok-set.ensures)
    (All-map Of items_of c.in_ok-copies_of_enough.field-0.items c.in_ok-copies_of_enough.ensures)
