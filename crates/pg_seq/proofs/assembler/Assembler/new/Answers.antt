use Rattle.std.proofs.Common.{sym, refl}
use Rattle.std.specs.Arc.{arc_value}
use Rattle.pg_selection.specs.Search.{search_of}
use Rattle.pg_seq.proofs.StandLemmas.{new_stands}
use Rattle.pg_seq.proofs.assembler.Assembler.new.Goals as goal

pub returns : goal.returns
returns g c = λ trees are.
    let q = search_of (arc_value c.args.selector) trees in
    new_stands _ q c.args.format refl are refl c.requires refl refl c.new-2.ensures c.new-3.ensures.items refl
    (c.in_ok-printer.ensures q (sym c.deref.ensures)) refl
