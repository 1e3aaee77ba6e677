use Rattle.std.proofs.Common.{◌≡◌, ◌-◌, ℕ, take, drop, ◌∙◌, subst, refl}
use Rattle.std.proofs.lemmas.List.{take_rest}
use Rattle.std.specs.Vec.{with_items_from}
use Rattle.pg_blocks.specs.Lending.{within_stays, unfinished_stays}
use Rattle.pg_blocks.proofs.RoomLemmas.{same_facts}
use Rattle.pg_blocks.proofs.cutter.Cutter.room.Goals as goal

pub invariant_of-self-lent : goal.invariant_of-self-lent
invariant_of-self-lent g c = λ w.
    let self = c.args.self.now in
    let within = within_stays self.rest self.filled w self.within in
    let unfinished = unfinished_stays self.end self.size self.rest self.filled w self.within self.unfinished in
    (self.sized, (within, (unfinished, (self.few, (self.numbers, (self.line_fits, tt))))))

pub returns : goal.returns
returns g c =
    let self = c.args.self.now in
    let P : ℕ → Type 0 = λ n. c.slice_mut.result.now ≡ take (n - self.filled) (drop self.filled self.rest.items) in (
      (refl, λ w. same_facts self (with_items_from self.rest self.filled w) (_, _, _, _, _, _) (_, _, _, _, _, _)),
      record {
        lends = tt;
        value = subst P self.rest.ok.0 c.slice_mut.ensures.value
            ∙ take_rest self.rest.items self.filled;
      },
    )
