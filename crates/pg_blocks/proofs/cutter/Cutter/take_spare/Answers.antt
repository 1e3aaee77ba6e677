use Rattle.std.proofs.Common.{List, ℕ, arith, refl, subst}
use Rattle.pg_blocks.specs.Blocks.{IsUnfinished}
use Rattle.pg_blocks.proofs.BufferLemmas.{none_held}
use Rattle.pg_blocks.proofs.RoomLemmas.{held_stays}
use Rattle.pg_blocks.proofs.cutter.Cutter.take_spare.Goals as goal

pub invariant_of-self : goal.invariant_of-self
invariant_of-self g c =
    let self = c.args.self.now in
    let P : List ℕ → Type 0 = λ xs. IsUnfinished self.end self.size xs in
    record {
      sized = self.sized;
      within = omega (arith, c.if-self-eq0.true);
      unfinished = subst P (none_held self.filled self.rest.items _ c.if-self-eq0.true) self.unfinished;
      few = self.few;
      numbers = self.numbers;
      line_fits = self.line_fits;
    }

pub returns-then-len : goal.returns-then-len
returns-then-len g c =
    let self = c.args.self.now in
    let same = none_held self.filled _ self.rest.items c.if-self-eq0.true in record {
      stands = λ past s. held_stays self _ past s refl refl refl refl refl refl refl refl same;
      drained = λ d. d;
    }
