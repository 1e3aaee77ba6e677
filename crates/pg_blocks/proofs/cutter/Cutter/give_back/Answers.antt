use Rattle.std.proofs.Common.{arith, refl}
use Rattle.pg_blocks.proofs.RoomLemmas.{held_stays}
use Rattle.pg_blocks.proofs.cutter.Cutter.give_back.Goals as goal

pub overflow_add-most : goal.overflow_add-most
overflow_add-most g c = omega (arith, c.args.self.now.sized.1)

pub overflow_mul-most : goal.overflow_mul-most
overflow_mul-most g c = omega (arith, c.args.self.now.sized.1)

pub invariant_of-self : goal.invariant_of-self
invariant_of-self g c =
    let self = c.args.self.now in
    record {
      sized = self.sized;
      within = self.within;
      unfinished = self.unfinished;
      few = self.few;
      numbers = self.numbers;
      line_fits = self.line_fits;
    }

pub returns-then-capacity-most-clause-keeps : goal.returns-then-capacity-most-clause-keeps
returns-then-capacity-most-clause-keeps g c = record {
  stands = λ past s. held_stays c.args.self.now _ past s refl refl refl refl refl refl refl refl refl;
  drained = λ d. d;
}

pub returns-then-capacity-most-clause-waiting : goal.returns-then-capacity-most-clause-waiting
returns-then-capacity-most-clause-waiting g c = refl

pub returns-then-capacity-most-clause-room : goal.returns-then-capacity-most-clause-room
returns-then-capacity-most-clause-room g c = refl

pub returns-else-len-clause-keeps : goal.returns-else-len-clause-keeps
returns-else-len-clause-keeps g c = record { stands = λ past s. s; drained = λ d. d }

pub returns-else-len-clause-waiting : goal.returns-else-len-clause-waiting
returns-else-len-clause-waiting g c = refl

pub returns-else-len-clause-room : goal.returns-else-len-clause-room
returns-else-len-clause-room g c = refl
