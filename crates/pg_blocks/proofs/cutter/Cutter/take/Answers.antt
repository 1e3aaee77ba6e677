use Rattle.std.proofs.Common.{refl}
use Rattle.pg_blocks.proofs.CutterLemmas.{next_if_some, handed_stands}
use Rattle.pg_blocks.proofs.cutter.Cutter.take.Goals as goal

pub returns-clause-next : goal.returns-clause-next
returns-clause-next g c =
    next_if_some c.args.self.now c.pop_front.result c.pop_front.new.self.items c.pop_front.ensures.items

pub invariant_of-self : goal.invariant_of-self
invariant_of-self g c =
    let self = c.args.self.now in
    record {
      sized = self.sized;
      within = self.within;
      unfinished = self.unfinished;
      few = self.few;
      numbers = self.numbers;
      line_fits = self.line_fits;
    }

pub returns-clause-stands : goal.returns-clause-stands
returns-clause-stands g c =
    λ past s.
    handed_stands c.args.self.now _ past c.pop_front.result s refl refl refl refl refl refl refl refl
    c.pop_front.ensures.items
