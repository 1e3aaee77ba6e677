use Rattle.std.proofs.Common.{refl}
use Rattle.pg_run.proofs.engine.Engine.take_spare.Goals as goal

pub invariant_of-self : goal.invariant_of-self
invariant_of-self g c =
    let s = c.args.self.now in
    record {
      fits = s.fits;
      few_scratches = s.few_scratches;
      all_fit = s.all_fit;
      endless = s.endless;
      at_once = s.at_once;
      few = s.few;
    }

pub returns-clause-kept : goal.returns-clause-kept
returns-clause-kept g c = (refl, refl)

pub returns-clause-round : goal.returns-clause-round
returns-clause-round g c = refl
