use Rattle.std.proofs.Common.{refl}
use Rattle.pg_seq.proofs.StandLemmas.{taken_stands}
use Rattle.pg_seq.proofs.assembler.Assembler.keep.Goals as goal

pub returns : goal.returns
returns g c = λ past h first.
    taken_stands c.args.self.now _ past c.args.found h first
    (record { selector = refl; format = refl; running = refl; bad = refl })
    (record { handed = c.put.ensures.handed; printing = refl; printer = refl }) refl refl c.put.ensures
