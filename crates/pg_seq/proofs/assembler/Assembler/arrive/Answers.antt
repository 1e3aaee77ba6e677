use Rattle.std.proofs.Common.{refl, sym}
use Rattle.pg_plan.specs.declared.answers.Arrival.TheVariants.{Double, Stranger}
use Rattle.pg_seq.proofs.StandLemmas.{kept_stands, taken_stands}
use Rattle.pg_seq.proofs.assembler.Assembler.arrive.Goals as goal

pub returns-in-Taken-clause-stands : goal.returns-in-Taken-clause-stands
returns-in-Taken-clause-stands g c = λ past h.
    taken_stands c.args.self.now _ past c.args.found h (sym (c.in-Taken.ensures past h))
    (record { selector = refl; format = refl; running = refl; bad = refl })
    (record { handed = c.put.ensures.handed; printing = refl; printer = refl }) refl refl c.put.ensures

pub returns-in-Double-clause-stands : goal.returns-in-Double-clause-stands
returns-in-Double-clause-stands g c = λ past h.
    kept_stands c.args.self.now past c.args.found Double h (sym (c.in-Double.ensures past h)) (λ e. cc)

pub returns-in-Stranger-clause-stands : goal.returns-in-Stranger-clause-stands
returns-in-Stranger-clause-stands g c = λ past h.
    kept_stands c.args.self.now past c.args.found Stranger h (sym (c.in-Stranger.ensures past h)) (λ e. cc)
