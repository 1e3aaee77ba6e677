use Rattle.std.proofs.Common.{refl}
use Rattle.std.specs.Arc.{arc_value}
use Rattle.pg_base.proofs.SinkLemmas.{on_ok, on_err_too}
use Rattle.pg_seq.proofs.StandLemmas.{same_stands, announced_stands, has_room}
use Rattle.pg_seq.proofs.assembler.Assembler.announce.Goals as goal

pub push-requires : goal.push-requires
push-requires g c = has_room c.args.self.now c.requires.0 c.requires.1.0

pub returns-clause-ok : goal.returns-clause-ok
returns-clause-ok g c = λ past h may.
    on_ok c.push.result _ _ (λ p. announced_stands c.args.self.now _ past (arc_value c.args.block) h may
    (record { selector = refl; format = refl; running = refl; bad = refl })
    (record { handed = p.handed; printing = refl; printer = refl }) refl refl p) c.push.ensures.ok

pub returns-clause-err : goal.returns-clause-err
returns-clause-err g c = λ past h.
    on_err_too c.push.result _ _ (λ k.
    same_stands c.args.self.now _ past h
    (record { selector = refl; format = refl; running = refl; bad = refl })
    (record { handed = k.handed; printing = refl; printer = refl }) refl k refl) c.push.ensures.err
