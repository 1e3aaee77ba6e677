use Rattle.std.proofs.Common.{◌∙◌, sym, refl}
use Rattle.pg_seq.proofs.StandLemmas.{same_buffer, ended_stands}
use Rattle.pg_seq.proofs.assembler.Assembler.end.Goals as goal

pub returns : goal.returns
returns g c = λ past h.
    ended_stands c.args.self.now _ past c.args.failed
    (h.running ∙ (sym c.requires.1.0.running ∙ c.requires.1.1.0)) h refl refl refl refl
    (record { handed = refl; printing = refl; printer = refl }) refl (same_buffer _) refl
