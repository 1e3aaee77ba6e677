use Rattle.std.proofs.Common.{◌∙◌, sym, refl}
use Rattle.pg_seq.proofs.StandLemmas.{same_buffer, missed_stands}
use Rattle.pg_seq.proofs.assembler.Assembler.miss.Goals as goal

pub returns-clause-ok : goal.returns-clause-ok
returns-clause-ok g c = λ past h.
    missed_stands c.args.self.now _ past c.args.name.now
    (h.running ∙ (sym c.requires.1.0.running ∙ c.requires.1.1.0)) h refl refl refl refl
    (record { handed = refl; printing = refl; printer = refl }) refl (same_buffer _) refl
