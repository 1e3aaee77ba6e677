use Rattle.std.proofs.Common.{refl, sym, ap, ◌∙◌, arith, ◌≡◌, drop, [], ◌∷◌, length}
use Rattle.std.proofs.lemmas.List.{nil_from_length}
use Rattle.pg_seq.proofs.DrainSteps.{none_waits, opened_next, here}
use Rattle.pg_seq.proofs.StandLemmas.{same_buffer, same_stands}
use Rattle.pg_seq.proofs.assembler.Assembler.open_next.Goals as goal

pub returns-in_default : goal.returns-in_default
returns-in_default g c =
    let none : c.args.self.now.waiting.items ≡ [] =
    nil_from_length _ (omega (arith, c.in_default.ensures.cases.0, c.args.self.now.waiting.ok.0)) in
    let after : c.pop_front.new.self.items ≡ [] = c.in_default.ensures.rest ∙ ap (drop 1) none in
    record {
      opened = λ past h. (
        none_waits c.args.self.now past h c.requires.0 none c.requires.1,
        same_stands c.args.self.now _ past h (record { selector = refl; format = refl; running = refl; bad = refl })
            (record { handed = refl; printing = refl; printer = refl }) (after ∙ sym none) (same_buffer _) refl,
      );
      fewer = λ e. absurd (cc);
      same = refl;
    }

pub returns : goal.returns
returns g c =
    let waits : c.args.self.now.waiting.items ≡ c.in-Some.next ∷ c.pop_front.new.self.items = search in
    record {
      opened = λ past h.
          opened_next c.args.self.now past h _ c.in-Some.next c.requires.0 waits
          (record { selector = refl; format = refl; running = refl; bad = refl }) refl (same_buffer _) refl
          (c.open.ensures past.query past.format (here c.args.self.now past h) h.writes.cursor);
      fewer = λ e. omega (arith, ap length waits);
      same = refl;
    }
