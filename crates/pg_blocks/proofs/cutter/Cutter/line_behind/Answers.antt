use Rattle.std.proofs.Common.{refl}
use Rattle.pg_blocks.proofs.LongLemmas.{chosen_none, chosen_some}
use Rattle.pg_blocks.proofs.CutterLemmas.{piece_decides, no_long}
use Rattle.pg_blocks.proofs.FaultLemmas.{file_not_line, line_not_file, taken_not_refused}
use Rattle.pg_blocks.proofs.FaultLemmas.{file_over, file_fits, not_over, total_fits}
use Rattle.pg_blocks.proofs.cutter.Cutter.line_behind.Goals as goal

pub returns-in-Some-clause-ok : goal.returns-in-Some-clause-ok
returns-in-Some-clause-ok g c =
    let chosen = chosen_some _ _ c.in-Some.line c.in-Some.ensures.value in
    record {
      fits = total_fits c.args.self.now.few c.if-piece-self.false;
      within = c.in-Some.ensures.fits;
      short = chosen.0;
      behind = chosen.1;
    }

pub returns-in-Some-clause-why : goal.returns-in-Some-clause-why
returns-in-Some-clause-why g c =
    let self = c.args.self.now in
    record {
      file = λ past s.
          let fits = file_fits s.total refl self.few c.if-piece-self.false in
          (λ e. absurd (taken_not_refused e), λ h. absurd (not_over fits h));
      line = λ past s.
          let chosen = chosen_some _ _ c.in-Some.line c.in-Some.ensures.value in
          let short = no_long self past c.args.piece.now s chosen.0 in
          (λ e. absurd (taken_not_refused e), λ h. absurd (short h.1));
    }

pub returns-in-None-clause-why : goal.returns-in-None-clause-why
returns-in-None-clause-why g c =
    let self = c.args.self.now in
    record {
      file = λ past s.
          let fits = file_fits s.total refl self.few c.if-piece-self.false in
          (λ e. absurd (line_not_file e), λ h. absurd (not_over fits h));
      line = λ past s.
          let decides = piece_decides self past c.args.piece.now s in
          let fits = file_fits s.total refl self.few c.if-piece-self.false in
          (λ e. (fits, decides.0 (chosen_none _ _ c.in-None.ensures.value)), λ h. refl);
    }

pub returns-then-piece-self-clause-why : goal.returns-then-piece-self-clause-why
returns-then-piece-self-clause-why g c =
    record {
      file = λ past s. (λ _. file_over s.total refl c.if-piece-self.true, λ _. refl);
      line = λ past s. (
        λ e. absurd (file_not_line e),
        λ h. absurd (not_over h.0 (file_over s.total refl c.if-piece-self.true)),
      );
    }
