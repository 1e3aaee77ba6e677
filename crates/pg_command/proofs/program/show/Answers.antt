use Rattle.std.proofs.Common.{List, ℕ, refl, sym, ◌∙◌, subst}
use Rattle.pg_base.specs.Sink.{WritesAll, WritesPart}
use Rattle.pg_report.proofs.ToldLemmas.{part_at_err, all_at_ok}
use Rattle.pg_command.proofs.program.show.Goals as goal

pub returns-then-is_err : goal.returns-then-is_err
returns-then-is_err g c =
    let P : List ℕ → Type 0 =
    λ text. WritesPart text (g.W.Sink.stream c.args.out.now) (g.W.Sink.stream c.write_all.new.out) in (
      subst P c.as_bytes.ensures.value (part_at_err c.write_all.result _ _ _
          (sym c.is_err.ensures.value ∙ c.if-is_err.true) c.write_all.ensures.writes),
      c.report.ensures.told,
    )

pub returns : goal.returns
returns g c =
    let P : List ℕ → Type 0 =
    λ text. WritesAll text (g.W.Sink.stream c.args.out.now) (g.W.Sink.stream c.write_all.new.out) in (
      refl,
      subst P c.as_bytes.ensures.value (all_at_ok c.write_all.result _ _ _
          (sym c.is_err.ensures.value ∙ c.if-is_err.false) c.write_all.ensures.writes),
      refl,
    )
