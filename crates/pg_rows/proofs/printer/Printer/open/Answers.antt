use Rattle.std.proofs.Common.{◌-◌, ◌||◌, refl, sym, ap, ◌∙◌, arith}
use Rattle.std.proofs.Math.Seq.{drop-nil}
use Rattle.circular_buffer.specs.Buffer.{keep_last}
use Rattle.pg_selection.specs.Search.{terminator}
use Rattle.pg_rows.specs.Output.{context}
use Rattle.pg_rows.specs.Window.{lines_in}
use Rattle.pg_rows.proofs.printer.Printer.open.Goals as goal

pub returns : goal.returns
returns g c q format cur r =
    let n = context format.before in
    let end = terminator q in
    record {
      format_is = r.format_is;
      end_is = r.end_is;
      earlier_is =
          ap (λ b. b || c.args.self.now.progress.shown) r.earlier_is ∙ ap (λ b. cur.earlier || b) r.told.some;
      name_is = refl;
      told = c.new-self.ensures format;
      offset = refl;
      room = omega arith;
      holds = c.clear.ensures.window end;
      size = c.clear.ensures.size ∙ r.size;
      window = λ shows. sym (ap (λ ts. keep_last n (lines_in end ts)) c.clear.ensures.nothing ∙ drop-nil (0 - n));
    }
