use Rattle.std.proofs.Common.{◌-◌, refl, sym, ap, ◌∙◌, arith}
use Rattle.std.proofs.Math.Seq.{drop-nil}
use Rattle.circular_buffer.specs.Buffer.{keep_last}
use Rattle.pg_selection.specs.Search.{terminator, terminator_of}
use Rattle.pg_rows.specs.Output.{context}
use Rattle.pg_rows.specs.Window.{lines_in}
use Rattle.pg_rows.proofs.printer.Printer.new.Goals as goal

pub returns : goal.returns
returns g c q same =
    let n = context c.args.format.before in
    let end = terminator q in
    record {
      format_is = refl;
      end_is = c.terminator.ensures ∙ sym (ap terminator_of same);
      earlier_is = refl;
      name_is = c.in_ok-prefix.ensures;
      told = c.new-3.ensures c.args.format;
      offset = refl;
      room = omega arith;
      holds = c.in_ok-window.ensures.window end;
      size = c.in_ok-window.ensures.size ∙ (c.from.ensures ∙ c.unwrap_or.ensures);
      window = λ shows. sym (ap (λ ts. keep_last n (lines_in end ts)) c.in_ok-window.ensures.nothing
          ∙ drop-nil (0 - n));
    }
