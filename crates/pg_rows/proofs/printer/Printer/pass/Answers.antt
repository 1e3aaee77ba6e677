use Rattle.std.proofs.Common.{◌≡◌, ℕ, ◌++◌, sym, ap, ◌∙◌, subst}
use Rattle.std.specs.Arc.{arc_value}
use Rattle.circular_buffer.specs.Buffer.{keep_last}
use Rattle.pg_selection.specs.Search.{terminator}
use Rattle.pg_blocks.specs.Lines.{lines}
use Rattle.pg_rows.specs.Output.{context}
use Rattle.pg_rows.specs.Window.{lines_held, lines_from, IsWindow}
use Rattle.pg_rows.proofs.SizeLemmas.{run_place}
use Rattle.pg_rows.proofs.printer.Printer.pass.Goals as goal

pub returns : goal.returns
returns g c q format cur r f =
    let a = c.args in
    let block = arc_value a.block in
    let kept = c.clear_unless.new.self in
    let new = c.push_some.new.self in
    let most = context format.before in
    let W : ℕ → Type 0 = λ e. IsWindow e new in
    let more : ℕ → _ = λ e. lines_from e block a.printed.start in
    let size = c.clear_unless.ensures.size ∙ r.size in
    let P : ℕ → Type 0 = λ n.
    keep_last n (lines_held a.self.now.end new) ≡ keep_last n (lines_held a.self.now.end kept ++ more a.self.now.end) in
    let Q : ℕ → Type 0 = λ e. keep_last most (lines_held e new) ≡ keep_last most (lines_held e kept ++ more e) in
    let last = subst Q r.end_is (subst P size c.push_some.ensures.last) in
    record {
      format_is = r.format_is;
      end_is = r.end_is;
      earlier_is = r.earlier_is;
      name_is = r.name_is;
      told = f.told;
      offset = f.offset;
      room = run_place q format cur.trail (lines (terminator q) block.bytes) r.room;
      holds = subst W r.end_is c.push_some.ensures.window;
      size = c.push_some.ensures.size ∙ size;
      window = λ shows. f.window shows
          ∙ (ap (λ xs. keep_last most (xs ++ more (terminator q))) (sym (c.clear_unless.ensures.held (terminator q)))
          ∙ sym last);
    }
