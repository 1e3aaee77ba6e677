use Rattle.std.proofs.Common.{◌≡◌, ◌+◌, ◌-◌, ◌<◌, ◌≤◌, ◌⊎◌, inl, inr, List, ℕ, [], length, drop, slice_range, ap, ◌∙◌}
use Rattle.std.proofs.Common.{subst}
use Rattle.std.proofs.Common.{arith, length-append, length-drop, refl}
use Rattle.std.proofs.lemmas.Bool.{cases_lt}
use Rattle.std.proofs.lemmas.List.{drop_all, length-take-le}
use Rattle.pg_blocks.specs.Lines.{lines, AreWhole}
use Rattle.pg_rows.specs.Output.{bytes_in}
use Rattle.pg_base.specs.Sink.{WritesAll, WritesPart}
use Rattle.pg_rows.specs.Stretch.{marked_rows, plain}
use Rattle.pg_rows.proofs.RowLemmas.{marked_line}
use Rattle.pg_rows.proofs.SizeLemmas.{size_whole}
use Rattle.pg_base.proofs.WriteLemmas.{writes_part, left_less, left_none, left_part, left_whole}
use Rattle.pg_rows.proofs.rows.write_line_by_line.Goals as goal

-- how many bytes the line has that stands between two places, or none follows it
line_size : (end : ℕ) (text : List ℕ) (from next : ℕ) → from < next → next ≤ length text
    → (next < length text → AreWhole end (slice_range text from next))
    → (bytes_in (lines end (slice_range text from next)) ≡ next - from) ⊎ (lines end (drop next text) ≡ [])
line_size end text from next less within whole = elim (cases_lt next (length text)) [
  | inl more ↦
      let left = length-drop from text in
      inl (size_whole end (slice_range text from next) (whole more)
      ∙ length-take-le (next - from) (drop from text) (omega arith))
  | inr last ↦ inr (ap (lines end) (drop_all next text last))
]

pub returns-in_err-write_line-clause-writes : goal.returns-in_err-write_line-clause-writes
returns-in_err-write_line-clause-writes g c =
    let a = c.args in
    let from = c.loop-start.start in
    let next = c.end_of_line-next.result in
    let at = c.loop-start.at in
    let rows = λ (n o : ℕ) (ls : List (List ℕ)). marked_rows a.format.now a.end a.prefix.now a.mark plain n o ls in
    let first = lines a.end (slice_range a.text.now from next) in
    let later = lines a.end (drop next a.text.now) in
    let low = c.end_of_line-next.ensures.low c.loop-start-test.true in
    let one = c.end_of_line-next.ensures.one c.loop-start-test.true in
    let size = line_size a.end a.text.now from next low c.end_of_line-next.ensures.high
    c.end_of_line-next.ensures.whole in
    let parted = marked_line a.format.now a.end a.prefix.now a.mark plain at.number at.offset (next - from)
    (lines a.end (drop from a.text.now)) first later one size
    c.end_of_line-next.ensures.apart in
    let before = g.W.Sink.stream a.out.now in
    let middle = g.W.Sink.stream c.loop-start.out in
    let after = g.W.Sink.stream c.write_line.new.out in
    let P : List ℕ → Type 0 = λ name. WritesPart
    (marked_rows a.format.now a.end name a.mark plain at.number at.offset first) middle after in
    let whole = rows a.first.number a.first.offset (lines a.end a.text.now) in
    writes_part whole before after c.from_residual.result c.from_residual.ensures.0
    (left_part whole (rows at.number at.offset (lines a.end (drop from a.text.now)))
    (rows (at.number + 1) (at.offset + (next - from)) later)
    (rows at.number at.offset first) before middle after parted
    (subst P c.loop-start.invariant.prefix c.in_err-write_line.ensures.writes.err) c.loop-start.invariant.left)

pub loop-start-preserved : goal.loop-start-preserved
loop-start-preserved g c =
    let a = c.args in
    let from = c.loop-start.start in
    let next = c.end_of_line-next.result in
    let at = c.loop-start.at in
    let rows = λ (n o : ℕ) (ls : List (List ℕ)). marked_rows a.format.now a.end a.prefix.now a.mark plain n o ls in
    let first = lines a.end (slice_range a.text.now from next) in
    let later = lines a.end (drop next a.text.now) in
    let all = lines a.end (drop from a.text.now) in
    let low = c.end_of_line-next.ensures.low c.loop-start-test.true in
    let one = c.end_of_line-next.ensures.one c.loop-start-test.true in
    let size = line_size a.end a.text.now from next low c.end_of_line-next.ensures.high
    c.end_of_line-next.ensures.whole in
    let parted = marked_line a.format.now a.end a.prefix.now a.mark plain at.number at.offset (next - from) all first
    later one size c.end_of_line-next.ensures.apart in
    let counted : length all ≡ 1 + length later = ap length c.end_of_line-next.ensures.apart
    ∙ (length-append first later ∙ ap (λ n. n + length later) one) in
    let before = g.W.Sink.stream a.out.now in
    let middle = g.W.Sink.stream c.loop-start.out in
    let after = g.W.Sink.stream c.write_line.new.out in
    let P : List ℕ → Type 0 = λ name. WritesAll
    (marked_rows a.format.now a.end name a.mark plain at.number at.offset first) middle after in
    let whole = rows a.first.number a.first.offset (lines a.end a.text.now) in
    let small = c.loop-start.invariant.small in
    let place = c.loop-start.invariant.place in
    record {
      within = c.end_of_line-next.ensures.high;
      small = omega (arith, counted, small);
      place = omega (arith, place, low);
      prefix = c.in_ok-write_line.ensures.same ∙ c.loop-start.invariant.prefix;
      left = left_less whole (rows at.number at.offset all) (rows (at.number + 1) (at.offset + (next - from)) later)
          (rows at.number at.offset first)
          before middle after parted (subst P c.loop-start.invariant.prefix c.in_ok-write_line.ensures.writes.ok)
          c.loop-start.invariant.left;
    }

pub loop-start-init : goal.loop-start-init
loop-start-init g c =
    let a = c.args in
    record {
      within = omega arith;
      small = c.requires.small;
      place = omega arith;
      prefix = refl;
      left = left_whole (marked_rows a.format.now a.end a.prefix.now a.mark plain a.first.number a.first.offset
          (lines a.end a.text.now)) (g.W.Sink.stream a.out.now);
    }

pub overflow_add-at-in-loop-start : goal.overflow_add-at-in-loop-start
overflow_add-at-in-loop-start g c =
    let place = c.loop-start.invariant.place in
    let placed = c.requires.placed in
    let low = c.end_of_line-next.ensures.low c.loop-start-test.true in
    let high = c.end_of_line-next.ensures.high in
    omega arith

pub returns-clause-writes : goal.returns-clause-writes
returns-clause-writes g c =
    let a = c.args in
    let from = c.loop-start.start in
    let at = c.loop-start.at in
    let rows = λ (n o : ℕ) (ls : List (List ℕ)). marked_rows a.format.now a.end a.prefix.now a.mark plain n o ls in
    record {
      ok = left_none (rows a.first.number a.first.offset (lines a.end a.text.now))
          (rows at.number at.offset (lines a.end (drop from a.text.now)))
          (g.W.Sink.stream a.out.now) (g.W.Sink.stream c.loop-start.out)
          (ap (λ xs. rows at.number at.offset (lines a.end xs)) (drop_all from a.text.now c.loop-start-test.false))
          c.loop-start.invariant.left;
      err = tt;
    }
