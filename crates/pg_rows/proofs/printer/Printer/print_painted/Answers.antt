use Rattle.std.proofs.Common.{◌≡◌, ℕ, ◌+◌, ◌-◌, List, ◌∷◌, length, drop, slice_range, subst, ap, ◌∙◌, arith}
use Rattle.pg_blocks.specs.Lines.{lines}
use Rattle.pg_rows.specs.declared.printer.Printer.{Printer}
use Rattle.pg_rows.specs.Output.{painted, row}
use Rattle.pg_rows.specs.Painting.{painted_bytes}
use Rattle.pg_base.specs.Sink.{WritesAll, WritesPart}
use Rattle.pg_rows.specs.Stretch.{marked_rows}
use Rattle.pg_rows.proofs.PaintLemmas.{prints_line}
use Rattle.pg_base.proofs.WriteLemmas.{left_less, left_part, writes_part}
use Rattle.pg_rows.proofs.printer.Printer.print_painted.Goals as goal

pub slice_bounds-own-end : goal.slice_bounds-own-end
slice_bounds-own-end g c =
    let a = c.args in
    let s = a.self.now in
    let l = c.loop-at in
    let stop = c.line_end-stop.result in
    let next = c.end_of_parts-next.result in
    let P : Printer g.row.A.Denot → Type 0 = λ p. lines p.end (drop l.at a.bytes.now)
    ≡ slice_range a.bytes.now l.at stop ∷ lines p.end (drop (stop + 1) a.bytes.now) in
    let is = subst P l.invariant.same c.line_end-stop.ensures.line in
    let w = c.requires.told in
    let h = prints_line w.0 s.format s.end s.prefix a.first.number a.first.offset a.bytes.now a.from a.line
    a.parts.now l.at stop l.done
    l.used
    next (g.W.Sink.stream a.out.now) (g.W.Sink.stream l.out) (l.invariant.left w.0 w.1) l.invariant.begun
    c.requires.colored
    l.invariant.fits c.line_end-stop.ensures.low c.line_end-stop.ensures.high is c.end_of_parts-next.ensures in
    let within = h.within in
    let ordered = h.ordered in
    omega arith

pub print_painted_line-requires : goal.print_painted_line-requires
print_painted_line-requires g c =
    let a = c.args in
    let s = a.self.now in
    let l = c.loop-at in
    let stop = c.line_end-stop.result in
    let next = c.end_of_parts-next.result in
    let P : Printer g.row.A.Denot → Type 0 = λ p. lines p.end (drop l.at a.bytes.now)
    ≡ slice_range a.bytes.now l.at stop ∷ lines p.end (drop (stop + 1) a.bytes.now) in
    let is = subst P l.invariant.same c.line_end-stop.ensures.line in
    let w = c.requires.told in
    let h = prints_line w.0 s.format s.end s.prefix a.first.number a.first.offset a.bytes.now a.from a.line
    a.parts.now l.at stop l.done
    l.used
    next (g.W.Sink.stream a.out.now) (g.W.Sink.stream l.out) (l.invariant.left w.0 w.1) l.invariant.begun
    c.requires.colored
    l.invariant.fits c.line_end-stop.ensures.low c.line_end-stop.ensures.high is c.end_of_parts-next.ensures in
    record { within = c.line_end-stop.ensures.high; ascend = h.ascend }

pub returns-in_err-print_painted_line-clause-writes : goal.returns-in_err-print_painted_line-clause-writes
returns-in_err-print_painted_line-clause-writes g c q told =
    let a = c.args in
    let s = a.self.now in
    let l = c.loop-at in
    let stop = c.line_end-stop.result in
    let next = c.end_of_parts-next.result in
    let P : Printer g.row.A.Denot → Type 0 = λ p. lines p.end (drop l.at a.bytes.now)
    ≡ slice_range a.bytes.now l.at stop ∷ lines p.end (drop (stop + 1) a.bytes.now) in
    let is = subst P l.invariant.same c.line_end-stop.ensures.line in
    let left = l.invariant.left q told in
    let h = prints_line q s.format s.end s.prefix a.first.number a.first.offset a.bytes.now a.from a.line a.parts.now
    l.at stop l.done l.used
    next (g.W.Sink.stream a.out.now) (g.W.Sink.stream l.out) left l.invariant.begun c.requires.colored
    l.invariant.fits c.line_end-stop.ensures.low c.line_end-stop.ensures.high is c.end_of_parts-next.ensures in
    let whole = marked_rows s.format s.end s.prefix 58 (painted q s.format) a.first.number a.first.offset
    (lines s.end (drop a.from a.bytes.now)) in
    let rest = marked_rows s.format s.end s.prefix 58 (painted q s.format) (a.first.number + l.done)
    (a.first.offset + (l.at - a.from)) (lines s.end (drop l.at a.bytes.now)) in
    let later = marked_rows s.format s.end s.prefix 58 (painted q s.format) (a.first.number + (l.done + 1))
    (a.first.offset + ((stop + 1) - a.from)) (lines s.end (drop (stop + 1) a.bytes.now)) in
    let own = painted_bytes a.bytes.now l.at stop (slice_range a.parts.now l.used next) in
    let text : Printer g.row.A.Denot → List ℕ = λ p. row p.format p.end p.prefix (a.first.number + l.done)
    (a.first.offset + (l.at - a.from)) 58 own in
    let middle = g.W.Sink.stream l.out in
    let after = g.W.Sink.stream c.print_painted_line.new.out in
    let Q : List ℕ → Type 0 = λ xs. WritesPart xs middle after in
    writes_part whole _ _ c.from_residual.result c.from_residual.ensures.0
    (left_part whole rest later (text s) _ middle after h.rows
    (subst Q (ap text l.invariant.same) c.in_err-print_painted_line.ensures.writes.err) left.left)

pub loop-at-preserved : goal.loop-at-preserved
loop-at-preserved g c =
    let a = c.args in
    let s = a.self.now in
    let l = c.loop-at in
    let stop = c.line_end-stop.result in
    let next = c.end_of_parts-next.result in
    let P : Printer g.row.A.Denot → Type 0 = λ p. lines p.end (drop l.at a.bytes.now)
    ≡ slice_range a.bytes.now l.at stop ∷ lines p.end (drop (stop + 1) a.bytes.now) in
    let is = subst P l.invariant.same c.line_end-stop.ensures.line in
    let w = c.requires.told in
    let h = prints_line w.0 s.format s.end s.prefix a.first.number a.first.offset a.bytes.now a.from a.line
    a.parts.now l.at stop l.done
    l.used
    next (g.W.Sink.stream a.out.now) (g.W.Sink.stream l.out) (l.invariant.left w.0 w.1) l.invariant.begun
    c.requires.colored
    l.invariant.fits c.line_end-stop.ensures.low c.line_end-stop.ensures.high is c.end_of_parts-next.ensures in
    let count = l.invariant.count in
    let long = ap (λ xs. length xs) is in
    record {
      same = c.in_ok-print_painted_line.ensures.same ∙ l.invariant.same;
      begun = let begun = l.invariant.begun in let low = c.line_end-stop.ensures.low in omega arith;
      fits = h.within;
      count = omega arith;
      left = λ q told.
          let left = l.invariant.left q told in
          let h = prints_line q s.format s.end s.prefix a.first.number a.first.offset a.bytes.now a.from a.line
          a.parts.now l.at stop
          l.done l.used
          next (g.W.Sink.stream a.out.now) (g.W.Sink.stream l.out) left l.invariant.begun c.requires.colored
          l.invariant.fits c.line_end-stop.ensures.low c.line_end-stop.ensures.high is c.end_of_parts-next.ensures in
          let whole = marked_rows s.format s.end s.prefix 58 (painted q s.format) a.first.number a.first.offset
          (lines s.end (drop a.from a.bytes.now)) in
          let rest = marked_rows s.format s.end s.prefix 58 (painted q s.format) (a.first.number + l.done)
          (a.first.offset + (l.at - a.from)) (lines s.end (drop l.at a.bytes.now)) in
          let later = marked_rows s.format s.end s.prefix 58 (painted q s.format) (a.first.number + (l.done + 1))
          (a.first.offset + ((stop + 1) - a.from)) (lines s.end (drop (stop + 1) a.bytes.now)) in
          let own = painted_bytes a.bytes.now l.at stop (slice_range a.parts.now l.used next) in
          let text : Printer g.row.A.Denot → List ℕ = λ p. row p.format p.end p.prefix (a.first.number + l.done)
          (a.first.offset + (l.at - a.from)) 58 own in
          let middle = g.W.Sink.stream l.out in
          let after = g.W.Sink.stream c.print_painted_line.new.out in
          let Q : List ℕ → Type 0 = λ xs. WritesAll xs middle after in
          record {
            told = h.told;
            selected = h.selected;
            left = left_less whole rest later (text s) _ middle after h.rows
                (subst Q (ap text l.invariant.same) c.in_ok-print_painted_line.ensures.writes.ok) left.left;
          };
    }
