use Rattle.std.proofs.Common.{◌≡◌, ℕ, ◌+◌, ◌-◌, ◌++◌, List, length, take, drop}
use Rattle.std.proofs.Common.{sym, ap, ◌∙◌, subst, length-drop}
use Rattle.std.proofs.lemmas.List.{take_rest}
use Rattle.pg_blocks.specs.Lines.{lines, AreWhole}
use Rattle.pg_rows.specs.declared.printer.Printer.{Printer}
use Rattle.pg_rows.specs.Steps.{shown_before, shown_passed, HasLeading}
use Rattle.pg_rows.proofs.SizeLemmas.{whole_drop}
use Rattle.pg_base.proofs.WriteLemmas.{part_of_first, writes_part, writes_then, writes_as}
use Rattle.pg_rows.proofs.printer.Printer.print_unkept.Goals as goal

pub returns-in_err-stop-clause-writes : goal.returns-in_err-stop-clause-writes
returns-in_err-stop-clause-writes g c =
    let a = c.args in
    let s = a.self.now in
    let gap = lines s.end a.gap.now in
    let behind : ℕ = a.offset + length a.gap.now in
    let first = shown_passed s a.progress a.offset gap in
    let second = shown_before s (drop a.progress.countdown gap) a.passed behind in
    writes_part (first ++ second) _ _ c.from_residual.result c.from_residual.ensures.0
    (part_of_first first second _ _ c.in_err-stop.ensures.writes.err)

pub returns-clause-writes : goal.returns-clause-writes
returns-clause-writes g c =
    let a = c.args in
    let s = a.self.now in
    let t = c.print_passed.new.self in
    let stop = c.in_ok-stop.stop in
    let gap = lines s.end a.gap.now in
    let first = shown_passed s a.progress a.offset gap in
    let behind : ℕ = a.offset + length a.gap.now in
    let second = shown_before s (drop a.progress.countdown gap) a.passed behind in
    let near = take (length a.gap.now - stop) (drop stop a.gap.now) in
    let written = shown_before t (lines t.end near) a.passed behind in
    let rest = ap (lines s.end) (take_rest a.gap.now stop) ∙ c.in_ok-stop.ensures.stops.rest in
    let as_second : written ≡ second =
    ap (λ p. shown_before p (lines p.end near) a.passed behind) c.in_ok-stop.ensures.same
    ∙ ap (λ ls. shown_before s ls a.passed behind) rest in
    writes_then first second _ _ _ _ c.in_ok-stop.ensures.writes.ok
    (writes_as written second _ _ _ as_second c.print_before.ensures.writes)

pub print_before-requires-clause-whole : goal.print_before-requires-clause-whole
print_before-requires-clause-whole g c =
    let P : List ℕ → Type 0 = λ xs. AreWhole c.args.self.now.end xs in
    let Q : Printer g.row.A.Denot → Type 0 = λ p. AreWhole p.end
    (take (length c.args.gap.now - c.in_ok-stop.stop) (drop c.in_ok-stop.stop c.args.gap.now)) in
    subst Q (sym c.in_ok-stop.ensures.same) (subst P (sym (take_rest c.args.gap.now c.in_ok-stop.stop))
    (whole_drop c.args.self.now.end c.in_ok-stop.stop c.args.gap.now c.requires.whole))

-- how many lines of the gap aren't shown as trailing context
hidden_count : (rest gap : List (List ℕ)) (count countdown hidden : ℕ) → rest ≡ drop countdown gap
    → count ≡ length gap → hidden ≡ count - countdown → hidden ≡ length rest
hidden_count rest gap count countdown hidden r n h =
    h ∙ (ap (λ k. k - countdown) n ∙ (sym (length-drop countdown gap) ∙ ap length (sym r)))

pub print_before-requires-clause-count : goal.print_before-requires-clause-count
print_before-requires-clause-count g c =
    let a = c.args in
    let s = a.self.now in
    let stop = c.in_ok-stop.stop in
    let near = take (length a.gap.now - stop) (drop stop a.gap.now) in
    let rest = ap (lines s.end) (take_rest a.gap.now stop) ∙ c.in_ok-stop.ensures.stops.rest in
    let Q : Printer g.row.A.Denot → Type 0 = λ p. c.saturating_sub-hidden.result ≡ length (lines p.end near) in
    subst Q (sym c.in_ok-stop.ensures.same) (hidden_count (lines s.end near) (lines s.end a.gap.now) a.count
    a.progress.countdown c.saturating_sub-hidden.result rest c.requires.comes.counted c.saturating_sub-hidden.ensures)

pub print_before-requires-clause-leading : goal.print_before-requires-clause-leading
print_before-requires-clause-leading g c =
    let a = c.args in
    let s = a.self.now in
    let stop = c.in_ok-stop.stop in
    let near = take (length a.gap.now - stop) (drop stop a.gap.now) in
    let rest = ap (lines s.end) (take_rest a.gap.now stop) ∙ c.in_ok-stop.ensures.stops.rest in
    let behind : ℕ = a.offset + length a.gap.now in
    let Q : Printer g.row.A.Denot → Type 0 = λ p. HasLeading p a.passed (lines p.end near) behind in
    let R : List (List ℕ) → Type 0 = λ ls. HasLeading s a.passed ls behind in
    subst Q (sym c.in_ok-stop.ensures.same) (subst R (sym rest) c.requires.leading)
