use Rattle.std.proofs.Common.{◌-◌, List, ℕ, drop, subst, sym, ap, ◌∙◌, arith}
use Rattle.std.specs.List.{AllByRecursion}
use Rattle.std.proofs.Math.Seq.{drop-nil}
use Rattle.pg_rows.specs.declared.window.Tail.{Tail}
use Rattle.pg_rows.specs.Output.{bytes_in}
use Rattle.pg_rows.specs.Window.{lines_in, lines_held, IsTail}
use Rattle.pg_rows.proofs.WindowLemmas.{shown_size}
use Rattle.pg_rows.proofs.window.Window.size_of_last.Goals as goal

pub loop-tail-init : goal.loop-tail-init
loop-tail-init g c =
    let a = c.args in
    let w = a.self.now in
    let items = c.into_iter-tail-iterator.ensures.into_iter_gives ∙ c.iter-tail-items.ensures.rest in
    let all = lines_held a.end w in
    let skip = w.lines - a.count in
    let same = ap (λ n. bytes_in (drop (n - a.count) all)) c.requires.holds.window.counted in
    let given = ap (λ ts. bytes_in (drop skip (lines_in a.end ts))) items in
    let Q : List (Tail g.row.A.Denot) → Type 0 = λ ts. AllByRecursion (IsTail a.end) ts in
    record {
      can_next = tt;
      is_finite = tt;
      each = subst Q (sym items) c.requires.holds.window.each;
      left = omega (arith, same, given);
    }

pub loop-tail-preserved : goal.loop-tail-preserved
loop-tail-preserved g c =
    let a = c.args in
    let l = c.loop-tail in
    let t = c.in-Some.tail.now in
    let ts = c.next.new.self in
    let Q : List (Tail g.row.A.Denot) → Type 0 = λ xs. AllByRecursion (IsTail a.end) xs in
    let each = subst Q c.in-Some.ensures.steps l.invariant.each in
    let sized = ap (λ xs. bytes_in (drop l.skip (lines_in a.end xs))) c.in-Some.ensures.steps
    ∙ shown_size a.end l.skip t ts each.0 in
    let own = c.size_of_lines-size.ensures ∙ ap bytes_in c.text_from.ensures in
    let skipped = ap (λ n. bytes_in (drop n (lines_in a.end ts))) c.saturating_sub-skip.ensures in
    record {
      can_next = tt;
      is_finite = tt;
      each = each.1;
      left = omega (arith, sized, own, skipped, l.invariant.left);
    }

pub overflow_sub-skip : goal.overflow_sub-skip
overflow_sub-skip g c = omega (arith, c.requires.holds.window.counted, c.requires.holds.within)

pub overflow_add-size : goal.overflow_add-size
overflow_add-size g c =
    let a = c.args in
    let l = c.loop-tail in
    let t = c.in-Some.tail.now in
    let ts = c.next.new.self in
    let Q : List (Tail g.row.A.Denot) → Type 0 = λ xs. AllByRecursion (IsTail a.end) xs in
    let each = subst Q c.in-Some.ensures.steps l.invariant.each in
    let sized = ap (λ xs. bytes_in (drop l.skip (lines_in a.end xs))) c.in-Some.ensures.steps
    ∙ shown_size a.end l.skip t ts each.0 in
    let own = c.size_of_lines-size.ensures ∙ ap bytes_in c.text_from.ensures in
    omega (arith, sized, own, l.invariant.left, c.requires.small)

pub text_from-requires : goal.text_from-requires
text_from-requires g c =
    let Q : List (Tail g.row.A.Denot) → Type 0 = λ xs. AllByRecursion (IsTail c.args.end) xs in
    (subst Q c.in-Some.ensures.steps c.loop-tail.invariant.each).0

pub returns : goal.returns
returns g c =
    let l = c.loop-tail in
    let none = ap (λ ts. bytes_in (drop l.skip (lines_in c.args.end ts))) c.in-None.ensures.steps.0
    ∙ ap bytes_in (drop-nil {A = List ℕ} l.skip) in
    omega (arith, none, l.invariant.left)
