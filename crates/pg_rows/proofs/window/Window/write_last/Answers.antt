use Rattle.std.proofs.Common.{◌≡◌, ◌+◌, ◌-◌, ◌<◌, ◌^◌, List, [], ℕ, zero, suc}
use Rattle.std.proofs.Common.{length, drop, subst, sym, ap, ◌∙◌, arith}
use Rattle.std.proofs.Common.{refl, length-drop}
use Rattle.std.specs.List.{AllByRecursion}
use Rattle.circular_buffer.specs.Buffer.{keep_last}
use Rattle.pg_rows.specs.declared.window.Tail.{Tail}
use Rattle.pg_base.specs.Sink.{WritesAll, WritesPart}
use Rattle.pg_rows.specs.Output.{bytes_in}
use Rattle.pg_rows.specs.Stretch.{marked_rows, plain}
use Rattle.pg_rows.specs.Window.{lines_in, tail_lines, lines_held, IsTail}
use Rattle.pg_rows.proofs.WindowLemmas.{shown_tails, shown_count, shown_size}
use Rattle.pg_base.proofs.WriteLemmas.{WritesAllBut, writes_part, left_whole, left_less, left_none, left_part}
use Rattle.pg_rows.proofs.window.Window.write_last.Goals as goal

pub loop-tail-init : goal.loop-tail-init
loop-tail-init g c =
    let a = c.args in
    let w = a.self.now in
    let items = c.into_iter-tail-iterator.ensures.into_iter_gives ∙ c.iter-tail-items.ensures.rest in
    let all = lines_held a.end w in
    let skip = w.lines - a.count in
    let same : length all - a.count ≡ skip = ap (λ n. n - a.count) (sym c.requires.holds.window.counted) in
    let left : length (drop skip all) ≡ a.count =
    omega (arith, length-drop skip all, c.requires.holds.window.counted, c.requires.holds.within) in
    let start = g.W.Sink.stream a.out.now in
    let rows = marked_rows a.format.now a.end a.prefix.now 45 plain a.first.number a.first.offset in
    let whole = rows (keep_last a.count all) in
    let to = ap (λ n. rows (drop n all)) same ∙ ap (λ ts. rows (drop skip (lines_in a.end ts))) (sym items) in
    let P : List ℕ → Type 0 = λ rest. WritesAllBut whole rest start start in
    let Q : List (Tail g.row.A.Denot) → Type 0 = λ ts. AllByRecursion (IsTail a.end) ts in
    let R : List (Tail g.row.A.Denot) → Type 0 = λ ts. a.first.number + length (drop skip (lines_in a.end ts)) < 2 ^ 64
    in
    let S : List (Tail g.row.A.Denot) → Type 0 =
    λ ts. a.first.offset + bytes_in (drop skip (lines_in a.end ts)) < 2 ^ 64
    in
    let T : ℕ → Type 0 = λ n. a.first.offset + bytes_in (drop n all) < 2 ^ 64 in
    record {
      can_next = tt;
      is_finite = tt;
      each = subst Q (sym items) c.requires.holds.window.each;
      small = subst R (sym items) (omega (arith, left, c.requires.fits.small));
      placed = subst S (sym items) (subst T same c.requires.fits.placed);
      prefix = refl;
      left = subst P to (left_whole whole start);
    }

pub returns-in_err-size-clause-writes : goal.returns-in_err-size-clause-writes
returns-in_err-size-clause-writes g c =
    let a = c.args in
    let l = c.loop-tail in
    let t = c.in-Some.tail.now in
    let ts = c.next.new.self in
    let rows = λ (name : List ℕ) (n o : ℕ) (ls : List (List ℕ)). marked_rows a.format.now a.end name 45 plain n o ls in
    let Q : List (Tail g.row.A.Denot) → Type 0 = λ xs. AllByRecursion (IsTail a.end) xs in
    let each = subst Q c.in-Some.ensures.steps l.invariant.each in
    let start = g.W.Sink.stream a.out.now in
    let middle = g.W.Sink.stream l.out in
    let after = g.W.Sink.stream c.write_from.new.out in
    let first = drop l.skip (tail_lines a.end t) in
    let later = drop (l.skip - t.lines) (lines_in a.end ts) in
    let whole = rows a.prefix.now a.first.number a.first.offset (keep_last a.count (lines_held a.end a.self.now)) in
    let parted = ap (λ xs. rows a.prefix.now l.at.number l.at.offset (drop l.skip (lines_in a.end xs)))
    c.in-Some.ensures.steps
    ∙ shown_tails a.format.now a.end a.prefix.now l.at.number l.at.offset l.skip t ts each.0 in
    let P : List ℕ → Type 0 = λ name. WritesPart (rows name l.at.number l.at.offset first) middle after in
    writes_part whole start after c.from_residual.result c.from_residual.ensures.0
    (left_part whole (rows a.prefix.now l.at.number l.at.offset (drop l.skip (lines_in a.end l.tail-iterator)))
    (rows a.prefix.now (l.at.number + (t.lines - l.skip)) (l.at.offset + bytes_in first) later)
    (rows a.prefix.now l.at.number l.at.offset first) start middle after parted
    (subst P l.invariant.prefix c.in_err-size.ensures.writes.err) l.invariant.left)

pub loop-tail-preserved : goal.loop-tail-preserved
loop-tail-preserved g c =
    let a = c.args in
    let l = c.loop-tail in
    let t = c.in-Some.tail.now in
    let ts = c.next.new.self in
    let rows = λ (name : List ℕ) (n o : ℕ) (ls : List (List ℕ)). marked_rows a.format.now a.end name 45 plain n o ls in
    let Q : List (Tail g.row.A.Denot) → Type 0 = λ xs. AllByRecursion (IsTail a.end) xs in
    let each = subst Q c.in-Some.ensures.steps l.invariant.each in
    let start = g.W.Sink.stream a.out.now in
    let middle = g.W.Sink.stream l.out in
    let after = g.W.Sink.stream c.write_from.new.out in
    let first = drop l.skip (tail_lines a.end t) in
    let later = drop (l.skip - t.lines) (lines_in a.end ts) in
    let whole = rows a.prefix.now a.first.number a.first.offset (keep_last a.count (lines_held a.end a.self.now)) in
    let parted = ap (λ xs. rows a.prefix.now l.at.number l.at.offset (drop l.skip (lines_in a.end xs)))
    c.in-Some.ensures.steps
    ∙ shown_tails a.format.now a.end a.prefix.now l.at.number l.at.offset l.skip t ts each.0 in
    let P : List ℕ → Type 0 = λ name. WritesAll (rows name l.at.number l.at.offset first) middle after in
    let shown = sym c.saturating_sub.ensures in
    let skipped = sym c.saturating_sub-skip.ensures in
    let counted = ap (λ xs. length (drop l.skip (lines_in a.end xs))) c.in-Some.ensures.steps
    ∙ shown_count a.end l.skip t ts each.0 in
    let size = c.in_ok-size.size in
    let size_is = sym c.in_ok-size.ensures.size in
    let sized = ap (λ xs. bytes_in (drop l.skip (lines_in a.end xs))) c.in-Some.ensures.steps
    ∙ shown_size a.end l.skip t ts each.0 in
    let R : ℕ → Type 0 = λ n. WritesAllBut whole
    (rows a.prefix.now (l.at.number + n) (l.at.offset + bytes_in first) later) start after in
    let O : ℕ → Type 0 = λ o. WritesAllBut whole
    (rows a.prefix.now (l.at.number + c.saturating_sub.result) (l.at.offset + o) later) start after in
    let S : ℕ → Type 0 = λ n. WritesAllBut whole
    (rows a.prefix.now (l.at.number + c.saturating_sub.result) (l.at.offset + size) (drop n (lines_in a.end ts)))
    start after in
    let T : ℕ → Type 0 = λ n. l.at.number + n + length later < 2 ^ 64 in
    let U : ℕ → Type 0 = λ n. l.at.number + c.saturating_sub.result + length (drop n (lines_in a.end ts)) < 2 ^ 64 in
    let V : ℕ → Type 0 = λ n. l.at.offset + size + bytes_in (drop n (lines_in a.end ts)) < 2 ^ 64 in
    record {
      can_next = tt;
      is_finite = tt;
      each = each.1;
      small = subst U skipped (subst T shown (omega (arith, counted, l.invariant.small)));
      placed = subst V skipped (omega (arith, sized, size_is, l.invariant.placed));
      prefix = c.in_ok-size.ensures.same ∙ l.invariant.prefix;
      left = subst S skipped (subst O size_is (subst R shown (left_less whole
          (rows a.prefix.now l.at.number l.at.offset (drop l.skip (lines_in a.end l.tail-iterator)))
          (rows a.prefix.now (l.at.number + (t.lines - l.skip)) (l.at.offset + bytes_in first) later)
          (rows a.prefix.now l.at.number l.at.offset first) start middle after parted
          (subst P l.invariant.prefix c.in_ok-size.ensures.writes.ok) l.invariant.left)));
    }

shown_fits : (at skip lines shown later all : ℕ) → all ≡ (lines - skip) + later → shown ≡ lines - skip
    → at + all < 2 ^ 64 → at + shown < 2 ^ 64
shown_fits at skip lines shown later all a s small = omega arith

pub overflow_sub-skip : goal.overflow_sub-skip
overflow_sub-skip g c = omega (arith, c.requires.holds.window.counted, c.requires.holds.within)

pub write_from-requires-clause-tail : goal.write_from-requires-clause-tail
write_from-requires-clause-tail g c =
    let Q : List (Tail g.row.A.Denot) → Type 0 = λ xs. AllByRecursion (IsTail c.args.end) xs in
    (subst Q c.in-Some.ensures.steps c.loop-tail.invariant.each).0

pub write_from-requires-clause-fits : goal.write_from-requires-clause-fits
write_from-requires-clause-fits g c =
    let a = c.args in
    let l = c.loop-tail in
    let t = c.in-Some.tail.now in
    let ts = c.next.new.self in
    let Q : List (Tail g.row.A.Denot) → Type 0 = λ xs. AllByRecursion (IsTail a.end) xs in
    let each = subst Q c.in-Some.ensures.steps l.invariant.each in
    let sized = ap (λ xs. bytes_in (drop l.skip (lines_in a.end xs))) c.in-Some.ensures.steps
    ∙ shown_size a.end l.skip t ts each.0 in
    let counted = ap (λ xs. length (drop l.skip (lines_in a.end xs))) c.in-Some.ensures.steps
    ∙ shown_count a.end l.skip t ts each.0 in
    let shown = length-drop l.skip (tail_lines a.end t) ∙ ap (λ n. n - l.skip) (sym each.0.counted) in
    record {
      small = shown_fits l.at.number l.skip t.lines _ _ _ counted shown l.invariant.small;
      placed = omega (arith, sized, l.invariant.placed);
    }

pub returns-in_err-size-clause-same : goal.returns-in_err-size-clause-same
returns-in_err-size-clause-same g c = c.in_err-size.ensures.same ∙ c.loop-tail.invariant.prefix

pub overflow_add-at : goal.overflow_add-at
overflow_add-at g c =
    let a = c.args in
    let l = c.loop-tail in
    let t = c.in-Some.tail.now in
    let ts = c.next.new.self in
    let Q : List (Tail g.row.A.Denot) → Type 0 = λ xs. AllByRecursion (IsTail a.end) xs in
    let each = subst Q c.in-Some.ensures.steps l.invariant.each in
    let counted = ap (λ xs. length (drop l.skip (lines_in a.end xs))) c.in-Some.ensures.steps
    ∙ shown_count a.end l.skip t ts each.0 in
    let fits = shown_fits l.at.number l.skip t.lines c.saturating_sub.result _ _ counted c.saturating_sub.ensures
    l.invariant.small in
    omega (arith, fits)

drop_none : (k : ℕ) → drop {A = List ℕ} k [] ≡ []
drop_none zero = refl
drop_none (suc k) = refl

pub returns-clause-writes : goal.returns-clause-writes
returns-clause-writes g c =
    let a = c.args in
    let l = c.loop-tail in
    let whole = marked_rows a.format.now a.end a.prefix.now 45 plain a.first.number a.first.offset
    (keep_last a.count (lines_held a.end a.self.now)) in
    let rows = λ (ls : List (List ℕ)). marked_rows a.format.now a.end a.prefix.now 45 plain l.at.number l.at.offset ls
    in
    let none = ap (λ ts. rows (drop l.skip (lines_in a.end ts))) c.in-None.ensures.steps.0
    ∙ ap rows (drop_none l.skip) in
    record {
      ok = left_none whole (rows (drop l.skip (lines_in a.end l.tail-iterator))) (g.W.Sink.stream a.out.now)
          (g.W.Sink.stream l.out) none l.invariant.left;
      err = tt;
    }

pub overflow_add-at-in-loop-tail : goal.overflow_add-at-in-loop-tail
overflow_add-at-in-loop-tail g c =
    let a = c.args in
    let l = c.loop-tail in
    let t = c.in-Some.tail.now in
    let ts = c.next.new.self in
    let Q : List (Tail g.row.A.Denot) → Type 0 = λ xs. AllByRecursion (IsTail a.end) xs in
    let each = subst Q c.in-Some.ensures.steps l.invariant.each in
    let sized = ap (λ xs. bytes_in (drop l.skip (lines_in a.end xs))) c.in-Some.ensures.steps
    ∙ shown_size a.end l.skip t ts each.0 in
    omega (arith, sized, l.invariant.placed, c.in_ok-size.ensures.size)
