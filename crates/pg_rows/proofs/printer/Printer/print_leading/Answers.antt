use Rattle.std.proofs.Common.{◌≡◌, ◌+◌, ◌-◌, ◌≤◌, ◌++◌, [], ℕ, Bool, true, false, List, length, take, drop, min, cond}
use Rattle.std.proofs.Common.{sym, ap}
use Rattle.std.proofs.Common.{◌∙◌, arith, subst}
use Rattle.std.proofs.lemmas.List.{take_rest}
use Rattle.circular_buffer.specs.Buffer.{keep_last}
use Rattle.pg_blocks.specs.Lines.{lines, AreWhole}
use Rattle.pg_rows.specs.declared.printer.Printer.{Printer}
use Rattle.pg_rows.specs.declared.progress.Progress.{Progress}
use Rattle.pg_rows.specs.Output.{bytes_in}
use Rattle.pg_base.specs.Sink.{WritesAll, WritesPart}
use Rattle.pg_rows.specs.Stretch.{marked_rows, plain}
use Rattle.pg_rows.specs.Window.{lines_held}
use Rattle.pg_rows.specs.Printing.{leading, rows_of_leading}
use Rattle.pg_rows.specs.Steps.{HasLeading}
use Rattle.pg_rows.proofs.StretchLemmas.{length_keep_last}
use Rattle.pg_rows.proofs.LeadLemmas.{leading_rows, no_leading, held_start, last_of_both}
use Rattle.pg_rows.proofs.SizeLemmas.{size_append, size_whole, whole_drop}
use Rattle.pg_base.proofs.WriteLemmas.{wrote_none, part_of_first, writes_part, writes_then, writes_as}
use Rattle.pg_rows.proofs.printer.Printer.print_leading.Goals as goal

pub returns-then-leading-eq0-clause-writes : goal.returns-then-leading-eq0-clause-writes
returns-then-leading-eq0-clause-writes g c =
    let a = c.args in
    let s = a.self.now in
    let hidden = lines_held s.end s.window ++ lines s.end a.near.now in
    writes_as [] (rows_of_leading s.format s.end s.prefix hidden a.progress a.offset) _ _ _
    (sym (no_leading s.format s.end s.prefix a.progress hidden c.leading-leading.result a.offset
    c.leading-leading.ensures c.if-leading-eq0.true))
    (record { ok = wrote_none (g.W.Sink.stream a.out.now); err = tt })

-- the last lines that stand close, and their bytes
record AreClose (end : ℕ) (near last : List ℕ) (close : ℕ) : Type 0 where
  lines_are : lines end last ≡ keep_last close (lines end near)
  size : bytes_in (keep_last close (lines end near)) ≡ length last

are_close : (end : ℕ) (near : List ℕ) (from close : ℕ) → AreWhole end near
    → lines end (drop from near) ≡ keep_last close (lines end near)
    → AreClose end near (take (length near - from) (drop from near)) close
are_close end near from close whole last =
    let same = take_rest near from in
    let are = ap (lines end) same ∙ last in
    record {
      lines_are = are;
      size = ap bytes_in (sym last) ∙ (size_whole end (drop from near) (whole_drop end from near whole)
          ∙ sym (ap (λ xs. length xs) same));
    }

-- the lines that are held, and those that stand close, have no more bytes than the file so far
room_of_both : (far close most offset : ℕ) (xs ys : List (List ℕ)) → far ≡ most - close → close ≡ min most (length ys)
    → most ≤ length xs + length ys → bytes_in (keep_last most (xs ++ ys)) ≤ offset
    → bytes_in (keep_last far xs) + bytes_in (keep_last close ys) ≤ offset
room_of_both far close most offset xs ys far_is close_is fits low =
    let apart = ap bytes_in (last_of_both most xs ys fits ∙ ap (λ k. keep_last (most - k) xs ++ keep_last k ys)
    (sym close_is)) in
    let both = size_append (keep_last (most - close) xs) (keep_last close ys) in
    let same = ap (λ k. bytes_in (keep_last k xs)) far_is in
    omega (arith, low, apart, both, same)

-- where the held lines begin, with their bytes
begin_fits : (offsets : Bool) (start size begin : ℕ) → begin ≡ cond offsets (start - size) 0 → size ≤ start
    → begin + size ≤ start
begin_fits true start size begin is low = omega arith
begin_fits false start size begin is low = omega arith

-- what is known before anything is written: `n` lines are shown, the last `close` ones of which stand in the block
record IsLeading (end : ℕ) (xs : List (List ℕ)) (near last : List ℕ) (n far close offset : ℕ) : Type 0 where
  close_is : close ≡ min n (length (lines end near))
  fits : n ≤ length xs + length (lines end near)
  lines_are : lines end last ≡ keep_last close (lines end near)
  size : bytes_in (keep_last close (lines end near)) ≡ length last
  few : length (lines end last) ≤ close
  room : bytes_in (keep_last far xs) + length last ≤ offset

leads : {A : Type 0} (s : Printer A) (p : Progress) (near : List ℕ) (from n close count offset : ℕ)
    → AreWhole s.end near → count ≡ length (lines s.end near) → HasLeading s p (lines s.end near) offset
    → lines s.end (drop from near) ≡ keep_last close (lines s.end near) → n ≡ leading s.format p → close ≡ min n count
    → IsLeading s.end (lines_held s.end s.window) near (take (length near - from) (drop from near)) n (n - close)
    close offset
leads s p near from n close count offset whole counted has last is closes =
    let xs = lines_held s.end s.window in
    let ys = lines s.end near in
    let k = are_close s.end near from close whole last in
    let close_is : close ≡ min n (length ys) = omega (arith, closes, counted) in
    let fits : n ≤ length xs + length ys = omega (arith, is, has.enough) in
    let P : ℕ → Type 0 = λ m. bytes_in (keep_last m (xs ++ ys)) ≤ offset in
    let both = room_of_both (n - close) close n offset xs ys (omega arith) close_is fits (subst P (sym is) has.low) in
    record {
      close_is = close_is;
      fits = fits;
      lines_are = k.lines_are;
      size = k.size;
      few = let a = ap (λ ls. length ls) k.lines_are in let b = length_keep_last close ys in omega (arith, a, b);
      room = omega (arith, both, k.size);
    }

pub overflow_sub-start : goal.overflow_sub-start
overflow_sub-start g c =
    let a = c.args in
    let s = a.self.now in
    let k = leads s a.progress a.near.now c.start_of_last-from.result c.leading-leading.result c.min-close.result
    a.count a.offset c.requires.whole c.requires.count c.requires.leading c.start_of_last-from.ensures.last
    c.leading-leading.ensures c.min-close.ensures in
    omega (arith, k.room)

pub offset_of_last-begin-requires-clause-low : goal.offset_of_last-begin-requires-clause-low
offset_of_last-begin-requires-clause-low g c =
    let a = c.args in
    let s = a.self.now in
    let k = leads s a.progress a.near.now c.start_of_last-from.result c.leading-leading.result c.min-close.result
    a.count a.offset c.requires.whole c.requires.count c.requires.leading c.start_of_last-from.ensures.last
    c.leading-leading.ensures c.min-close.ensures in
    omega (arith, k.room)

pub write_last-requires-clause-fits : goal.write_last-requires-clause-fits
write_last-requires-clause-fits g c =
    let a = c.args in
    let s = a.self.now in
    let k = leads s a.progress a.near.now c.start_of_last-from.result c.leading-leading.result c.min-close.result
    a.count a.offset c.requires.whole c.requires.count c.requires.leading c.start_of_last-from.ensures.last
    c.leading-leading.ensures c.min-close.ensures in
    let far = bytes_in (keep_last (c.leading-leading.result - c.min-close.result) (lines_held s.end s.window)) in
    let start : ℕ = a.offset
    - length (take (length a.near.now - c.start_of_last-from.result) (drop c.start_of_last-from.result a.near.now)) in
    let fits = begin_fits s.format.offsets start far c.offset_of_last-begin.result c.offset_of_last-begin.ensures
    (omega (arith, k.room)) in
    record {
      small = omega (arith, c.requires.small);
      placed = omega (arith, fits, c.ranges.offset.fits);
    }

pub write_lines-requires : goal.write_lines-requires
write_lines-requires g c =
    let a = c.args in
    let s = a.self.now in
    let k = leads s a.progress a.near.now c.start_of_last-from.result c.leading-leading.result c.min-close.result
    a.count a.offset c.requires.whole c.requires.count c.requires.leading c.start_of_last-from.ensures.last
    c.leading-leading.ensures c.min-close.ensures in
    record {
      small = omega (arith, k.few, k.close_is, c.leading-leading.ensures, a.progress.few_behind, c.requires.small);
      placed = omega (arith, k.room, c.ranges.offset.fits);
    }

pub returns-in_err-write_last-clause-writes : goal.returns-in_err-write_last-clause-writes
returns-in_err-write_last-clause-writes g c =
    let a = c.args in
    let s = a.self.now in
    let n = c.leading-leading.result in
    let close = c.min-close.result in
    let from = c.start_of_last-from.result in
    let xs = lines_held s.end s.window in
    let ys = lines s.end a.near.now in
    let k = leads s a.progress a.near.now from n close a.count a.offset c.requires.whole c.requires.count
    c.requires.leading c.start_of_last-from.ensures.last c.leading-leading.ensures c.min-close.ensures in
    let start : ℕ = a.offset - length (take (length a.near.now - from) (drop from a.near.now)) in
    let first : ℕ = (a.progress.number + 1) - n in
    let rows = λ (number o : ℕ) (ls : List (List ℕ)). marked_rows s.format s.end s.prefix 45 plain number o ls in
    let front = rows first (start - bytes_in (keep_last (n - close) xs)) (keep_last (n - close) xs) in
    let rest = rows ((a.progress.number + 1) - close) start (keep_last close ys) in
    let few : n ≤ a.progress.number = omega (arith, c.leading-leading.ensures, a.progress.few_behind) in
    let whole = leading_rows s.format s.end s.prefix a.progress xs ys n close a.offset start c.leading-leading.ensures
    k.close_is k.fits few (omega (arith, k.size)) c.requires.leading.low in
    let held_rows = held_start s.format s.end s.prefix first start c.offset_of_last-begin.result
    (keep_last (n - close) xs) c.offset_of_last-begin.ensures in
    let P : List ℕ → Type 0 = λ t. WritesPart t (g.W.Sink.stream a.out.now) (g.W.Sink.stream c.write_last.new.out) in
    writes_as (front ++ rest) (rows_of_leading s.format s.end s.prefix (xs ++ ys) a.progress a.offset) _ _ _ (sym whole)
    (writes_part (front ++ rest) _ _ c.from_residual.result c.from_residual.ensures.0
    (part_of_first front rest _ _ (subst P held_rows c.in_err-write_last.ensures.writes.err)))

pub returns-clause-writes : goal.returns-clause-writes
returns-clause-writes g c =
    let a = c.args in
    let s = a.self.now in
    let n = c.leading-leading.result in
    let close = c.min-close.result in
    let from = c.start_of_last-from.result in
    let xs = lines_held s.end s.window in
    let ys = lines s.end a.near.now in
    let k = leads s a.progress a.near.now from n close a.count a.offset c.requires.whole c.requires.count
    c.requires.leading c.start_of_last-from.ensures.last c.leading-leading.ensures c.min-close.ensures in
    let last = take (length a.near.now - from) (drop from a.near.now) in
    let start : ℕ = a.offset - length last in
    let first : ℕ = (a.progress.number + 1) - n in
    let number : ℕ = (a.progress.number + 1) - close in
    let rows = λ (name : List ℕ) (m o : ℕ) (ls : List (List ℕ)). marked_rows s.format s.end name 45 plain m o ls in
    let front = rows s.prefix first (start - bytes_in (keep_last (n - close) xs)) (keep_last (n - close) xs) in
    let rest = rows s.prefix number start (keep_last close ys) in
    let few : n ≤ a.progress.number = omega (arith, c.leading-leading.ensures, a.progress.few_behind) in
    let whole = leading_rows s.format s.end s.prefix a.progress xs ys n close a.offset start c.leading-leading.ensures
    k.close_is k.fits few (omega (arith, k.size)) c.requires.leading.low in
    let held_rows = held_start s.format s.end s.prefix first start c.offset_of_last-begin.result
    (keep_last (n - close) xs) c.offset_of_last-begin.ensures in
    let P : List ℕ → Type 0 = λ t. WritesAll t (g.W.Sink.stream a.out.now) (g.W.Sink.stream c.write_last.new.out) in
    let written = rows c.write_last.new.prefix number start (lines s.end last) in
    let same : written ≡ rest =
    ap (λ name. rows name number start (lines s.end last)) c.in_ok-write_last.ensures.same
    ∙ ap (rows s.prefix number start) k.lines_are in
    writes_as (front ++ rest) (rows_of_leading s.format s.end s.prefix (xs ++ ys) a.progress a.offset) _ _ _ (sym whole)
    (writes_then front rest _ _ _ _ (subst P held_rows c.in_ok-write_last.ensures.writes.ok)
    (writes_as written rest _ _ _ same c.write_lines.ensures.writes))
