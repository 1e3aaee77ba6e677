use Rattle.std.proofs.Common.{◌≡◌, List, ℕ, [], take, take_all, sum_by, arith, ap, false}
use Rattle.std.specs.Borrow.{Bor}
use Rattle.std.proofs.lemmas.List.{length-map}
use Rattle.pg_match.specs.Sizes.{size_of}
use Rattle.pg_match.specs.Strings.{string_pattern, string_patterns}
use Rattle.pg_match.proofs.BuildLemmas.{more_size}
use Rattle.pg_match.proofs.StringLemmas.{pattern_at}
use Rattle.pg_match.proofs.strings.strings_size.Goals as goal
use Rattle.pg_match.proofs.strings.strings_size.Goals.{then-i-eq0, else-i-eq0}

-- where none is read
abbrev none : Bor (List ℕ)
none = record { ref_ptr = (0, 0); now = [] }

pub loop-i-init : goal.loop-i-init
loop-i-init c = λ fold. omega arith

pub loop-i-preserved : goal.loop-i-preserved
loop-i-preserved c = λ fold.
    let strings = c.args.strings.now in
    let i = c.loop-i.i in
    let more = more_size (string_patterns fold strings) i _ (pattern_at fold strings i none c.loop-i-test.true) in
    let one = c.string_size-one.ensures fold in
    let before = c.loop-i.invariant fold in
    elim c.if-i-eq0.branch [
      | then-i-eq0 w ↦ omega (arith, more, one, before)
      | else-i-eq0 w ↦ omega (arith, more, one, before)
    ]

pub overflow_add-total : goal.overflow_add-total
overflow_add-total c =
    let before = c.loop-i.invariant false in
    let one = c.string_size-one.ensures false in
    omega (arith, before, one)

pub overflow_add-total-in-loop-i : goal.overflow_add-total-in-loop-i
overflow_add-total-in-loop-i c =
    let before = c.loop-i.invariant false in
    let one = c.string_size-one.ensures false in
    omega (arith, before, one)

pub overflow_add-total-2 : goal.overflow_add-total-2
overflow_add-total-2 c = let before = c.loop-i.invariant false in omega (arith, before)

pub returns : goal.returns
returns c = λ fold.
    let strings = c.args.strings.now in
    let patterns = string_patterns fold strings in
    let before = c.loop-i.invariant fold in
    let same = length-map strings (λ (s : Bor (List ℕ)). string_pattern fold s.now) in
    let all : sum_by size_of (take c.loop-i.i patterns) ≡ sum_by size_of patterns =
    ap (sum_by size_of) (take_all c.loop-i.i patterns (omega (arith, same, c.loop-i-test.false))) in
    let last = c.loop-i.auto.i-end in
    omega (arith, before, all, same, last, c.loop-i-test.false, c.capped.ensures)
