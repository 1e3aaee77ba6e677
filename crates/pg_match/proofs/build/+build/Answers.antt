use Rattle.std.proofs.lemmas.Result.{IfOk-from_err}
use Rattle.std.proofs.Common.{◌≡◌, ◌≢◌, ℕ, ◌+◌, ◌-◌, ◌*◌, ◌<◌, ◌≤◌, length, arith, refl, rules}
use Rattle.pg_bytes.specs.declared.byte_set.ByteSet.{ByteSet}
use Rattle.pg_pattern.specs.Patterns.{Empty, Set, Begin, End, Rep}
use Rattle.pg_pattern.specs.Trees.{pattern}
use Rattle.pg_pattern.specs.declared.tree.Tree.{the_lemmas}
use Rattle.pg_match.specs.Sizes.{size_of}
use Rattle.pg_match.specs.declared.state.State.TheVariants.{Accept, Jump, Read, AtBegin, AtEnd}
use Rattle.pg_pattern.proofs.PatternLemmas.{pattern-empty, pattern-set, pattern-begin, pattern-end, pattern-cat}
use Rattle.pg_pattern.proofs.PatternLemmas.{pattern-alt, pattern-rep}
use Rattle.pg_match.proofs.TableLemmas.{pushed_length, pushed_keeps, pushed_tidy, copy_added, option_added, rest_added}
use Rattle.pg_match.proofs.GapLemmas.{hole_kept, hole_any, gap_any, has_cat, completes_cat, completes_narrowed}
use Rattle.pg_match.proofs.GapLemmas.{finished, finished_leaf, nothing_added, narrowed_at, choice_narrowed}
use Rattle.pg_match.proofs.GapLemmas.{loop_narrowed, shared, hole_behind_options, option_narrowed, copies_narrowed}
use Rattle.pg_match.proofs.build.+build.Goals as goal

-- the states of leaves aren't the last one
jump_apart : (n : ℕ) → Jump n ≢ Accept
jump_apart n e = cc

read_apart : (set : ByteSet) (n : ℕ) → Read set n ≢ Accept
read_apart set n e = cc

begin_apart : (n : ℕ) → AtBegin n ≢ Accept
begin_apart n e = cc

end_apart : (n : ℕ) → AtEnd n ≢ Accept
end_apart n e = cc

pub add-returns-in-Empty : goal.add-returns-in-Empty
add-returns-in-Empty g t c =
    let inv = c.loop-tree.invariant in
    finished_leaf _ _ _ _ _ _ Empty (Jump _) _ c.finish.result inv.has inv.completes inv.size
    (pattern-empty _ c.in-Empty.is)
    inv.has.gap_in.next_in (λ u e h. h) refl (jump_apart _) c.finish.ensures

pub add-returns-in-Set : goal.add-returns-in-Set
add-returns-in-Set g t c =
    let inv = c.loop-tree.invariant in
    finished_leaf _ _ _ _ _ _ (Set _) (Read _ _) _ c.finish-in-Set.result inv.has inv.completes inv.size
    (pattern-set _ _ c.in-Set.is)
    inv.has.gap_in.next_in (λ u e h. (_, refl, h)) refl (read_apart _ _) c.finish-in-Set.ensures

pub add-returns-in-Begin : goal.add-returns-in-Begin
add-returns-in-Begin g t c =
    let inv = c.loop-tree.invariant in
    finished_leaf _ _ _ _ _ _ Begin (AtBegin _) _ c.finish-in-Begin.result inv.has inv.completes inv.size
    (pattern-begin _ c.in-Begin.is)
    inv.has.gap_in.next_in (λ u e h. h) refl (begin_apart _) c.finish-in-Begin.ensures

pub add-returns-in-End : goal.add-returns-in-End
add-returns-in-End g t c =
    let inv = c.loop-tree.invariant in
    finished_leaf _ _ _ _ _ _ End (AtEnd _) _ c.finish-in-End.result inv.has inv.completes inv.size
    (pattern-end _ c.in-End.is)
    inv.has.gap_in.next_in (λ u e h. h) refl (end_apart _) c.finish-in-End.ensures

pub add-loop-tree-preserved-in-Cat : goal.add-loop-tree-preserved-in-Cat
add-loop-tree-preserved-in-Cat g t c =
    let inv = c.loop-tree.invariant in
    let is = pattern-cat _ _ _ c.in-Cat.is in
    let one = rw c.deref.ensures at c.in_ok-gap-in-Cat.ensures in
    let proper = rw is at inv.proper in
    let size = rw is at inv.size in
    let completes = rw is at inv.completes in
    record {
      below = search (rules, the_lemmas);
      proper = rw c.deref-tree.ensures proper.0;
      size = rw c.deref-tree.ensures (omega (arith, size, one.size));
      has = has_cat _ _ _ c.loop-tree.gap _ _ inv.has one;
      completes = rw c.deref-tree.ensures (completes_cat _ _ c.loop-tree.gap _ _ _ _ _ completes one);
    }

pub add-loop-tree-preserved-in-Alt : goal.add-loop-tree-preserved-in-Alt
add-loop-tree-preserved-in-Alt g t c =
    let inv = c.loop-tree.invariant in
    let is = pattern-alt _ _ _ c.in-Alt.is in
    let one = rw c.deref-in-Alt.ensures at c.in_ok-gap-in-Alt.ensures in
    let n = one (pattern c.in-Alt.first.value) in
    let proper = rw is at inv.proper in
    let size = rw is at inv.size in
    let completes = rw is at inv.completes in
    record {
      below = search (rules, the_lemmas);
      proper = rw c.deref-tree-in-Alt.ensures proper.0;
      size = rw c.deref-tree-in-Alt.ensures (omega (arith, size, n.size));
      has = n.has _ inv.has;
      completes = rw c.deref-tree-in-Alt.ensures (completes_narrowed _ _ _ _ _ _ _ _ completes n);
    }

pub add-returns-then-is_without_states : goal.add-returns-then-is_without_states
add-returns-then-is_without_states g t c =
    let inv = c.loop-tree.invariant in
    let is = pattern-rep _ _ _ _ c.in-Rep.is in
    let none = rw c.deref-in-Rep.ensures at (c.is_without_states.ensures.without c.if-is_without_states.true) in
    let proper = rw is at inv.proper in
    let size = rw is at inv.size in
    let completes = rw is at inv.completes in
    finished _ _ _ _ c.loop-tree.gap _ _ _ _ _ inv.has completes
    (nothing_added _ (Rep (pattern c.in-Rep.inner.value) c.in-Rep.least c.in-Rep.most) _ proper none inv.has.gap_in.tidy
    inv.has.gap_in.next_in)
    c.fill-entry.ensures size

pub add-loop-tree-preserved : goal.add-loop-tree-preserved
add-loop-tree-preserved g t c =
    let inv = c.loop-tree.invariant in
    let is = pattern-rep _ _ _ _ c.in-Rep.is in
    let n = rw c.deref-in-Rep-2.ensures at c.in_ok-gap-in-Rep.ensures in
    let proper = rw is at inv.proper in
    let size = rw is at inv.size in
    let completes = rw is at inv.completes in
    record {
      below = search (rules, the_lemmas);
      proper = rw c.deref-tree-in-Rep.ensures proper.0;
      size = rw c.deref-tree-in-Rep.ensures (omega (arith, size, n.size));
      has = n.has _ inv.has;
      completes = rw c.deref-tree-in-Rep.ensures (completes_narrowed _ _ _ _ _ _ _ _ completes n);
    }

pub open_choice-returns : goal.open_choice-returns
open_choice-returns g t c =
    let opened = c.open_hole.ensures in
    λ p. narrowed_at _ _ c.args.gap _ _ _ _ _ _ opened.place opened.second
    (choice_narrowed _ _ _ _ p _ _ _ _ _ c.requires.gap_in c.in_ok-other.ensures c.in_ok-place.ensures opened.filled)

pub open_repetition-returns-in_ok-copies-in-None : goal.open_repetition-returns-in_ok-copies-in-None
open_repetition-returns-in_ok-copies-in-None g t c =
    let opened = c.open_hole.ensures in
    rw c.in-None.is
    (narrowed_at _ _ c.args.gap _ _ _ _ _ _ opened.place opened.second
    (loop_narrowed _ _ _ _ _ _ _ _ _ _ c.requires.gap_in c.in_ok-turn-in-None.ensures c.in_ok-copies-in-None.ensures
    opened.filled))

pub open_repetition-add_copies-requires-in-Some : goal.open_repetition-add_copies-requires-in-Some
open_repetition-add_copies-requires-in-Some g t c κs within =
    let r = pattern c.args.inner.now in
    let few = c.in_ok-others-in-Some.ensures in
    let push = c.in_ok-place-in-Some.ensures in
    let len = pushed_length _ _ _ _ push in
    let room = rw c.in-Some.is at c.requires.fits in
    let all = shared c.args.least (c.in-Some.most - c.args.least - 1) c.in-Some.most (size_of r) (omega arith) in
    let fits : length c.push-in-Some.new.states.items + c.args.least * size_of r ≤ 65536 =
    omega (arith, few.size, len, all, room) in
    let inside : c.in_ok-place-in-Some.place < length c.push-in-Some.new.states.items =
    omega (arith, len, push.place) in
    let tidy = pushed_tidy _ _ _ _ push few.tidy tt in
    search (rules, fits, inside, tidy)

pub open_repetition-open_hole-requires-in-Some : goal.open_repetition-open_hole-requires-in-Some
open_repetition-open_hole-requires-in-Some g t c =
    hole_behind_options _ _ _ _ _ _ _ c.args.gap _ _ _ c.requires.gap_in c.in_ok-others-in-Some.ensures
    c.in_ok-place-in-Some.ensures
    c.in_ok-copies-in-Some.ensures

pub open_repetition-returns-in_ok-copies-in-Some : goal.open_repetition-returns-in_ok-copies-in-Some
open_repetition-returns-in_ok-copies-in-Some g t c =
    let opened = c.open_hole-in-Some.ensures in
    rw c.in-Some.is
    (narrowed_at _ _ c.args.gap _ _ _ _ _ _ opened.place opened.second
    (option_narrowed _ _ _ _ _ _ _ _ _ _ _ _ _ _ (omega arith)
    (omega arith) c.requires.gap_in c.in_ok-others-in-Some.ensures
    c.in_ok-place-in-Some.ensures c.in_ok-copies-in-Some.ensures opened.filled))

pub open_repetition-returns-in_ok-next-in-Some-2 : goal.open_repetition-returns-in_ok-next-in-Some-2
open_repetition-returns-in_ok-next-in-Some-2 g t c =
    let proper = rw c.in-Some-2.is at c.requires.proper in
    let some = rw c.in-Some-2.is at c.requires.some in
    let same : c.in-Some-2.count ≡ c.in-Some.most = cc in
    rw c.in-Some-2.is
    (copies_narrowed _ _ _ c.args.least c.in-Some-2.count (c.in-Some-2.count - 1) c.args.gap _ (omega (arith, some))
    (omega (arith, proper.1))
    c.in_ok-next-in-Some-2.ensures)

pub add_copies-returns-then-len-before : goal.add_copies-returns-then-len-before
add_copies-returns-then-len-before g t c =
    rest_added _ _ _ _ c.loop-i.i _ _ _ _ c.requires.proper (omega arith) c.loop-i.invariant c.in_ok-entry.ensures
    (omega arith)

pub add_copies-loop-i-preserved : goal.add_copies-loop-i-preserved
add_copies-loop-i-preserved g t c = copy_added _ _ _ _ _ _ _ _ c.loop-i.invariant c.in_ok-entry.ensures

pub add_optional-loop-i-preserved : goal.add_optional-loop-i-preserved
add_optional-loop-i-preserved g t c =
    option_added _ _ _ _ _ _ _ _ _ _ c.loop-i.invariant c.in_ok-first.ensures c.in_ok-entry.ensures (omega arith)

pub add-loop-tree-init : goal.add-loop-tree-init
add-loop-tree-init g t c =
    record {
      below = omega arith;
      proper = c.requires.proper;
      size = refl;
      has = record {
        keeps = λ q s h. h;
        plain = λ q h. h;
        longer = omega arith;
        gap_in = record { tidy = c.requires.tidy; next_in = c.requires.next_in; hole_in = tt };
      };
      completes = λ new e w kept part leads. rw leads part;
    }

pub add-finish-requires-clause-room : goal.add-finish-requires-clause-room
add-finish-requires-clause-room g t c =
    omega (arith, rw (pattern-empty _ c.in-Empty.is) at c.loop-tree.invariant.size, c.requires.fits)

pub add-finish-requires-clause-hole_in : goal.add-finish-requires-clause-hole_in
add-finish-requires-clause-hole_in g t c = hole_any _ _ c.loop-tree.gap.hole c.loop-tree.invariant.has.gap_in.hole_in

pub add-finish-requires-in-Set-clause-room : goal.add-finish-requires-in-Set-clause-room
add-finish-requires-in-Set-clause-room g t c =
    omega (arith, rw (pattern-set _ _ c.in-Set.is) at c.loop-tree.invariant.size, c.requires.fits)

pub add-finish-requires-in-Set-clause-hole_in : goal.add-finish-requires-in-Set-clause-hole_in
add-finish-requires-in-Set-clause-hole_in g t c =
    hole_any _ _ c.loop-tree.gap.hole c.loop-tree.invariant.has.gap_in.hole_in

pub add-finish-requires-in-Begin-clause-room : goal.add-finish-requires-in-Begin-clause-room
add-finish-requires-in-Begin-clause-room g t c =
    omega (arith, rw (pattern-begin _ c.in-Begin.is) at c.loop-tree.invariant.size, c.requires.fits)

pub add-finish-requires-in-Begin-clause-hole_in : goal.add-finish-requires-in-Begin-clause-hole_in
add-finish-requires-in-Begin-clause-hole_in g t c =
    hole_any _ _ c.loop-tree.gap.hole c.loop-tree.invariant.has.gap_in.hole_in

pub add-finish-requires-in-End-clause-room : goal.add-finish-requires-in-End-clause-room
add-finish-requires-in-End-clause-room g t c =
    omega (arith, rw (pattern-end _ c.in-End.is) at c.loop-tree.invariant.size, c.requires.fits)

pub add-finish-requires-in-End-clause-hole_in : goal.add-finish-requires-in-End-clause-hole_in
add-finish-requires-in-End-clause-hole_in g t c =
    hole_any _ _ c.loop-tree.gap.hole c.loop-tree.invariant.has.gap_in.hole_in

pub add-fill-entry-requires : goal.add-fill-entry-requires
add-fill-entry-requires g t c = hole_any _ _ c.loop-tree.gap.hole c.loop-tree.invariant.has.gap_in.hole_in

pub add-add-requires : goal.add-add-requires
add-add-requires g t c κs within =
    let inv = c.loop-tree.invariant in
    let is = pattern-cat _ _ _ c.in-Cat.is in
    let proper = rw is at inv.proper in
    let size = rw is at inv.size in (
      search (rules, the_lemmas),
      (
        within,
        (
          rw c.deref.ensures proper.1,
          (
            rw c.deref.ensures (omega (arith, size, c.requires.fits)),
            (inv.has.gap_in.next_in, inv.has.gap_in.tidy),
          ),
        ),
      ),
    )

pub add-open_choice-requires : goal.add-open_choice-requires
add-open_choice-requires g t c κs within =
    let inv = c.loop-tree.invariant in
    let is = pattern-alt _ _ _ c.in-Alt.is in
    let proper = rw is at inv.proper in
    let size = rw is at inv.size in (
      search (rules, the_lemmas),
      (
        within,
        (
          rw c.deref-in-Alt.ensures proper.1,
          (
            rw c.deref-in-Alt.ensures (omega (arith, size, c.requires.fits)),
            gap_any _ _ c.loop-tree.gap inv.has.gap_in,
          ),
        ),
      ),
    )

pub add-is_without_states-requires : goal.add-is_without_states-requires
add-is_without_states-requires g t c =
    rw c.deref-in-Rep.ensures (rw (pattern-rep _ _ _ _ c.in-Rep.is) at c.loop-tree.invariant.proper)

pub add-open_repetition-requires : goal.add-open_repetition-requires
add-open_repetition-requires g t c κs within =
    let inv = c.loop-tree.invariant in
    let is = pattern-rep _ _ _ _ c.in-Rep.is in
    let proper = rw is at inv.proper in
    let size = rw is at inv.size in (
      search (rules, the_lemmas),
      (
        within,
        (
          rw c.deref-in-Rep-2.ensures proper,
          (
            c.is_without_states.ensures.some c.if-is_without_states.false,
            (
              rw c.deref-in-Rep-2.ensures (omega (arith, size, c.requires.fits)),
              gap_any _ _ c.loop-tree.gap inv.has.gap_in,
            ),
          ),
        ),
      ),
    )

pub add-loop-tree-smaller-in-Cat : goal.add-loop-tree-smaller-in-Cat
add-loop-tree-smaller-in-Cat g t c = search (rules, the_lemmas)

pub add-loop-tree-smaller-in-Alt : goal.add-loop-tree-smaller-in-Alt
add-loop-tree-smaller-in-Alt g t c = search (rules, the_lemmas)

pub add-loop-tree-smaller : goal.add-loop-tree-smaller
add-loop-tree-smaller g t c = search (rules, the_lemmas)

pub add-returns-in_err-gap-in-Cat : goal.add-returns-in_err-gap-in-Cat
add-returns-in_err-gap-in-Cat g t c = IfOk-from_err c.from_residual.result _ c.from_residual.ensures.0

pub add-returns-in_err-gap-in-Alt : goal.add-returns-in_err-gap-in-Alt
add-returns-in_err-gap-in-Alt g t c =
    IfOk-from_err c.from_residual-in_err-gap-in-Alt.result _ c.from_residual-in_err-gap-in-Alt.ensures.0

pub add-returns-in_err-gap-in-Rep : goal.add-returns-in_err-gap-in-Rep
add-returns-in_err-gap-in-Rep g t c =
    IfOk-from_err c.from_residual-in_err-gap-in-Rep.result _ c.from_residual-in_err-gap-in-Rep.ensures.0

pub add_copies-loop-i-init : goal.add_copies-loop-i-init
add_copies-loop-i-init g t c =
    record {
      implements = refl;
      keeps = λ q s h. h;
      plain = λ q h. h;
      tidy = c.requires.tidy;
      inside = c.requires.next_in;
      size = omega arith;
    }

pub add_copies-add-requires : goal.add_copies-add-requires
add_copies-add-requires g t c κs within =
    let inv = c.loop-i.invariant in
    let all = shared c.loop-i.i (c.args.count - c.loop-i.i - 1) c.args.count (size_of (pattern c.args.inner.now))
    (omega arith) in (
      (omega (arith, c.decreases)),
      (
        within,
        (
          c.requires.proper,
          (
            omega (arith, all, inv.size, c.requires.fits),
            (inv.inside, inv.tidy),
          ),
        ),
      ),
    )

pub add_copies-returns-in_err-entry : goal.add_copies-returns-in_err-entry
add_copies-returns-in_err-entry g t c = IfOk-from_err c.from_residual.result _ c.from_residual.ensures.0

pub add_copies-loop-i-smaller : goal.add_copies-loop-i-smaller
add_copies-loop-i-smaller g t c = omega arith

pub add_copies-returns : goal.add_copies-returns
add_copies-returns g t c = let end : c.args.count ≡ c.loop-i.i = omega arith in rw end c.loop-i.invariant

pub add_optional-loop-i-init : goal.add_optional-loop-i-init
add_optional-loop-i-init g t c =
    record {
      implements = refl;
      keeps = λ q s h. h;
      plain = λ q h. h;
      tidy = c.requires.tidy;
      inside = c.requires.next_in;
      size = omega arith;
    }

pub add_optional-add-requires : goal.add_optional-add-requires
add_optional-add-requires g t c κs within =
    let inv = c.loop-i.invariant in
    let all = shared c.loop-i.i (c.args.count - c.loop-i.i - 1) c.args.count (size_of (pattern c.args.inner.now))
    (omega arith) in (
      (omega (arith, c.decreases)),
      (
        within,
        (
          c.requires.proper,
          (
            omega (arith, all, inv.size, c.requires.fits),
            (inv.inside, inv.tidy),
          ),
        ),
      ),
    )

pub add_optional-push-requires : goal.add_optional-push-requires
add_optional-push-requires g t c =
    let all = shared c.loop-i.i (c.args.count - c.loop-i.i - 1) c.args.count (size_of (pattern c.args.inner.now))
    (omega arith) in
    omega (arith, all, c.loop-i.invariant.size, c.in_ok-first.ensures.size, c.requires.fits)

pub add_optional-returns-in_err-first : goal.add_optional-returns-in_err-first
add_optional-returns-in_err-first g t c = IfOk-from_err c.from_residual.result _ c.from_residual.ensures.0

pub add_optional-returns-in_err-entry : goal.add_optional-returns-in_err-entry
add_optional-returns-in_err-entry g t c =
    IfOk-from_err c.from_residual-in_err-entry.result _ c.from_residual-in_err-entry.ensures.0

pub add_optional-loop-i-smaller : goal.add_optional-loop-i-smaller
add_optional-loop-i-smaller g t c = omega arith

pub add_optional-returns : goal.add_optional-returns
add_optional-returns g t c = let end : c.args.count ≡ c.loop-i.i = omega arith in rw end c.loop-i.invariant

pub open_choice-add-requires : goal.open_choice-add-requires
open_choice-add-requires g t c κs within = (
  (omega (arith, c.decreases)),
  (
    within,
    (
      c.requires.proper,
      (
        omega arith,
        (
          c.requires.gap_in.next_in,
          c.requires.gap_in.tidy,
        ),
      ),
    ),
  ),
)

pub open_choice-returns-in_err-other : goal.open_choice-returns-in_err-other
open_choice-returns-in_err-other g t c = IfOk-from_err c.from_residual.result _ c.from_residual.ensures.0

pub open_choice-push-requires : goal.open_choice-push-requires
open_choice-push-requires g t c = omega (arith, c.in_ok-other.ensures.size)

pub open_choice-returns-in_err-place : goal.open_choice-returns-in_err-place
open_choice-returns-in_err-place g t c =
    IfOk-from_err c.from_residual-in_err-place.result _ c.from_residual-in_err-place.ensures.0

pub open_choice-open_hole-requires : goal.open_choice-open_hole-requires
open_choice-open_hole-requires g t c =
    let other = c.in_ok-other.ensures in
    let push = c.in_ok-place.ensures in
    hole_kept _ _ _ c.args.gap.hole (pushed_keeps _ _ _ _ push) (omega (arith, pushed_length _ _ _ _ push))
    (hole_kept _ _ _ c.args.gap.hole other.keeps (omega (arith, other.size)) c.requires.gap_in.hole_in)

pub open_repetition-push-requires : goal.open_repetition-push-requires
open_repetition-push-requires g t c = omega (arith, rw c.in-None.is at c.requires.fits)

pub open_repetition-returns-in_err-turn-in-None : goal.open_repetition-returns-in_err-turn-in-None
open_repetition-returns-in_err-turn-in-None g t c = IfOk-from_err c.from_residual.result _ c.from_residual.ensures.0

pub open_repetition-add_copies-requires : goal.open_repetition-add_copies-requires
open_repetition-add_copies-requires g t c κs within =
    let push = c.in_ok-turn-in-None.ensures in
    let len = pushed_length _ _ _ _ push in
    let room = rw c.in-None.is at c.requires.fits in (
      (omega (arith, c.decreases)),
      (
        within,
        (
          c.requires.proper.0,
          (
            omega (arith, len, room),
            (
              omega (
                arith,
                len,
                push.place,
              ),
              pushed_tidy _ _ _ _ push c.requires.gap_in.tidy tt,
            ),
          ),
        ),
      ),
    )

pub open_repetition-returns-in_err-copies-in-None : goal.open_repetition-returns-in_err-copies-in-None
open_repetition-returns-in_err-copies-in-None g t c =
    IfOk-from_err c.from_residual-in_err-copies-in-None.result _ c.from_residual-in_err-copies-in-None.ensures.0

pub open_repetition-open_hole-requires : goal.open_repetition-open_hole-requires
open_repetition-open_hole-requires g t c =
    let push = c.in_ok-turn-in-None.ensures in
    let copies = c.in_ok-copies-in-None.ensures in
    hole_kept _ _ _ c.args.gap.hole copies.keeps (omega (arith, copies.size))
    (hole_kept _ _ _ c.args.gap.hole (pushed_keeps _ _ _ _ push) (omega (
      arith,
      pushed_length _ _ _ _ push,
    )) c.requires.gap_in.hole_in)

pub open_repetition-overflow_sub-most : goal.open_repetition-overflow_sub-most
open_repetition-overflow_sub-most g t c = omega arith

pub open_repetition-overflow_sub-most-in-Some : goal.open_repetition-overflow_sub-most-in-Some
open_repetition-overflow_sub-most-in-Some g t c = omega arith

pub open_repetition-add_optional-requires : goal.open_repetition-add_optional-requires
open_repetition-add_optional-requires g t c κs within =
    let room = rw c.in-Some.is at c.requires.fits in
    let all = shared c.args.least (c.in-Some.most - c.args.least - 1) c.in-Some.most (size_of (pattern
    c.args.inner.now)) (omega arith) in (
      (omega (arith, c.decreases)),
      (
        within,
        (
          c.requires.proper.0,
          (
            omega (arith, all, room),
            (c.requires.gap_in.next_in, c.requires.gap_in.tidy),
          ),
        ),
      ),
    )

pub open_repetition-returns-in_err-others-in-Some : goal.open_repetition-returns-in_err-others-in-Some
open_repetition-returns-in_err-others-in-Some g t c =
    IfOk-from_err c.from_residual-in_err-others-in-Some.result _ c.from_residual-in_err-others-in-Some.ensures.0

pub open_repetition-push-requires-in-Some : goal.open_repetition-push-requires-in-Some
open_repetition-push-requires-in-Some g t c =
    let room = rw c.in-Some.is at c.requires.fits in
    let all = shared c.args.least (c.in-Some.most - c.args.least - 1) c.in-Some.most (size_of (pattern
    c.args.inner.now)) (omega arith) in
    omega (arith, all, room, c.in_ok-others-in-Some.ensures.size)

pub open_repetition-returns-in_err-place-in-Some : goal.open_repetition-returns-in_err-place-in-Some
open_repetition-returns-in_err-place-in-Some g t c =
    IfOk-from_err c.from_residual-in_err-place-in-Some.result _ c.from_residual-in_err-place-in-Some.ensures.0

pub open_repetition-returns-in_err-copies-in-Some : goal.open_repetition-returns-in_err-copies-in-Some
open_repetition-returns-in_err-copies-in-Some g t c =
    IfOk-from_err c.from_residual-in_err-copies-in-Some.result _ c.from_residual-in_err-copies-in-Some.ensures.0

pub open_repetition-overflow_sub-count : goal.open_repetition-overflow_sub-count
open_repetition-overflow_sub-count g t c = omega (arith, rw c.in-Some-2.is at c.requires.some)

pub open_repetition-add_copies-requires-in-Some-2 : goal.open_repetition-add_copies-requires-in-Some-2
open_repetition-add_copies-requires-in-Some-2 g t c κs within =
    let some = rw c.in-Some-2.is at c.requires.some in
    let room = rw c.in-Some-2.is at c.requires.fits in
    let all = shared 0 (c.in-Some-2.count - 1) c.in-Some-2.count (size_of (pattern c.args.inner.now)) (omega (
      arith,
      some,
    )) in (
      (omega (arith, c.decreases)),
      (
        within,
        (
          c.requires.proper.0,
          (
            omega (arith, all, room),
            (c.requires.gap_in.next_in, c.requires.gap_in.tidy),
          ),
        ),
      ),
    )

pub open_repetition-returns-in_err-next-in-Some-2 : goal.open_repetition-returns-in_err-next-in-Some-2
open_repetition-returns-in_err-next-in-Some-2 g t c =
    IfOk-from_err c.from_residual-in_err-next-in-Some-2.result _ c.from_residual-in_err-next-in-Some-2.ensures.0
