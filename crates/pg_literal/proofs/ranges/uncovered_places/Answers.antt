use Rattle.std.proofs.Common.{◌≡◌, ◌+◌, ◌||◌, ℕ, Bool, List, true, subst, ◌∙◌, arith}
use Rattle.std.specs.Prelude.{slice_index}
use lib.Lanes.{chunk}
use Rattle.std.proofs.lemmas.Simd.{zip2_of_maps}
use Rattle.pg_literal.specs.Ranges.{covered, in_pair, bit_of}
use Rattle.pg_literal.proofs.RangeLemmas.{mark_either, marked_at}
use Rattle.pg_literal.proofs.ranges.uncovered_places.Goals as goal

pub returns-in-Two-Two-clause-none : goal.returns-in-Two-Two-clause-none
returns-in-Two-Two-clause-none c = λ k less one other.
    let bytes : List ℕ = c.args.bytes.now in
    let at = c.args.at in
    let behind = at + c.args.distance in
    let few = c.lanes_before_both.ensures.few in
    let first = marked_at (in_pair c.in-Two-Two.near) bytes at 32 k c.marks.result (omega arith) c.marks.ensures
    (omega (arith, few)) (subst (λ cover. covered cover (slice_index bytes (at + k)) ≡ true) c.in-Two-Two.is-0 one) in
    let second = marked_at (in_pair c.in-Two-Two.far) bytes behind 32 k c.marks-in-Two-Two.result (omega arith)
    c.marks-in-Two-Two.ensures (omega (arith, few))
    (subst (λ cover. covered cover (slice_index bytes (behind + k)) ≡ true) c.in-Two-Two.is-1 other) in
    c.lanes_before_both.ensures.none k less first second

pub returns-in_default-clause-none : goal.returns-in_default-clause-none
returns-in_default-clause-none c = λ k less one other.
    let bytes : List ℕ = c.args.bytes.now in
    let at = c.args.at in
    let behind = at + c.args.distance in
    let near = c.as_pairs.result in
    let far = c.as_pairs-in_default.result in
    let few = c.lanes_before_both-in_default.ensures.few in
    let near_are = zip2_of_maps _ (λ b. bit_of (in_pair near.0 b)) (λ b. bit_of (in_pair near.1 b)) (chunk at 32 bytes)
    c.marks-in_default.ensures c.marks-in_default-2.ensures
    ∙ mark_either (in_pair near.0) (in_pair near.1) (chunk at 32 bytes) in
    let far_are = zip2_of_maps _ (λ b. bit_of (in_pair far.0 b)) (λ b. bit_of (in_pair far.1 b)) (chunk behind 32 bytes)
    c.marks-in_default-3.ensures c.marks-in_default-4.ensures
    ∙ mark_either (in_pair far.0) (in_pair far.1) (chunk behind 32 bytes) in
    let in_near : ℕ → Bool = λ b. in_pair near.0 b || in_pair near.1 b in
    let in_far : ℕ → Bool = λ b. in_pair far.0 b || in_pair far.1 b in
    let first = marked_at in_near bytes at 32 k _ (omega arith) near_are (omega (arith, few))
    (c.as_pairs.ensures (slice_index bytes (at + k)) ∙ one) in
    let second = marked_at in_far bytes behind 32 k _ (omega arith) far_are (omega (arith, few))
    (c.as_pairs-in_default.ensures (slice_index bytes (behind + k)) ∙ other) in
    c.lanes_before_both-in_default.ensures.none k less first second
