use Rattle.std.proofs.Common.{◌≡◌, ◌-◌, true, ap, sym, inl, inr, arith, ◌∙◌}
use Rattle.std.proofs.lemmas.Bool.{false≢true}
use Rattle.pg_pattern.specs.Patterns.{Cat}
use Rattle.pg_pattern.specs.Trees.{pattern}
use Rattle.pg_pattern.proofs.PatternLemmas.{pattern-empty, pattern-set, pattern-cat}
use Rattle.pg_literal.proofs.StringLemmas.{all_left, cat_left, cat_stops, set_left, none_left, other_left}
use Rattle.pg_literal.proofs.StringLemmas.{number_of_other}
use Rattle.pg_literal.proofs.strings.is_string.Goals as goal
use Rattle.pg_literal.proofs.strings.is_string.Goals.{then-room-eq1-via-then-room-eq1}
use Rattle.pg_literal.proofs.strings.is_string.Goals.{then-room-eq1-via-else-room-eq1+then-not-is_byte}

pub loop-tree-init : goal.loop-tree-init
loop-tree-init g c = record { some = omega arith; most = omega arith; left = all_left c.args.fold _ }

pub loop-tree-preserved : goal.loop-tree-preserved
loop-tree-preserved g c =
    let walked = c.loop-tree.invariant in
    let byte = c.is_byte.ensures.0 (let found : c.is_byte.result ≡ true = cc in found) in
    let cat : pattern c.loop-tree.tree.now ≡ Cat (pattern c.deref-tree.result.now) (pattern c.deref.result.now) =
    pattern-cat _ _ _ c.in-Cat.is
    ∙ (ap (λ t. Cat (pattern t) (pattern c.in-Cat.second.value)) (sym c.deref-tree.ensures)
    ∙ ap (λ t. Cat (pattern c.deref-tree.result.now) (pattern t)) (sym c.deref.ensures)) in
    record {
      some = omega (arith, walked.some, c.if-room-eq1.false);
      most = omega (arith, walked.most);
      left = cat_left c.args.fold _ _ _ walked.left _ _ byte.0 cat byte.1 walked.some walked.most;
    }

pub returns-then-room-eq1 : goal.returns-then-room-eq1
returns-then-room-eq1 g c =
    cat_stops c.args.fold _ _ _ c.loop-tree.invariant.left _ _ (pattern-cat _ _ _ c.in-Cat.is)
    (elim c.then-room-eq1.branch [
      | then-room-eq1-via-then-room-eq1 w ↦ inl w.if-room-eq1.true
      | then-room-eq1-via-else-room-eq1+then-not-is_byte w ↦ inr (λ byte. false≢true (sym w.if-not-is_byte.true
          ∙ w.is_byte.ensures.1 (byte.0, ap pattern w.deref.ensures ∙ byte.1)))
    ])

pub returns-in-Set : goal.returns-in-Set
returns-in-Set g c =
    let walked = c.loop-tree.invariant in
    set_left c.args.fold _ _ _ walked.left _ c.is_byte-in-Set.result (pattern-set _ _ c.in-Set.is) walked.some
    c.is_byte-in-Set.ensures

pub returns-in-Begin : goal.returns-in-Begin
returns-in-Begin g c = other_left c.args.fold _ _ _ c.loop-tree.invariant.left (number_of_other _ c.in-Begin.is)

pub returns-in-Begin-2 : goal.returns-in-Begin-2
returns-in-Begin-2 g c = other_left c.args.fold _ _ _ c.loop-tree.invariant.left (number_of_other _ c.in-Begin.is)

pub returns-in-Begin-3 : goal.returns-in-Begin-3
returns-in-Begin-3 g c = other_left c.args.fold _ _ _ c.loop-tree.invariant.left (number_of_other _ c.in-Begin.is)

pub returns-in-Begin-4 : goal.returns-in-Begin-4
returns-in-Begin-4 g c = other_left c.args.fold _ _ _ c.loop-tree.invariant.left (number_of_other _ c.in-Begin.is)

pub returns-in-Empty : goal.returns-in-Empty
returns-in-Empty g c = none_left c.args.fold _ _ _ c.loop-tree.invariant.left (pattern-empty _ c.in-Empty.is)
