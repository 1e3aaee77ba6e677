use Rattle.std.proofs.Common.{◌≡◌, ◌<◌, ℕ, List, [], length, get_or, map, subst, arith, rules}
use Rattle.std.proofs.lemmas.List.{length-map, take_all}
use Rattle.pg_pattern.specs.Trees.{pattern}
use Rattle.pg_literal.specs.Literals.{as_searched, AreTexts}
use Rattle.pg_literal.proofs.LiteralLemmas.{hit_alone, hit_alone_at, pattern_among, text_spells, zip_length}
use Rattle.pg_literal.proofs.LiteralLemmas.{needed_more, heads_more, enough_more, exact_more, texts_more}
use Rattle.pg_literal.proofs.InnerLemmas.{adds_behind}
use Rattle.pg_literal.proofs.literal.literals_of.Goals as goal

pub returns-in_default-clause-fixed : goal.returns-in_default-clause-fixed
returns-in_default-clause-fixed g c = λ texts spelled any.
    let trees = c.args.trees.now in
    let ps = map pattern trees in
    let i = c.loop-tree.tree-index in
    let tree = c.tree-item.result in
    let below : i < length ps = omega (arith, length-map trees (pattern {A = g.row.A.Denot})) in
    let at = pattern_among pattern trees i tree c.loop-tree-test.true c.tree-item.is in
    let some = c.in_ok-own.ensures.fixed (get_or texts i [])
    (text_spells c.args.expansion.fold ps texts spelled i (pattern tree) below at)
    any in
    absurd (search (rules, some))

pub loop-tree-preserved : goal.loop-tree-preserved
loop-tree-preserved g c =
    let trees = c.args.trees.now in
    let fold = c.args.expansion.fold in
    let bounds = c.args.bounds in
    let ps = map pattern trees in
    let i = c.loop-tree.tree-index in
    let p = pattern c.tree-item.result in
    let old = c.loop-tree.literals.items in
    let new = c.append.new.self.items in
    let below : i < length ps = omega (arith, length-map trees (pattern {A = g.row.A.Denot})) in
    let at = pattern_among pattern trees i c.tree-item.result c.loop-tree-test.true c.tree-item.is in
    let adds = adds_behind fold p bounds _ old new (rw c.in-Some.is at c.in_ok-own.ensures.adds)
    c.in_ok-append.ensures.items in
    let known = c.loop-tree.invariant in
    record {
      needed = needed_more fold bounds ps i p below at old new adds known.needed;
      heads = heads_more fold bounds ps i p below at old new adds known.heads;
      enough = enough_more fold bounds ps i p below at old new adds known.enough;
      exact = λ texts spelled.
          exact_more fold bounds ps i p below at old new adds texts spelled (known.exact texts spelled);
      fixed = λ texts spelled any.
          texts_more fold bounds ps i p below at old new adds texts spelled any (known.fixed texts spelled any);
    }

pub returns-clause-needed : goal.returns-clause-needed
returns-clause-needed g c = λ some line hit.
    let trees = c.args.trees.now in
    let alone = hit_alone (map pattern trees) c.args.bounds line hit in
    c.loop-tree.invariant.needed line alone.0 alone.1
    (omega (arith, alone.2, length-map trees (pattern {A = g.row.A.Denot}))) alone.3 alone.4

pub returns-clause-heads : goal.returns-clause-heads
returns-clause-heads g c = λ some all line i j hit.
    let trees = c.args.trees.now in
    let alone = hit_alone_at (map pattern trees) c.args.bounds line i j hit in
    c.loop-tree.invariant.heads all line i j alone.0 alone.1
    (omega (arith, alone.2, length-map trees (pattern {A = g.row.A.Denot}))) alone.3 alone.4

pub returns-clause-exact : goal.returns-clause-exact
returns-clause-exact g c = λ texts spelled some.
    let trees = c.args.trees.now in
    let are = c.loop-tree.invariant.exact texts spelled in
    let P : List (List ℕ) → Type 0 =
    λ ts. map (λ literal. literal.text.items) c.loop-tree.literals.items ≡ map (as_searched c.args.expansion.fold) ts in
    let size = zip_length _ texts (map pattern trees) spelled in
    subst P (take_all c.loop-tree.tree-index texts
    (omega (arith, size, length-map trees (pattern {A = g.row.A.Denot})))) are

pub returns-clause-fixed : goal.returns-clause-fixed
returns-clause-fixed g c = λ texts spelled any.
    let trees = c.args.trees.now in
    let are = c.loop-tree.invariant.fixed texts spelled any in
    let P : List (List ℕ) → Type 0 =
    λ ts. AreTexts (map (as_searched c.args.expansion.fold) ts) c.loop-tree.literals.items in
    let size = zip_length _ texts (map pattern trees) spelled in
    subst P (take_all c.loop-tree.tree-index texts
    (omega (arith, size, length-map trees (pattern {A = g.row.A.Denot})))) are
