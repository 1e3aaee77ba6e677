use Rattle.std.proofs.Common.{◌≡◌, ◌+◌, ◌++◌, [], List, map, Some, None, refl, sym, ap, ◌∙◌, subst}
use Rattle.std.specs.String.{string_bytes}
use Rattle.pg_walk.specs.Answers.{content_of}
use Rattle.pg_walk.specs.Items.{Fault}
use Rattle.pg_walk.specs.Scopes.{sights}
use Rattle.pg_walk.specs.Places.{child}
use Rattle.pg_walk.specs.Descent.{InsideGives}
use Rattle.std.specs.List.{All}
use Rattle.std.proofs.lemmas.List.Elements.{All-nil}
use Rattle.pg_walk.specs.Within.{IsWithin}
use Rattle.pg_walk.specs.Left.{Spot, Entry, spots_in, Unfolds, UnfoldsWithin}
use Rattle.pg_base.specs.declared.cause.Cause.TheVariants.{CannotList, BadName}
use Rattle.pg_walk.proofs.Steps.{inside_fails, some_bad, some_good}
use Rattle.pg_walk.proofs.Lefts.{unfolds_leaf, unfolds_inside}
use Rattle.pg_walk.proofs.WithinLemmas.{entry_leaf_within, inside_within}
use Rattle.pg_walk.proofs.WithinLemmas.{only}
use Rattle.pg_walk.proofs.walker.inside.Goals as goal

pub returns-in-Err-Failed-clause-gives : goal.returns-in-Err-Failed-clause-gives
returns-in-Err-Failed-clause-gives g c = λ asked tells r.
    let a = sights asked (g.T.FileTree.answers c.args.tree.now) in
    let path = string_bytes c.args.path in
    let content = ap a.content (sym c.as_str.ensures.value)
    ∙ (rw c.in-Err-Failed.field-0-is at c.in-Err-Failed.ensures) tells in
    unfolds_leaf a r (InsideGives a c.args.depth path) (Some (Fault path CannotList))
    (spots_in c.args.waiting.now.items) (inside_fails a c.args.depth path content [] _ refl)

pub returns-then-nameless-clause-gives : goal.returns-then-nameless-clause-gives
returns-then-nameless-clause-gives g c = λ asked tells r.
    let a = sights asked (g.T.FileTree.answers c.args.tree.now) in
    let path = string_bytes c.args.path in
    let old = spots_in c.args.waiting.now.items in
    let f = content_of c.in-Ok.listing in
    let content = ap a.content (sym c.as_str.ensures.value) ∙ c.in-Ok.ensures tells in
    let below = λ (p : List _) (v : List _).
    map (λ n. Entry (child p n) (c.args.depth + 1)) (map string_bytes v) ++ old in
    let are : spots_in c.push_below.new.waiting.items ≡ below path c.in_order-names.result.items =
    c.in_ok-push_below.ensures ∙ (ap (λ p. below p c.as_slice.result.now) c.as_str-2.ensures.value
    ∙ ap (below path) c.as_slice.ensures.value) in
    let Q : List Spot → Type 0 = λ s.
    Unfolds a r (InsideGives a c.args.depth path) (Some (Fault path BadName)) old s in
    subst Q (sym are) (unfolds_inside a r c.args.depth path f (map string_bytes c.in_order-names.result.items)
    (Some (Fault path BadName)) old content c.in_order-names.ensures.rises c.in_order-names.ensures.same
    (some_bad a c.args.depth path f c.if-nameless.true [] _ refl))

pub returns-else-nameless-clause-gives : goal.returns-else-nameless-clause-gives
returns-else-nameless-clause-gives g c = λ asked tells r.
    let a = sights asked (g.T.FileTree.answers c.args.tree.now) in
    let path = string_bytes c.args.path in
    let old = spots_in c.args.waiting.now.items in
    let f = content_of c.in-Ok.listing in
    let content = ap a.content (sym c.as_str.ensures.value) ∙ c.in-Ok.ensures tells in
    let below = λ (p : List _) (v : List _).
    map (λ n. Entry (child p n) (c.args.depth + 1)) (map string_bytes v) ++ old in
    let are : spots_in c.push_below.new.waiting.items ≡ below path c.in_order-names.result.items =
    c.in_ok-push_below.ensures ∙ (ap (λ p. below p c.as_slice.result.now) c.as_str-2.ensures.value
    ∙ ap (below path) c.as_slice.ensures.value) in
    let Q : List Spot → Type 0 = λ s. Unfolds a r (InsideGives a c.args.depth path) None old s in
    subst Q (sym are) (unfolds_inside a r c.args.depth path f (map string_bytes c.in_order-names.result.items)
    None old content c.in_order-names.ensures.rises c.in_order-names.ensures.same
    (some_good a c.args.depth path f c.if-nameless.false [] [] refl))

pub returns-in-Err-Failed-clause-within : goal.returns-in-Err-Failed-clause-within
returns-in-Err-Failed-clause-within g c = λ r.
    let path = string_bytes c.args.path in
    entry_leaf_within r path (Fault path CannotList) (spots_in c.args.waiting.now.items) refl

pub returns-then-nameless-clause-within : goal.returns-then-nameless-clause-within
returns-then-nameless-clause-within g c = λ r.
    let path = string_bytes c.args.path in
    let old = spots_in c.args.waiting.now.items in
    let below = λ (p : List _) (v : List _).
    map (λ n. Entry (child p n) (c.args.depth + 1)) (map string_bytes v) ++ old in
    let are : spots_in c.push_below.new.waiting.items ≡ below path c.in_order-names.result.items =
    c.in_ok-push_below.ensures ∙ (ap (λ p. below p c.as_slice.result.now) c.as_str-2.ensures.value
    ∙ ap (below path) c.as_slice.ensures.value) in
    let Q : List Spot → Type 0 = λ s. UnfoldsWithin r (All (IsWithin path)) (Some (Fault path BadName)) old s in
    subst Q (sym are) (inside_within r (c.args.depth + 1) path (map string_bytes c.in_order-names.result.items)
    (Some (Fault path BadName)) old (only path (Fault path BadName) refl))

pub returns-else-nameless-clause-within : goal.returns-else-nameless-clause-within
returns-else-nameless-clause-within g c = λ r.
    let path = string_bytes c.args.path in
    let old = spots_in c.args.waiting.now.items in
    let below = λ (p : List _) (v : List _).
    map (λ n. Entry (child p n) (c.args.depth + 1)) (map string_bytes v) ++ old in
    let are : spots_in c.push_below.new.waiting.items ≡ below path c.in_order-names.result.items =
    c.in_ok-push_below.ensures ∙ (ap (λ p. below p c.as_slice.result.now) c.as_str-2.ensures.value
    ∙ ap (below path) c.as_slice.ensures.value) in
    let Q : List Spot → Type 0 = λ s. UnfoldsWithin r (All (IsWithin path)) (None) old s in
    subst Q (sym are) (inside_within r (c.args.depth + 1) path (map string_bytes c.in_order-names.result.items) None
    old (All-nil (IsWithin path)))
