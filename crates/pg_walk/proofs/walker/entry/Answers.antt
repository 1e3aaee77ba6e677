use Rattle.std.proofs.Common.{[], false, Some, None, refl, sym, ap, ◌∙◌}
use Rattle.std.specs.String.{string_bytes}
use Rattle.std.specs.Option.{option_map}
use Rattle.std.proofs.lemmas.Result.{IfOk-weaker}
use Rattle.pg_walk.specs.Items.{File, Fault, found}
use Rattle.pg_walk.specs.Scopes.{Is, IsLeftOut, IsUntold, scope_of, sights}
use Rattle.pg_walk.specs.Descent.{EntryGives, InsideGives}
use Rattle.pg_walk.specs.Left.{spots_in}
use Rattle.pg_walk.specs.declared.tree.FileKind.TheVariants.{Regular, Link, Other}
use Rattle.pg_base.specs.declared.cause.Cause.TheVariants.{CannotOpen, TooDeep, InCircle}
use Rattle.pg_walk.proofs.Steps.{entry_leaf, entry_deep, entry_circle, entry_inside}
use Rattle.pg_walk.proofs.Lefts.{unfolds_leaf, unfolds_as}
use Rattle.pg_walk.proofs.WithinLemmas.{entry_leaf_within, entry_none_within}
use Rattle.pg_walk.proofs.walker.entry.Goals as goal

pub returns-in-Ok-Some-Regular-clause-gives : goal.returns-in-Ok-Some-Regular-clause-gives
returns-in-Ok-Some-Regular-clause-gives g c = λ tells r.
    let a = sights (scope_of c.args.scope.now) (g.T.FileTree.answers c.args.tree.now) in
    let path = string_bytes c.args.path in
    let old = spots_in c.args.waiting.now.items in
    let kind = ap (λ p. a.kind p false) (sym c.as_str.ensures.value)
    ∙ ((rw c.in-Ok-Some-Regular.field-0-is at c.in-Ok-Some-Regular.ensures.tells) tells
    ∙ ap Is c.in-Ok-Some-Regular.field-0-0-is) in
    unfolds_leaf a r (EntryGives a c.args.depth path) (Some (File path)) old
    (entry_leaf a c.args.depth path (Is Regular) (Some (File path)) kind refl (λ k d c. cc) [] _ refl)

pub returns-in-Ok-Some-Link-clause-gives : goal.returns-in-Ok-Some-Link-clause-gives
returns-in-Ok-Some-Link-clause-gives g c = λ tells r.
    let a = sights (scope_of c.args.scope.now) (g.T.FileTree.answers c.args.tree.now) in
    let path = string_bytes c.args.path in
    let old = spots_in c.args.waiting.now.items in
    let kind = ap (λ p. a.kind p false) (sym c.as_str.ensures.value)
    ∙ ((rw c.in-Ok-Some-Link.field-0-is at c.in-Ok-Some-Link.ensures.tells) tells
    ∙ ap Is c.in-Ok-Some-Link.field-0-0-is) in
    unfolds_leaf a r (EntryGives a c.args.depth path) (None) old
    (entry_leaf a c.args.depth path (Is Link) (None) kind refl (λ k d c. cc) [] _ refl)

pub returns-in-Ok-Some-Other-clause-gives : goal.returns-in-Ok-Some-Other-clause-gives
returns-in-Ok-Some-Other-clause-gives g c = λ tells r.
    let a = sights (scope_of c.args.scope.now) (g.T.FileTree.answers c.args.tree.now) in
    let path = string_bytes c.args.path in
    let old = spots_in c.args.waiting.now.items in
    let kind = ap (λ p. a.kind p false) (sym c.as_str.ensures.value)
    ∙ ((rw c.in-Ok-Some-Other.field-0-is at c.in-Ok-Some-Other.ensures.tells) tells
    ∙ ap Is c.in-Ok-Some-Other.field-0-0-is) in
    unfolds_leaf a r (EntryGives a c.args.depth path) (None) old
    (entry_leaf a c.args.depth path (Is Other) (None) kind refl (λ k d c. cc) [] _ refl)

pub returns-in-Ok-None-clause-gives : goal.returns-in-Ok-None-clause-gives
returns-in-Ok-None-clause-gives g c = λ tells r.
    let a = sights (scope_of c.args.scope.now) (g.T.FileTree.answers c.args.tree.now) in
    let path = string_bytes c.args.path in
    let old = spots_in c.args.waiting.now.items in
    let kind = ap (λ p. a.kind p false) (sym c.as_str.ensures.value)
    ∙ (rw c.in-Ok-None.field-0-is at c.in-Ok-None.ensures.tells) tells in
    unfolds_leaf a r (EntryGives a c.args.depth path) (None) old
    (entry_leaf a c.args.depth path IsLeftOut (None) kind refl (λ k d c. cc) [] _ refl)

pub returns-in-Err-Failed-clause-gives : goal.returns-in-Err-Failed-clause-gives
returns-in-Err-Failed-clause-gives g c = λ tells r.
    let a = sights (scope_of c.args.scope.now) (g.T.FileTree.answers c.args.tree.now) in
    let path = string_bytes c.args.path in
    let old = spots_in c.args.waiting.now.items in
    let kind = ap (λ p. a.kind p false) (sym c.as_str.ensures.value)
    ∙ (rw c.in-Err-Failed.field-0-is at c.in-Err-Failed.ensures.tells) tells in
    unfolds_leaf a r (EntryGives a c.args.depth path) (Some (Fault path CannotOpen)) old
    (entry_leaf a c.args.depth path IsUntold (Some (Fault path CannotOpen)) kind refl (λ k d c. cc) [] _ refl)

pub returns-then-depth-gt-DEEPEST-clause-gives : goal.returns-then-depth-gt-DEEPEST-clause-gives
returns-then-depth-gt-DEEPEST-clause-gives g c = λ tells r.
    let a = sights (scope_of c.args.scope.now) (g.T.FileTree.answers c.args.tree.now) in
    let path = string_bytes c.args.path in
    let old = spots_in c.args.waiting.now.items in
    let kind = ap (λ p. a.kind p false) (sym c.as_str.ensures.value)
    ∙ ((rw c.in-Ok-Some-Directory.field-0-is at c.in-Ok-Some-Directory.ensures.tells) tells
    ∙ ap Is c.in-Ok-Some-Directory.field-0-0-is) in
    unfolds_leaf a r (EntryGives a c.args.depth path) (Some (Fault path TooDeep)) old
    (entry_deep a c.args.depth path kind c.if-depth-gt-DEEPEST.true [] _ refl)

pub returns-then-branch-clause-gives : goal.returns-then-branch-clause-gives
returns-then-branch-clause-gives g c = λ tells r.
    let a = sights (scope_of c.args.scope.now) (g.T.FileTree.answers c.args.tree.now) in
    let path = string_bytes c.args.path in
    let old = spots_in c.args.waiting.now.items in
    let kind = ap (λ p. a.kind p false) (sym c.as_str.ensures.value)
    ∙ ((rw c.in-Ok-Some-Directory.field-0-is at c.in-Ok-Some-Directory.ensures.tells) tells
    ∙ ap Is c.in-Ok-Some-Directory.field-0-0-is) in
    let circle = ap (a.circle c.args.depth) (sym c.as_str-else-depth-gt-DEEPEST.ensures.value)
    ∙ (sym (c.in_ok-is_in_circle-in-Ok-Some-Directory.ensures tells) ∙ c.if-branch.true) in
    unfolds_leaf a r (EntryGives a c.args.depth path) (Some (Fault path InCircle)) old
    (entry_circle a c.args.depth path kind c.if-depth-gt-DEEPEST.false circle [] _ refl)

pub returns-else-branch-clause-gives : goal.returns-else-branch-clause-gives
returns-else-branch-clause-gives g c = λ tells.
    let a = sights (scope_of c.args.scope.now) (g.T.FileTree.answers c.args.tree.now) in
    let path = string_bytes c.args.path in
    let old = spots_in c.args.waiting.now.items in
    let new = spots_in c.inside.new.waiting.items in
    let kind = ap (λ p. a.kind p false) (sym c.as_str.ensures.value)
    ∙ ((rw c.in-Ok-Some-Directory.field-0-is at c.in-Ok-Some-Directory.ensures.tells) tells
    ∙ ap Is c.in-Ok-Some-Directory.field-0-0-is) in
    let circle = ap (a.circle c.args.depth) (sym c.as_str-else-depth-gt-DEEPEST.ensures.value)
    ∙ (sym (c.in_ok-is_in_circle-in-Ok-Some-Directory.ensures tells) ∙ c.if-branch.false) in
    IfOk-weaker c.inside.result _ _
    (λ item h r. unfolds_as a r (InsideGives a c.args.depth path) (EntryGives a c.args.depth path)
    (option_map found item) old new
    (λ items. entry_inside a c.args.depth path kind c.if-depth-gt-DEEPEST.false circle [] items) (h r))
    (c.inside.ensures.gives (scope_of c.args.scope.now) tells)

pub returns-in-Ok-Some-Regular-clause-within : goal.returns-in-Ok-Some-Regular-clause-within
returns-in-Ok-Some-Regular-clause-within g c = λ r.
    let path = string_bytes c.args.path in
    entry_leaf_within r path (File path) (spots_in c.args.waiting.now.items) refl

pub returns-in-Ok-Some-Link-clause-within : goal.returns-in-Ok-Some-Link-clause-within
returns-in-Ok-Some-Link-clause-within g c = λ r.
    entry_none_within r (string_bytes c.args.path) (spots_in c.args.waiting.now.items)

pub returns-in-Ok-Some-Other-clause-within : goal.returns-in-Ok-Some-Other-clause-within
returns-in-Ok-Some-Other-clause-within g c = λ r.
    entry_none_within r (string_bytes c.args.path) (spots_in c.args.waiting.now.items)

pub returns-in-Ok-None-clause-within : goal.returns-in-Ok-None-clause-within
returns-in-Ok-None-clause-within g c = λ r.
    entry_none_within r (string_bytes c.args.path) (spots_in c.args.waiting.now.items)

pub returns-in-Err-Failed-clause-within : goal.returns-in-Err-Failed-clause-within
returns-in-Err-Failed-clause-within g c = λ r.
    let path = string_bytes c.args.path in
    entry_leaf_within r path (Fault path CannotOpen) (spots_in c.args.waiting.now.items) refl

pub returns-then-depth-gt-DEEPEST-clause-within : goal.returns-then-depth-gt-DEEPEST-clause-within
returns-then-depth-gt-DEEPEST-clause-within g c = λ r.
    let path = string_bytes c.args.path in
    entry_leaf_within r path (Fault path TooDeep) (spots_in c.args.waiting.now.items) refl

pub returns-then-branch-clause-within : goal.returns-then-branch-clause-within
returns-then-branch-clause-within g c = λ r.
    let path = string_bytes c.args.path in
    entry_leaf_within r path (Fault path InCircle) (spots_in c.args.waiting.now.items) refl
