use Rattle.std.proofs.Common.{◌∙◌, None, Some, map, ap, refl, sym, take, ◌≡◌, ◌∷◌}
use Rattle.std.specs.String.{string_bytes}
use Rattle.std.proofs.lemmas.Bool.{false≢true}
use Rattle.std.proofs.Math.Logic.{∥∥₁_map}
use Rattle.pg_walk.specs.Scopes.{scope_of}
use Rattle.pg_walk.specs.Items.{found}
use Rattle.pg_walk.specs.Left.{spots_in}
use Rattle.pg_files.specs.Given.{names_in}
use Rattle.pg_files.specs.Listed.{asked_for}
use Rattle.pg_files.proofs.ListedLemmas.{all_given, asked_more, goes_on, next_opened, next_spared}
use Rattle.pg_files.proofs.ListedLemmas.{none_more, one_more, same_begins}
use Rattle.pg_files.proofs.listed.OperandFilesFiles.next.Goals as goal

pub invariant_of-self-in_default : goal.invariant_of-self-in_default
invariant_of-self-in_default g c =
    let old = c.args.self.now in
    let new = c.next.new.self in
    let tells = g.T.FileTree.tells in
    let answers = g.T.FileTree.answers in
    let ops = map string_bytes old.walk.operands.items in
    let asked = old.walk.asked.items in
    let given = goes_on tells answers ops old.walk.walker.tree.now new.tree.now (scope_of old.walk.walker.scope)
    (scope_of new.scope) c.next.ensures.same.0 (ap scope_of c.next.ensures.same.1)
    asked asked c.in_ok-item.field-0 None (spots_in old.walk.walker.waiting.items) (spots_in new.waiting.items)
    c.in_default.is (none_more asked) (old.goes_on c.if-self.false)
    (c.in_ok-item.ensures.gives ops (map found asked)) in
    record {
      begins = same_begins tells answers ops old.walk.walker.tree.now new.tree.now (scope_of old.walk.walker.scope)
          (scope_of new.scope) c.next.ensures.same.0 (ap scope_of c.next.ensures.same.1) (map found asked) old.begins;
      goes_on = λ _. given;
      all_asked = λ _. ∥∥₁_map given (λ h. c.what_is_given.ensures.whole ops (map found asked) h
          (c.in_ok-item.ensures.end c.in_default.is));
      is_newest = old.is_newest;
      are_opened = old.are_opened;
      are_spared = old.are_spared;
    }

pub returns-in_default-clause-all : goal.returns-in_default-clause-all
returns-in_default-clause-all g c = λ _.
    let old = c.args.self.now in
    let new = c.next.new.self in
    let tells = g.T.FileTree.tells in
    let answers = g.T.FileTree.answers in
    let ops = map string_bytes old.walk.operands.items in
    let asked = old.walk.asked.items in
    let given = goes_on tells answers ops old.walk.walker.tree.now new.tree.now (scope_of old.walk.walker.scope)
    (scope_of new.scope) c.next.ensures.same.0 (ap scope_of c.next.ensures.same.1)
    asked asked c.in_ok-item.field-0 None (spots_in old.walk.walker.waiting.items) (spots_in new.waiting.items)
    c.in_default.is (none_more asked) (old.goes_on c.if-self.false)
    (c.in_ok-item.ensures.gives ops (map found asked)) in (
      names_in (string_bytes old.input_name) (map found asked),
      (
        map found asked,
        ∥∥₁_map given (λ h. c.what_is_given.ensures.whole ops (map found asked) h
            (c.in_ok-item.ensures.end c.in_default.is)),
        refl,
      ),
      all_given (string_bytes old.input_name) asked (g.S.Store.past old.store) old.are_opened,
    )

pub invariant_of-self-2 : goal.invariant_of-self-2
invariant_of-self-2 g c =
    let old = c.args.self.now in
    let new = c.next.new.self in
    let tells = g.T.FileTree.tells in
    let answers = g.T.FileTree.answers in
    let ops = map string_bytes old.walk.operands.items in
    let asked = old.walk.asked.items in
    let item = c.in-Some.item in
    let past = g.S.Store.past old.store in
    let past' = g.S.Store.past c.reach.new.store in
    let more : asked_for c.push.new.self.items ≡ found item ∷ asked_for asked =
    ap asked_for c.push.ensures ∙ asked_more asked item in
    let given = goes_on tells answers ops old.walk.walker.tree.now new.tree.now (scope_of old.walk.walker.scope)
    (scope_of new.scope) c.next.ensures.same.0 (ap scope_of c.next.ensures.same.1)
    asked c.push.new.self.items c.in_ok-item.field-0 (Some item) (spots_in old.walk.walker.waiting.items)
    (spots_in new.waiting.items) c.in-Some.is (ap (map found) c.push.ensures ∙ one_more asked item)
    (old.goes_on c.if-self.false) (c.in_ok-item.ensures.gives ops (map found asked)) in
    record {
      begins = ∥∥₁_map given (λ h. c.what_is_given-2.ensures.begins ops (map found c.push.new.self.items) h);
      goes_on = λ _. given;
      all_asked = λ d. absurd (false≢true (sym c.requires ∙ d));
      is_newest = ap (take 1) (sym more);
      are_opened = next_opened (asked_for asked) (found item) (asked_for c.push.new.self.items) more old.spares_output
          c.in_ok-step.step past past' c.in_ok-step.ensures.ok old.are_opened;
      are_spared = next_spared (asked_for asked) (found item) (asked_for c.push.new.self.items) more old.spares_output
          c.in_ok-step.step past past' c.in_ok-step.ensures.ok old.are_spared;
    }
