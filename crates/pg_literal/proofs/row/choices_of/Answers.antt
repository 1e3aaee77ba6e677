use Rattle.std.proofs.Common.{◌+◌, ◌++◌, ◌∷◌, [], ◌∙◌, sym, ap, subst, rules, arith}
use Rattle.pg_bytes.specs.ByteSets.{bytes}
use Rattle.pg_literal.specs.Rows.{AreChoices}
use Rattle.pg_literal.proofs.RowLemmas.{FoundBelow, found_more, choices_are, choice_alone}
use Rattle.pg_literal.proofs.row.choices_of.Goals as goal
use Rattle.pg_literal.proofs.row.choices_of.Goals.{else-loop-byte-test}
use Rattle.pg_literal.proofs.row.choices_of.Goals.{then-loop-byte-test+in_ok-push_choice+else-byte-lt255}

pub loop-byte-preserved : goal.loop-byte-preserved
loop-byte-preserved g c =
    found_more c.args.fold (bytes c.args.set.now) c.loop-byte.choices.items c.push_choice.new.choices.items
    c.loop-byte.byte c.loop-byte.invariant c.in_ok-push_choice.ensures

pub returns : goal.returns
returns g c =
    let fold = c.args.fold in
    let set = c.args.set.now in
    let closed = c.has_all_cases.ensures (search rules) in
    let byte = c.loop-byte.byte in
    choices_are fold set c.loop-byte-test.choices.items closed (elim c.loop-byte-test.branch [
      | else-loop-byte-test w ↦ absurd (omega arith)
      | then-loop-byte-test+in_ok-push_choice+else-byte-lt255 w ↦
          let found = found_more fold (bytes set) c.loop-byte.choices.items w.push_choice.new.choices.items byte
          c.loop-byte.invariant w.in_ok-push_choice.ensures in
          subst (λ n. FoundBelow fold (bytes set) c.loop-byte-test.choices.items n) (omega arith)
          (subst (λ xs. FoundBelow fold (bytes set) xs (byte + 1)) (sym (ap (λ v. v.items) w.choices-is)) found)
    ])

pub returns-in-Some : goal.returns-in-Some
returns-in-Some g c =
    let items = c.in_ok-push.ensures.items ∙ ap (λ xs. xs ++ c.in-Some.byte ∷ []) c.new-choices.ensures.items in
    subst (AreChoices c.args.fold (bytes c.args.set.now)) (sym items)
    (choice_alone c.args.fold (bytes c.args.set.now) c.in-Some.byte c.in-Some.ensures)
