use Rattle.std.proofs.Common.{◌≡◌, ◌++◌, ◌∷◌, [], length, map, true, arith, sym, ap, subst, ◌∙◌}
use Rattle.std.specs.Prelude.{nat_eq}
use Rattle.std.specs.List.{list_any}
use Rattle.pg_strings.specs.Keys.{AreChains}
use Rattle.pg_strings.specs.Whole.{AreIndexed, home_by, whole_home}
use Rattle.pg_strings.proofs.WholeLemmas.{whole_more, one_more, LengthsOf}
use Rattle.pg_strings.proofs.whole.WholeStrings.push.Goals as goal
use Rattle.pg_strings.proofs.whole.WholeStrings.push.Goals.{then-not-contains+in_ok-push, else-not-contains}

pub returns : goal.returns
returns g c = λ strings before.
    let string = c.args.string.now in
    let old = c.args.self.now in
    let chains = c.push-2.new.self in
    let lengths = old.lengths.items in
    elim c.if-not-contains.branch [
      | then-not-contains+in_ok-push w ↦
          let linked = c.in_ok-push-2.ensures (map whole_home strings) (subst
          (λ s. AreChains s.chains.first.items s.chains.next.items (map whole_home strings)) (sym w.self-is)
          before.linked) in
          let more = one_more lengths (length string) in
          let new = subst (λ xs. LengthsOf lengths xs (length string)) (sym w.in_ok-push.ensures.items) more in
          subst (λ s. AreIndexed s.lengths.items chains.first.items chains.next.items (strings ++ string ∷ []))
          (sym w.self-is)
          (whole_more lengths w.push.new.self.items old.chains.first.items old.chains.next.items chains.first.items
          chains.next.items strings string c.chain_of.result before new
          (c.chain_of.ensures.value ∙ ap home_by c.hash_of.ensures) linked)
      | else-not-contains w ↦
          let linked = c.in_ok-push-2.ensures (map whole_home strings) (subst
          (λ s. AreChains s.chains.first.items s.chains.next.items (map whole_home strings)) (sym w.self-is)
          before.linked) in
          subst (λ s. AreIndexed s.lengths.items chains.first.items chains.next.items (strings ++ string ∷ []))
          (sym w.self-is)
          (whole_more lengths lengths old.chains.first.items old.chains.next.items chains.first.items
          chains.next.items strings string c.chain_of.result before (
            λ n yes. yes,
            subst (λ xs. list_any (λ len. nat_eq len (length string)) xs ≡ true) c.deref.ensures.value
                (sym c.contains.ensures.value ∙ w.if-not-contains.false),
            omega arith,
          )
          (c.chain_of.ensures.value ∙ ap home_by c.hash_of.ensures) linked)
    ]
