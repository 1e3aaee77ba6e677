use Rattle.std.proofs.Common.{◌≡◌, ◌+◌, ◌-◌, ◌<◌, ◌∷◌, ℕ, length, drop, arith, ap, sym, subst, ◌∙◌, get_or}
use Rattle.std.proofs.Common.{inl, inr, length-drop}
use Rattle.std.proofs.lemmas.Bool.{cases_lt, eq-eqb, eqb-true, false≢true}
use Rattle.std.proofs.lemmas.List.{drop_all, drop_more}
use Rattle.pg_pattern.specs.Patterns.{folded}
use Rattle.pg_match.proofs.StringLemmas.{AddedBytes, bytes_all, bytes_more, bytes_none, nothing_added, size_string}
use Rattle.pg_match.proofs.strings.add_string.Goals as goal

pub push-requires-in-loop-left : goal.push-requires-in-loop-left
push-requires-in-loop-left g c =
    let string = c.args.string.now in
    let inv = c.loop-left.invariant in
    let some = c.loop-left-test.true in
    let size = size_string c.args.fold string (omega (arith, some, inv.within)) in
    omega (arith, c.requires.fits, size, inv.added.size, length-drop c.loop-left.left string, some, inv.within)

pub loop-left-preserved : goal.loop-left-preserved
loop-left-preserved g c =
    let string = c.args.string.now in
    let left = c.loop-left.left in
    let some = c.loop-left-test.true in
    let within = c.loop-left.invariant.within in
    let old = c.args.states.now.items in
    let mid = c.loop-left.states.items in
    let new = c.push-in-loop-left.new.states.items in
    let byte = get_or string (left - 1) 0 in
    let next : left - 1 + 1 ≡ left = omega (arith, some) in
    let text : drop (left - 1) string ≡ byte ∷ drop left string =
    drop_more string (left - 1) 0 (omega (arith, some, within)) ∙ ap (λ n. byte ∷ drop n string) next in
    record {
      within = omega (arith, within);
      added = subst (λ t. AddedBytes c.args.fold old new t c.in_ok-entry-2.entry c.args.next) (sym text)
          (bytes_more c.args.fold old mid new byte (drop left string) c.folded-set.result c.loop-left.entry
          c.in_ok-entry-2.entry c.args.next
          (c.folded-set.ensures ∙ ap (folded c.args.fold) c.one.ensures) c.loop-left.invariant.added
          c.in_ok-entry-2.ensures);
    }

pub returns : goal.returns
returns g c =
    let string = c.args.string.now in
    let none = c.loop-left-test.false in
    let start : c.loop-left.left ≡ 0 = omega (arith, none) in
    let Bytes : ℕ → Type 0 =
    λ n. AddedBytes c.args.fold c.args.states.now.items c.loop-left.states.items (drop n string) c.loop-left.entry
    c.args.next in
    let some : 0 < length string = elim (cases_lt 0 (length string)) [
      | inl less ↦ less
      | inr none_left ↦
          let empty = eq-eqb (length string) 0 (omega (arith, none_left)) in
          absurd (false≢true (sym c.if-is_empty.false ∙ (c.is_empty.ensures ∙ empty)))
    ] in
    bytes_all c.args.fold c.args.states.now.items c.loop-left.states.items string c.loop-left.entry c.args.next some
    (subst Bytes start c.loop-left.invariant.added)

pub loop-left-init : goal.loop-left-init
loop-left-init g c =
    let string = c.args.string.now in
    let states = c.args.states.now.items in
    record {
      within = omega arith;
      added = subst (λ t. AddedBytes c.args.fold states states t c.args.next c.args.next)
          (sym (drop_all (length string) string (omega arith)))
          (bytes_none c.args.fold states c.args.next c.requires.tidy c.requires.next_in);
    }

pub returns-then-is_empty : goal.returns-then-is_empty
returns-then-is_empty g c =
    nothing_added c.args.fold c.args.states.now.items c.push.new.states.items c.args.string.now c.in_ok-entry.entry
    c.args.next (eqb-true (length c.args.string.now) 0 (sym c.is_empty.ensures ∙ c.if-is_empty.true)) c.requires.tidy
    c.requires.next_in c.in_ok-entry.ensures
