use Rattle.std.proofs.Common.{◌≡◌, ◌<◌, Bool, Err, ap, inl, inr, subst, sym}
use Rattle.std.proofs.lemmas.Bool.{cases_lt}
use Rattle.pg_match.specs.Machines.{IsMachineOf}
use Rattle.pg_match.specs.Sizes.{list_size}
use Rattle.pg_match.specs.Strings.{string_patterns}
use Rattle.pg_selection.specs.Search.{SearchText}
use Rattle.pg_lines.proofs.StringLemmas.{string_trees, strings_fault}
use Rattle.pg_lines.proofs.query.machine_of_strings.Goals as goal

pub returns-in_err-machine-clause-fault : goal.returns-in_err-machine-clause-fault
returns-in_err-machine-clause-fault g c =
    let text = c.args.text.now in
    let strings = c.args.strings.now in
    let fold : c.text.inside.fold ≡ text.fold = ap (λ (t : SearchText). t.fold) c.text.view_is in
    strings_fault text strings c.requires.strings c.in_err-machine.field-0.0
    (λ many. subst (λ f. 65536 < list_size (string_patterns f strings)) fold
    (c.in_err-machine.ensures.large.0 (ap Err many))) c.from_residual.result c.from_residual.ensures.1

pub returns-clause-machine : goal.returns-clause-machine
returns-clause-machine g c =
    let text = c.args.text.now in
    let strings = c.args.strings.now in
    let trees = string_patterns text.fold strings in
    let machine = c.in_ok-machine.machine in
    let fold : c.text.inside.fold ≡ text.fold = ap (λ (t : SearchText). t.fold) c.text.view_is in
    let Of : Bool → Type 0 = λ f. IsMachineOf machine (string_patterns f strings) c.bounds.result in
    let built = subst (λ b. IsMachineOf machine trees b) c.bounds.ensures
    (subst Of fold c.in_ok-machine.ensures.built) in (
      trees,
      string_trees text strings c.requires.strings,
      built,
      elim (cases_lt 65536 (list_size trees)) [
        | inl large ↦
            let refused = c.in_ok-machine.ensures.large.1
            (subst (λ f. 65536 < list_size (string_patterns f strings)) (sym fold) large) in
            absurd (cc)
        | inr few ↦ few
      ],
    )
