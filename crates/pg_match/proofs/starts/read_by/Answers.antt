use Rattle.std.proofs.Common.{◌≡◌, ◌<◌, ◌||◌, length, get_or, ap, ◌∙◌, true, subst, refl, arith}
use Rattle.std.specs.Prelude.{slice_index}
use Rattle.std.proofs.lemmas.Bool.Decides.{nat_tests}
use Rattle.pg_bytes.specs.ByteSets.{bytes}
use Rattle.pg_match.specs.Steps.{Reads}
use Rattle.pg_match.specs.declared.state.State.TheVariants.{Fail}
use Rattle.pg_match.proofs.ClosureLemmas.{stands}
use Rattle.pg_match.proofs.StartLemmas.{among_next, not_reading}
use Rattle.pg_match.proofs.starts.read_by.Goals as goal
use Rattle.pg_match.proofs.starts.read_by.Goals.{in-Read, in_default}

pub loop-k-preserved : goal.loop-k-preserved
loop-k-preserved c =
    let t = c.args.states.now in
    let seeds = c.args.seeds.now in
    let k = c.loop-k.k in
    let read = bytes c.loop-k.read in
    let q = slice_index seeds k in
    let inside : q < length t = c.requires.inside k c.loop-k-test.true in
    elim c.match-states-state.branch [
      | in-Read w ↦
          let own = bytes w.in-Read.set in
          let is = stands t q _ inside w.in-Read.is in
          let joined = w.union-read.ensures in
          rw w.read-is
          (among_next t seeds k read (bytes w.union-read.result) c.loop-k.invariant
          (λ b in_read. ap (λ s. s b) joined ∙ (let has : (read b || own b) ≡ true = grind (arith, nat_tests) in has))
          (λ b r reads.
          let in_own : own b ≡ true = (subst (λ o. Reads o b r) is reads).0 in
          ap (λ s. s b) joined ∙ (let has : (read b || own b) ≡ true = grind (arith, nat_tests) in has)))
      | in_default w ↦
          let st = get_or t q Fail in
          let is = stands t q st inside refl in
          rw w.read-is
          (among_next t seeds k read read c.loop-k.invariant (λ b in_read. in_read)
          (λ b r reads. absurd (not_reading t seeds b seeds k st is w.in_default.not-Read r reads)))
    ]
