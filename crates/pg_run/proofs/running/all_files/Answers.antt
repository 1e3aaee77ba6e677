use Rattle.std.proofs.Common.{◌∙◌, Bool, List, inl, inr, sym, subst}
use Rattle.pg_files.specs.Given.{FileOutcome, entries_given}
use Rattle.pg_run.specs.Outcome.{EndsAtSelected}
use Rattle.pg_run.specs.Reading.{GivesNext}
use Rattle.pg_run.proofs.HoldLemmas.{fails_by}
use Rattle.pg_run.proofs.RunLemmas.{between_enough, between_more, ends_at, read_rightly}
use Rattle.pg_run.proofs.running.all_files.Goals as goal

pub returns-then-enough-clause-outcome : goal.returns-then-enough-clause-outcome
returns-then-enough-clause-outcome g c = λ aim start.
    let r = c.loop.invariant.rests aim start in
    let b = r.0.0 in
    record {
      rests = r.0;
      asked = inr (between_enough b (sym (c.enough.ensures aim b.steps _ b.holds) ∙ c.if-enough.true));
      quiet = r.1;
    }

pub take_next-requires-clause-rests : goal.take_next-requires-clause-rests
take_next-requires-clause-rests g c κs within =
    let r = c.requires.rests in
    (r.0, (c.loop.invariant.rests r.0 r.1).0)

pub returns-in_err-take_next-clause-outcome : goal.returns-in_err-take_next-clause-outcome
returns-in_err-take_next-clause-outcome g c = λ aim start.
    let r = c.loop.invariant.rests aim start in
    let b = r.0.0 in
    let few = sym (c.enough.ensures aim b.steps _ b.holds) ∙ c.if-enough.false in
    fails_by c.from_residual.result _ _ c.from_residual.ensures.1 (
      c.in_err-take_next.ensures.outcome aim r.0,
      read_rightly b r.1 (between_more b few)
          (g.F.Files.past c.take_next.new.files).given c.in_err-take_next.ensures.went,
    )

pub returns-then-not-branch-clause-outcome : goal.returns-then-not-branch-clause-outcome
returns-then-not-branch-clause-outcome g c = λ aim start.
    let r = c.loop.invariant.rests aim start in
    let past' = g.F.Files.past c.take_next.new.files in
    let G : Bool → Type 0 =
    GivesNext (g.F.Files.finds (g.F.Files.list c.take_next.new.files)) (g.F.Files.past c.loop.files) past' in
    let goes = subst G c.if-not-branch.true c.in_ok-take_next.ensures.goes in
    let Q : List FileOutcome → Type 0 = λ gs. EndsAtSelected aim.query (entries_given gs) in
    record {
      rests = c.in_ok-take_next.ensures.outcome aim r.0;
      asked = inl (goes.1, goes.2);
      quiet = λ m. subst Q (sym goes.0) (r.1 m);
    }

pub loop-preserved : goal.loop-preserved
loop-preserved g c =
    let i = c.loop.invariant in
    let ok = c.in_ok-take_next.ensures in
    let given = (g.F.Files.past c.loop.files).given in
    let given' = (g.F.Files.past c.take_next.new.files).given in
    let past' = g.F.Files.past c.take_next.new.files in
    let G : Bool → Type 0 =
    GivesNext (g.F.Files.finds (g.F.Files.list c.take_next.new.files)) (g.F.Files.past c.loop.files) past' in
    let goes = subst G c.if-not-branch.false ok.goes in
    record {
      can_next = tt;
      is_finite = tt;
      done = goes.1 ∙ i.done;
      same_list = ok.same_list ∙ i.same_list;
      rests = λ aim start.
          let r = i.rests aim start in
          let b = r.0.0 in
          let few = sym (c.enough.ensures aim b.steps _ b.holds) ∙ c.if-enough.false in
          (ok.outcome aim r.0, λ quiet. ends_at aim given' given goes.0 (between_more b few quiet));
    }

pub take_next-requires-clause-done : goal.take_next-requires-clause-done
take_next-requires-clause-done g c κs within = c.loop.invariant.done

pub returns-in_err-take_next-clause-same_list : goal.returns-in_err-take_next-clause-same_list
returns-in_err-take_next-clause-same_list g c = c.in_err-take_next.ensures.same_list ∙ c.loop.invariant.same_list

pub returns-then-not-branch-clause-same_list : goal.returns-then-not-branch-clause-same_list
returns-then-not-branch-clause-same_list g c = c.in_ok-take_next.ensures.same_list ∙ c.loop.invariant.same_list
