use Rattle.std.proofs.Common.{◌∙◌, ◌++◌, ◌||◌, Bool, true, ℕ, List, [], ap, sym, subst, refl, arith}
use Rattle.std.proofs.Common.{append_assoc}
use Rattle.std.proofs.lemmas.Bool.{MatchBool-at_true, MatchBool-at_false, or_right}
use Rattle.std.proofs.lemmas.List.{append-nil}
use Rattle.pg_base.proofs.WriteLemmas.{wrote_none, wrote_more, rises}
use Rattle.pg_plan.specs.History.{Past}
use Rattle.pg_seq.specs.declared.assembler.Assembler.{Assembler}
use Rattle.pg_seq.specs.Standing.{IsAfter, wrote}
use Rattle.pg_seq.proofs.StandLemmas.{same_buffer, failed_stands}
use Rattle.std.proofs.Math.Bool.{or-false}
use Rattle.pg_seq.proofs.assembler.Assembler.drain.Goals as goal

-- what was written so far, and one part more
more_written : {A : Type 0} (s : Assembler A) (past : Past) (first more : List ℕ) (failed : Bool)
    → IsAfter s (record past { written = (past.written ++ first) ++ more; failed = failed })
    → IsAfter s (record past { written = past.written ++ (first ++ more); failed = failed })
more_written s past first more failed h =
    let P : List ℕ → Type 0 = λ w. IsAfter s (record past { written = w; failed = failed }) in
    subst P (append_assoc past.written first more) h

pub loop-self-init : goal.loop-self-init
loop-self-init g c = record {
  drains = λ past h.
      let P : List ℕ → Type 0 = λ w. IsAfter c.args.self.now (record past { written = w }) in
      ([], wrote_none (g.W.Sink.stream c.args.out.now), subst P (sym (append-nil past.written)) h);
  unfailed = c.if-self.false;
}

pub advance-requires : goal.advance-requires
advance-requires g c =
    let d = c.loop-self.invariant.drains c.requires.0 c.requires.1 in
    (wrote c.requires.0 d.0, d.2, c.loop-self.invariant.unfailed)

pub loop-self-smaller : goal.loop-self-smaller
loop-self-smaller g c = c.in-Ok-true.ensures.fewer c.in-Ok-true.field-0-test

pub loop-self-preserved : goal.loop-self-preserved
loop-self-preserved g c =
    let i = c.loop-self.invariant in
    record {
      drains = λ past h.
          let d = i.drains past h in
          let a = MatchBool-at_true _ _ c.in-Ok-true.field-0-test
          (c.in-Ok-true.ensures.goes (wrote past d.0) d.2) in (
            d.0 ++ a.rows,
            wrote_more d.0 a.rows _ _ _ d.1 a.got,
            more_written _ past d.0 a.rows past.failed a.stands,
          );
      unfailed = c.in-Ok-true.ensures.same ∙ i.unfailed;
    }

-- no write failed, by the past that there is
pub returns-in-Ok-false : goal.returns-in-Ok-false
returns-in-Ok-false g c =
    let i = c.loop-self.invariant in
    let p = i.drains c.requires.0 c.requires.1 in
    let n = MatchBool-at_false _ _ c.in-Ok-false.field-0-test
    (c.in-Ok-false.ensures.goes (wrote c.requires.0 p.0) p.2) in
    let none = ap (λ s. s.failures) n.same ∙ p.1.no_failure in
    record {
      drained = λ past h.
          let d = i.drains past h in
          let r = MatchBool-at_false _ _ c.in-Ok-false.field-0-test
          (c.in-Ok-false.ensures.goes (wrote past d.0) d.2) in
          let P : Bool → Type 0 =
          λ f. IsAfter c.advance.new.self (record past { written = past.written ++ d.0; failed = f }) in (
            d.0,
            ap (λ s. s.taken) r.same ∙ d.1.taken,
            (h.failed ∙ c.if-self.false, r.all),
            subst P (sym (or-false past.failed)) r.stands,
          );
      cause = λ e. absurd (cc);
      failed = λ e. absurd (cc);
      no_failure = none;
      never_falls = omega (arith, none);
    }

pub returns-in-Err : goal.returns-in-Err
returns-in-Err g c =
    let i = c.loop-self.invariant in
    let p = i.drains c.requires.0 c.requires.1 in
    let failure = (c.in-Err.ensures.goes (wrote c.requires.0 p.0) p.2).failure in
    let rise = rises _ _ _ p.1.no_failure failure in
    record {
      drained = λ past h.
          let d = i.drains past h in
          let b = c.in-Err.ensures.goes (wrote past d.0) d.2 in (
            d.0 ++ b.rows,
            b.got ∙ (ap (λ w. w ++ b.rows) d.1.taken ∙ append_assoc (g.W.Sink.stream c.args.out.now).taken d.0 b.rows),
            (
              h.failed ∙ c.if-self.false,
              (
                b.part.0,
                ap (λ w. w ++ b.part.0) (sym (append_assoc past.written d.0 b.rows))
                    ∙ b.part.1,
              ),
            ),
            more_written _ past d.0 b.rows (past.failed || true)
                (failed_stands c.advance.new.self _ (wrote past d.0) b.rows (past.failed || true) b.stands
                (record { selector = refl; format = refl; running = refl; bad = refl })
                (record { handed = refl; printing = refl; printer = refl }) refl
                (same_buffer _) refl (or_right past.failed true refl)),
          );
      cause = λ e. rise;
      failed = λ e. absurd (cc);
      no_failure = tt;
      never_falls = omega (arith, rise);
    }
