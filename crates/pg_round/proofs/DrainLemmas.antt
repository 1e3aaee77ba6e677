-- What is known behind a drain.
use Rattle.std.proofs.Common.{◌≡◌, ℕ, ◌<◌, Bool, true, false, List, [], ◌++◌, refl, sym, ◌∙◌, subst, Result, Ok}
use Rattle.std.proofs.Common.{Err}
use Rattle.std.specs.Prelude.{IsErrOf}
use Rattle.pg_base.specs.Sink.{Stream}
use Rattle.pg_rows.specs.Output.{output}
use Rattle.pg_plan.specs.Plan.{entries_of}
use Rattle.pg_plan.specs.History.{Past, plan, handed}
use Rattle.pg_plan.specs.Drains.{Drained, drained, IsSafe}
use Rattle.pg_plan.specs.declared.answers.SinkFault.{SinkFault}
use Rattle.pg_plan.specs.declared.answers.SinkFault.TheVariants.{WriteFailed, Failed}
use Rattle.pg_plan.proofs.BeginLemmas.{begins_trans}
use Rattle.pg_round.specs.Receipts.{WroteSafely, HasWritten, TakesResults}
use Rattle.pg_round.specs.declared.fault.RoundFault.TheVariants.{Sink}
use Rattle.std.proofs.Math.Bool.{or-false}

-- what a drain tells
abbrev pub Told : (Past → Type 0) → Past → Result (Unit {0}) SinkFault → List ℕ → List ℕ → Type 0
Told stands past result before after = (text : List ℕ) × (after ≡ before ++ text) × Drained result past text
    × stands (drained past text result)

-- of all that may be handed out
abbrev pub ToldSafely : (stands last : Past → Type 0) → Result (Unit {0}) SinkFault → List ℕ → List ℕ → Type 0
ToldSafely stands last result before after =
    (past : Past) → stands past → IsSafe past (handed past) × Told last past result before after

drain_ok : (last : Past → Type 0) (past : Past) (before after : List ℕ) → IsSafe past (handed past)
    → Told last past (Ok tt) before after → HasWritten last [] past before after
drain_ok last past before after safe t = (
  t.0,
  (t.1, subst (λ (l : List ℕ). IsSafe past l) (sym t.2.1) safe),
  subst (λ (f : Bool). last (record past { written = past.written ++ t.0; failed = f })) (or-false past.failed) t.3,
  t.2.1,
)

drain_failed : (last : Past → Type 0) (past : Past) (f : SinkFault) (before after : List ℕ) (m m' : ℕ)
    → past.failed ≡ false → IsSafe past (handed past) → (IsErrOf {T = Unit {0}} (Err f) WriteFailed → m < m')
    → Told last past (Err f) before after → WroteSafely past before after × (m < m')
drain_failed last past WriteFailed before after m m' n safe cause t = (
  (
    t.0,
    (
      t.1,
      begins_trans (past.written ++ t.0) (handed past)
          (output past.query past.format (entries_of (plan past))) t.2.1 safe,
    ),
  ),
  cause refl,
)
drain_failed last past Failed before after m m' n safe cause t =
    let h : true ≡ false = sym t.2.0 ∙ n in absurd (cc)

-- a drain that succeeds, and one that fails
pub drain_writes : {T : Type 0} (x : T) (stands last : Past → Type 0) (before after : Stream)
    → after.failures ≡ before.failures → ToldSafely stands last (Ok tt) before.taken after.taken
    → TakesResults (Ok x) stands (HasWritten last []) before after
drain_writes x stands last before after calm told = record {
  calm = calm;
  outcome = λ past st n s. let t = told past st in drain_ok last past before.taken after.taken t.0 t.1;
}

pub drain_breaks : {T : Type 0} (f : SinkFault) (stands last : Past → Type 0)
    (took : Past → List ℕ → List ℕ → Type 0) (before after : Stream)
    → (IsErrOf {T = Unit {0}} (Err f) WriteFailed → before.failures < after.failures)
    → ToldSafely stands last (Err f) before.taken after.taken → TakesResults {T = T} (Err Sink) stands took before after
drain_breaks f stands last took before after cause told = record {
  calm = tt;
  outcome = λ past st n s.
      let t = told past st in
      drain_failed last past f before.taken after.taken before.failures after.failures n t.0 cause t.1;
}
