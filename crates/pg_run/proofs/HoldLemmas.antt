-- An engine's sequencer, one call further.
use Rattle.std.proofs.Common.{◌≡◌, ℕ, ◌<◌, Bool, true, false, ◌&&◌, ◌||◌, ◌==◌, Option, Some, None, Result, Ok, Err}
use Rattle.std.proofs.Common.{List, [], ◌∷◌, ◌++◌, length, refl, sym, ap, ◌∙◌, subst, arith, append_assoc}
use Rattle.std.specs.List.{Contains, list_all}
use Rattle.std.specs.Option.{IsSome, MatchOption}
use Rattle.std.specs.Result.{IsErrAnd, IsErrOf, IfErr, OnErr, MatchResult}
use Rattle.std.proofs.lemmas.Bool.{false≢true}
use Rattle.std.proofs.lemmas.List.{append-nil, get_or_at, length_push}
use Rattle.std.proofs.lemmas.List.Folds.{list_all-append}
use Rattle.pg_selection.specs.Search.{terminator}
use Rattle.pg_blocks.specs.Blocks.{BlockData}
use Rattle.pg_selection.specs.Searched.{SearchedBlock}
use Rattle.pg_rows.specs.Output.{HasRoom, output, status}
use Rattle.pg_rows.specs.Enough.{is_enough}
use Rattle.pg_base.specs.Sink.{Stream, IsBeginning}
use Rattle.pg_plan.specs.declared.answers.Arrival.TheVariants.{Taken}
use Rattle.pg_plan.specs.declared.answers.SinkFault.{SinkFault}
use Rattle.pg_plan.specs.declared.answers.SinkFault.TheVariants.{WriteFailed, Failed}
use Rattle.pg_plan.specs.Plan.{Step, Announces, MayFollow, IsShaped, IsPlan, announced, opened, entries_of, is_open}
use Rattle.pg_plan.specs.History.{Past, Planned, Arrived, past_at_start, planned, arrived, plan, taken_of, taken_after}
use Rattle.pg_plan.specs.History.{is_taken, all_taken, answer, answer_after, front_of, front_after, handed}
use Rattle.pg_plan.specs.History.{handed_after, IsComplete, status_of}
use Rattle.pg_seq.specs.Standing.{IsAfter}
use Rattle.pg_plan.specs.Drains.{Drained, drained}
use Rattle.pg_plan.proofs.ArrivalLaws.{first_is_taken}
use Rattle.pg_plan.proofs.BeginLemmas.{begins_trans, shape_of}
use Rattle.pg_plan.proofs.CursorLemmas.{plan_begins}
use Rattle.pg_seq.proofs.FrontLemmas.{front_all}
use Rattle.pg_seq.proofs.KeyLemmas.{next_not_taken}
use Rattle.pg_run.specs.Holding.{Aim, HasPlan, MayStep, BreaksOffInSearch, AllIsWritten, past_of, format_of, output_of}
use Rattle.pg_run.specs.Holding.{SearchesFor, waiting}
use Rattle.pg_workers.specs.declared.block_search.BlockSearch.{Ghosts}
use Rattle.pg_run.specs.declared.engine.Engine.{Engine}
use Rattle.pg_run.specs.declared.fault.RunFault.TheVariants.{OutOfMemory, Sink}
use Rattle.pg_seq.proofs.ArriveLemmas.{own_key}

-- Keys of blocks that were taken.

pub any_more : (key : ℕ × ℕ) (keys : List (ℕ × ℕ)) (b : BlockData) → is_taken keys b ≡ true
    → is_taken (key ∷ keys) b ≡ true
any_more key keys b e = ap (λ t. (b.file == key.0 && b.number == key.1) || t) e
    ∙ or_true (b.file == key.0 && b.number == key.1)
  where
    or_true : (t : Bool) → (t || true) ≡ true
    or_true true = refl
    or_true false = refl

all_by : (t : Bool) (rest rest' : Bool) → (t && rest) ≡ true → (rest ≡ true → rest' ≡ true) → (t' : Bool)
    → (t ≡ true → t' ≡ true) → (t' && rest') ≡ true
all_by true rest rest' e f t' h = ap (λ x. x && rest') (h refl) ∙ f e
all_by false rest rest' e f t' h = absurd (false≢true e)

all_more : (key : ℕ × ℕ) (keys : List (ℕ × ℕ)) (bs : List BlockData) → list_all (is_taken keys) bs ≡ true
    → list_all (is_taken (key ∷ keys)) bs ≡ true
all_more key keys [] e = refl
all_more key keys (b ∷ bs) e =
    all_by (is_taken keys b) (list_all (is_taken keys) bs) (list_all (is_taken (key ∷ keys)) bs) e
    (all_more key keys bs) (is_taken (key ∷ keys) b) (any_more key keys b)

all_push : (keys : List (ℕ × ℕ)) (bs : List BlockData) (b : BlockData) → list_all (is_taken keys) bs ≡ true
    → list_all (is_taken ((b.file, b.number) ∷ keys)) (bs ++ b ∷ []) ≡ true
all_push keys bs b e =
    let more = (b.file, b.number) ∷ keys in
    list_all-append (is_taken more) bs (b ∷ [])
    ∙ (ap (λ t. t && (is_taken more b && true)) (all_more (b.file, b.number) keys bs e)
    ∙ ap (λ t. t && true) (own_key keys b))

-- a new engine
pub holds_new : {A Q C : Type 0} {asks : Ghosts Q A C} (engine : Engine A Q C asks) (aim : Aim)
    → SearchesFor engine aim.query
    → engine.setup ≡ aim.setup → engine.files ≡ 0 → waiting engine ≡ []
    → IsAfter engine.sequencer (past_at_start aim.query (format_of aim)) → HasPlan engine aim [] aim.out
holds_new engine aim same set count none stands = record {
  same = same;
  set = set;
  count = count;
  events = [];
  written = [];
  stands = stands;
  planned = refl;
  taken = [];
  blocks = sym none;
  all = refl;
  safe = (output aim.query (format_of aim) [], refl);
  got = sym (append-nil aim.out.taken);
  calm = refl;
}

-- All blocks were taken where none waits.
all_blocks : {A Q C : Type 0} {asks : Ghosts Q A C} {engine : Engine A Q C asks} {aim : Aim} {steps : List Step}
    {out : Stream}
    (h : HasPlan engine aim steps out) → waiting engine ≡ [] → announced steps ≡ h.taken
all_blocks h none = h.blocks ∙ (ap (λ bs. h.taken ++ bs) none ∙ append-nil h.taken)

-- What an engine holds.
module _ {A Q C : Type 0} {asks : Ghosts Q A C} {engine : Engine A Q C asks} {aim : Aim} {steps : List Step}
    {out : Stream}
    (h : HasPlan engine aim steps out) where
  abbrev past : Past
  past = past_of aim.query (format_of aim) h.events h.written

  pub room_of : HasRoom (format_of aim)
  room_of = h.stands.room

  pub shaped_of : IsShaped (terminator aim.query) steps
  shaped_of =
      let P : List Step → Type 0 = λ p. IsPlan (terminator aim.query) p in
      shape_of (terminator aim.query) steps (subst P h.planned h.stands.lawful)

  pub may_past : (s : Step) → MayStep aim steps s → MayFollow (terminator past.query) (plan past) s
  may_past s m =
      let P : List Step → Type 0 = λ p. MayFollow (terminator aim.query) p s in
      subst P (sym h.planned) m

  -- what was written is a beginning of what one more step gives too
  safe_step : (s : Step) → MayStep aim steps s → IsBeginning h.written (output_of aim (s ∷ steps))
  safe_step s m =
      begins_trans _ _ _ h.safe (plan_begins aim.query (format_of aim) room_of steps (s ∷ []) (m.0, shaped_of))

  -- what was held back was sent on
  pub sent : (out' : Stream) → out'.taken ≡ out.taken → out'.failures ≡ out.failures → HasPlan engine aim steps out'
  sent out' taken calm = record {
    same = h.same;
    set = h.set;
    count = h.count;
    events = h.events;
    written = h.written;
    stands = h.stands;
    planned = h.planned;
    taken = h.taken;
    blocks = h.blocks;
    all = h.all;
    safe = h.safe;
    got = taken ∙ h.got;
    calm = calm ∙ h.calm;
  }

  -- or it couldn't be
  pub unsent : (out' : Stream) → out'.taken ≡ out.taken → out.failures < out'.failures
      → BreaksOffInSearch aim steps out' Sink
  unsent out' taken rose = record {
    cause = omega (arith, rose, h.calm);
    part = (h.written, h.safe, taken ∙ h.got);
    calm = tt;
  }

  -- where memory is lacking
  pub broke_now : BreaksOffInSearch aim steps out OutOfMemory
  broke_now = record { cause = tt; part = (h.written, h.safe, h.got); calm = h.calm }

  -- or for one more step
  pub broke_step : (s : Step) → MayStep aim steps s → BreaksOffInSearch aim (s ∷ steps) out OutOfMemory
  broke_step s m = record { cause = tt; part = (h.written, safe_step s m, h.got); calm = h.calm }

  -- a step that gives no result
  pub holds_step : (engine' : Engine A Q C asks) (s : Step) → MayStep aim steps s → SearchesFor engine' aim.query
      → engine'.setup ≡ aim.setup → engine'.files ≡ opened (s ∷ steps)
      → announced (s ∷ steps) ≡ h.taken ++ waiting engine' → IsAfter engine'.sequencer (planned past s)
      → HasPlan engine' aim (s ∷ steps) out
  holds_step engine' s m same set count blocks stands = record {
    same = same;
    set = set;
    count = count;
    events = Planned s ∷ h.events;
    written = h.written;
    stands = stands;
    planned = ap (λ p. s ∷ p) h.planned;
    taken = h.taken;
    blocks = blocks;
    all = h.all;
    safe = safe_step s m;
    got = h.got;
    calm = h.calm;
  }

  -- the next block was announced, and waits
  pub holds_waiting : (engine' : Engine A Q C asks) (b : BlockData) → MayStep aim steps (Announces b)
      → SearchesFor engine' aim.query → engine'.setup ≡ aim.setup → engine'.files ≡ opened steps
      → waiting engine' ≡ waiting engine ++ b ∷ [] → IsAfter engine'.sequencer (planned past (Announces b))
      → HasPlan engine' aim (Announces b ∷ steps) out
  holds_waiting engine' b m same set count more stands =
      holds_step engine' (Announces b) m same set count
      (ap (λ bs. bs ++ b ∷ []) h.blocks
      ∙ (append_assoc h.taken (waiting engine) (b ∷ []) ∙ ap (λ bs. h.taken ++ bs) (sym more))) stands

  -- the result of the block that was announced is taken
  pub is_first : (b : BlockData) → MayStep aim steps (Announces b) → (r : SearchedBlock)
      → r ≡ record { query = aim.query.text; block = b } → answer (planned past (Announces b)) r ≡ Taken
  is_first b m r is =
      let next = planned past (Announces b) in
      let place = (may_past (Announces b) m).0 in
      let known : Contains (announced (plan next)) b = (
        length (announced (plan past)),
        omega (arith, length_push (announced (plan past)) b),
        get_or_at (announced (plan past)) b [] b (length (announced (plan past))) refl,
      ) in
      let shaped = shape_of (terminator aim.query) (plan past) h.stands.lawful in
      let new : is_taken (taken_of aim.query h.events) b ≡ false =
      next_not_taken (terminator aim.query) aim.query h.events b shaped place in
      let F : SearchedBlock → Type 0 = λ x. answer next x ≡ Taken in
      subst F (sym is)
      (first_is_taken next (record { query = aim.query.text; block = b }) (place, shaped) refl known new)

  -- the next block was announced, and its result kept
  pub holds_block : (engine' : Engine A Q C asks) (b : BlockData) (r : SearchedBlock) → MayStep aim steps (Announces b)
      → SearchesFor engine' aim.query → engine'.setup ≡ aim.setup → engine'.files ≡ opened steps
      → waiting engine ≡ [] → waiting engine' ≡ [] → r ≡ record { query = aim.query.text; block = b }
      → IsAfter engine'.sequencer (arrived (planned past (Announces b)) r)
      → HasPlan engine' aim (Announces b ∷ steps) out
  unfolding answer_after
  holds_block engine' b r m same set count none none' is stands =
      let next = planned past (Announces b) in
      let first : answer next r ≡ Taken = is_first b m r is in
      let block : r.block ≡ b = ap (λ x. x.block) is in
      let keys = taken_of aim.query h.events in
      let K : List (ℕ × ℕ) → Type 0 = λ ks. list_all (is_taken ks) (h.taken ++ b ∷ []) ≡ true in
      let own : taken_after (answer next r) r.block keys ≡ (b.file, b.number) ∷ keys =
      ap (λ a. taken_after a r.block keys) first ∙ ap (λ x. (x.file, x.number) ∷ keys) block in
      record {
        same = same;
        set = set;
        count = count;
        events = Arrived r ∷ Planned (Announces b) ∷ h.events;
        written = h.written;
        stands = stands;
        planned = ap (λ p. Announces b ∷ p) h.planned;
        taken = h.taken ++ b ∷ [];
        blocks = ap (λ bs. bs ++ b ∷ []) (all_blocks h none)
            ∙ (sym (append-nil (h.taken ++ b ∷ [])) ∙ ap (λ bs. (h.taken ++ b ∷ []) ++ bs) (sym none'));
        all = subst K (sym own) (all_push keys h.taken b h.all);
        safe = safe_step (Announces b) m;
        got = h.got;
        calm = h.calm;
      }

-- What drains write, and what is answered, where no block waits.
module _ {A Q C : Type 0} {asks : Ghosts Q A C} {engine : Engine A Q C asks} {aim : Aim} {steps : List Step}
    {out : Stream}
    (h : HasPlan engine aim steps out) (none : waiting engine ≡ []) where
  abbrev calm_past : Past
  calm_past = past_of aim.query (format_of aim) h.events h.written

  front_is : front_of calm_past ≡ steps
  unfolding front_after
  front_is =
      let keys = taken_of aim.query h.events in
      let B : List BlockData → Type 0 = λ bs. list_all (is_taken keys) bs ≡ true in
      let P : List Step → Type 0 = λ p. all_taken keys p ≡ true in
      front_all keys (plan calm_past) (subst P (sym h.planned) (subst B (sym (all_blocks h none)) h.all)) ∙ h.planned

  pub handed_is : handed calm_past ≡ output_of aim steps
  unfolding handed_after
  handed_is = ap (λ (p : List Step). output aim.query (format_of aim) (entries_of p)) front_is

  -- a drain that writes all
  pub holds_drained : (engine' : Engine A Q C asks) (text : List ℕ) (out' : Stream)
      → SearchesFor engine' aim.query → engine'.setup ≡ aim.setup → engine'.files ≡ opened steps
      → waiting engine' ≡ [] → out'.taken ≡ out.taken ++ text → out'.failures ≡ out.failures
      → Drained (Ok tt) calm_past text
      → IsAfter engine'.sequencer (drained calm_past text (Ok tt)) → HasPlan engine' aim steps out'
      × AllIsWritten aim steps out'
  holds_drained engine' text out' same set count none' more calm d stands =
      let all : h.written ++ text ≡ output_of aim steps = d.1 ∙ handed_is in
      let got : out'.taken ≡ aim.out.taken ++ (h.written ++ text) =
      more ∙ (ap (λ xs. xs ++ text) h.got ∙ append_assoc aim.out.taken h.written text) in (
        record {
          same = same;
          set = set;
          count = count;
          events = h.events;
          written = h.written ++ text;
          stands = stands;
          planned = h.planned;
          taken = h.taken;
          blocks = h.blocks ∙ ap (λ bs. h.taken ++ bs) (none ∙ sym none');
          all = h.all;
          safe = ([], append-nil (h.written ++ text) ∙ all);
          got = got;
          calm = calm ∙ h.calm;
        },
        got ∙ ap (λ xs. aim.out.taken ++ xs) all,
      )

  -- a drain that fails
  pub broke_drained : (text : List ℕ) (out' : Stream) (fault : SinkFault) → out'.taken ≡ out.taken ++ text
      → Drained (Err fault) calm_past text
      → (IsErrOf {T = Unit {0}} (Err fault) WriteFailed → out.failures < out'.failures)
      → BreaksOffInSearch aim steps out' Sink
  broke_drained text out' WriteFailed more d cause =
      let P : List ℕ → Type 0 = λ xs. IsBeginning (h.written ++ text) xs in
      let rose : out.failures < out'.failures = cause refl in
      record {
        cause = omega (arith, rose, h.calm);
        part = (
          h.written ++ text,
          subst P handed_is d.1,
          more ∙ (ap (λ xs. xs ++ text) h.got ∙ append_assoc aim.out.taken h.written text),
        );
        calm = tt;
      }
  broke_drained text out' Failed more d cause = absurd (false≢true d.0)

  -- What it answers.

  pub enough_is : is_enough aim.query (format_of aim) (entries_of (front_of calm_past))
      ≡ is_enough aim.query (format_of aim) (entries_of steps)
  enough_is = ap (λ (p : List Step). is_enough aim.query (format_of aim) (entries_of p)) front_is

  pub complete_is : is_open steps ≡ false → IsComplete calm_past
  complete_is closed = (ap is_open h.planned ∙ closed, front_is ∙ sym h.planned)

  pub status_is : status_of calm_past ≡ status aim.query (format_of aim) (entries_of steps)
  status_is = ap (λ (p : List Step). status aim.query (format_of aim) (entries_of p)) h.planned

pub some_status : (p : Past) (r : Option ℕ) → IsComplete p
    → MatchOption r (IsComplete p → ⊥) (λ s. IsComplete p × (s ≡ status_of p)) → IsSome r
some_status p None c m = absurd (m c)
some_status p (Some s) c m = refl

-- What holds of the fault with which a call ended.

pub err_by : {T E : Type 0} (r : Result T E) (P : E → Type 0) (e : E) → IsErrAnd r (λ x. x ≡ e) → P e → IfErr r P
err_by (Ok x) P e h p = tt
err_by (Err x) P e h p = subst P (sym h) p

-- what stands at an error, where nothing is said of Ok but by another's fault
pub fails_by : {T E : Type 0} (r : Result T E) (P : T → Type 0) (Q : E → Type 0) {e : E} → IsErrAnd r (λ x. x ≡ e)
    → Q e → MatchResult r P Q
fails_by (Ok x) P Q h q = absurd h
fails_by (Err x) P Q h q = subst Q (sym h) q

pub on_err_of : {T E : Type 0} (r : Result T E) (P : Type 0) → P → OnErr r P
on_err_of (Ok x) P h = tt
on_err_of (Err e) P h = h
