-- What a round leaves an engine with.
use Rattle.std.proofs.Common.{◌≡◌, ◌⊎◌, ℕ, ◌<◌, zero, suc, Bool, true, false, inl, inr, Some, List, [], ◌∷◌, ◌++◌}
use Rattle.std.proofs.Common.{length, map, refl, sym, ap, ◌∙◌, subst, arith, append_assoc}
use Rattle.std.specs.Prelude.{slice_get, slice_index_or, option_map}
use Rattle.std.specs.List.{All, AllByRecursion, Contains, list_all}
use Rattle.std.specs.Arc.{arc_value}
use Rattle.std.specs.declared.sync.Arc.{Arc}
use Rattle.std.proofs.lemmas.Bool.{and_from, and_parts}
use Rattle.std.proofs.lemmas.List.{append-nil}
use Rattle.std.proofs.lemmas.List.Elements.{Contains-append_right}
use Rattle.std.proofs.lemmas.List.Folds.{list_all-append}
use Rattle.std.proofs.lemmas.Option.{slice_get_within, slice_get-map, get_or_from_slice_get}
use Rattle.pg_blocks.specs.Lines.{AreShort}
use Rattle.pg_selection.specs.Search.{SearchText, terminator, terminator_of}
use Rattle.pg_blocks.specs.Blocks.{BlockData}
use Rattle.pg_selection.specs.Searched.{SearchedBlock}
use Rattle.pg_plan.specs.declared.answers.Arrival.{Arrival}
use Rattle.pg_plan.specs.declared.answers.Arrival.TheVariants.{Taken, Double, Stranger}
use Rattle.pg_plan.specs.Plan.{Step, Opens, Announces, Ends, Misses, IsShaped, IsPlan, announced, opened}
use Rattle.pg_plan.specs.History.{Past, Arrived, plan, plan_of, answer_after, arrival, is_taken, taken_of}
use Rattle.pg_plan.specs.History.{taken_after}
use Rattle.pg_plan.proofs.ArrivalLaws.{first_is_taken}
use Rattle.pg_base.specs.Sink.{Stream, IsBeginning}
use Rattle.pg_seq.specs.Standing.{IsAfter}
use Rattle.pg_plan.proofs.BeginLemmas.{shape_of}
use Rattle.pg_run.specs.Outcome.{NoneFailed}
use Rattle.pg_run.specs.Holding.{Aim, HasPlan, AllIsWritten, BreaksOffInSearch, SearchCause, past_of, format_of}
use Rattle.pg_run.specs.Holding.{SearchesFor, output_of, waiting}
use Rattle.pg_workers.specs.Results.{HasResultOf, HasAll}
use Rattle.pg_workers.specs.Searches.{SearchView}
use Rattle.pg_run.specs.Searches.{FindsLines}
use Rattle.pg_round.specs.Receipts.{arrivals, HasRound, WroteSafely, FailedBy, NoOtherFailed}
use Rattle.pg_plan.specs.Drains.{IsSafe}
use Rattle.pg_workers.specs.declared.block_search.BlockSearch.{Ghosts}
use Rattle.pg_run.specs.declared.engine.Engine.{Engine}
use Rattle.pg_run.specs.Faults.{fault_of_round}
use Rattle.pg_round.specs.declared.fault.RoundFault.{RoundFault}
use Rattle.pg_round.specs.declared.fault.RoundFault.TheVariants.{OutOfMemory as NoMemory, Sink as RoundSink}
use Rattle.pg_run.proofs.HoldLemmas.{any_more, handed_is}
use Rattle.pg_rows.proofs.WindowLemmas.{all_push}
use Rattle.pg_seq.proofs.ArriveLemmas.{own_key}
use Rattle.pg_round.proofs.ReceiptLemmas.{plan_kept}

-- A block that was taken stays so.

after_keeps : (a : Arrival) (b : BlockData) (keys : List (ℕ × ℕ)) (c : BlockData) → is_taken keys c ≡ true
    → is_taken (taken_after a b keys) c ≡ true
after_keeps Taken b keys c e = any_more (b.file, b.number) keys c e
after_keeps Double b keys c e = e
after_keeps Stranger b keys c e = e

stays_one : (past : Past) (r : SearchedBlock) (b : BlockData) → is_taken (taken_of past.query past.events) b ≡ true
    → is_taken (taken_of past.query (Arrived r ∷ past.events)) b ≡ true
stays_one past r b e =
    let keys = taken_of past.query past.events in
    after_keeps (arrival past.query (plan_of past.events) keys r) r.block keys b e

pub stays : (past : Past) (rs : List SearchedBlock) (b : BlockData)
    → is_taken (taken_of past.query past.events) b ≡ true
    → is_taken (taken_of past.query (arrivals rs past.events)) b ≡ true
stays past [] b e = e
stays past (r ∷ rs) b e = stays (record past { events = Arrived r ∷ past.events }) rs b (stays_one past r b e)

-- The result of an announced block leaves it taken.

module _ (past : Past) (r : SearchedBlock) (b : BlockData) (shaped : IsShaped (terminator past.query) (plan past))
    (is : r ≡ record { query = past.query.text; block = b }) (known : Contains (announced (plan past)) b) where
  abbrev keys : List (ℕ × ℕ)
  keys = taken_of past.query past.events

  taken_by : (t : Bool) → is_taken keys b ≡ t → is_taken (taken_of past.query (Arrived r ∷ past.events)) b ≡ true
  unfolding answer_after
  taken_by true e = stays_one past r b e
  taken_by false e =
      let block : r.block ≡ b = ap (λ x. x.block) is in
      let K : BlockData → Type 0 = λ x. Contains (announced (plan past)) x in
      let N : BlockData → Type 0 = λ x. is_taken keys x ≡ false in
      let first = first_is_taken past r shaped (ap (λ x. x.query) is) (subst K (sym block) known)
      (subst N (sym block) e) in
      ap (λ a. is_taken (taken_after a r.block keys) b) first
      ∙ (ap (λ x. is_taken ((x.file, x.number) ∷ keys) b) block ∙ own_key keys b)

  pub comes : is_taken (taken_of past.query (Arrived r ∷ past.events)) b ≡ true
  comes = taken_by (is_taken keys b) refl

-- the result of this block is among these
abbrev pub ReadOutcome : SearchText → BlockData → List SearchedBlock → Type 0
ReadOutcome text b [] = ⊥
ReadOutcome text b (r ∷ rs) = (r ≡ record { query = text; block = b }) ⊎ ReadOutcome text b rs

pub all_come : (past : Past) (rs : List SearchedBlock) (b : BlockData) → IsShaped (terminator past.query) (plan past)
    → Contains (announced (plan past)) b → ReadOutcome past.query.text b rs
    → is_taken (taken_of past.query (arrivals rs past.events)) b ≡ true
all_come past [] b shaped known came = absurd came
all_come past (r ∷ rs) b shaped known came =
    let next = record past { events = Arrived r ∷ past.events } in
    elim came [
      | inl is ↦ stays next rs b (comes past r b shaped is known)
      | inr later ↦ all_come next rs b shaped known later
    ]

-- The blocks of a round.
module _ {A : Type 0} where
  contains_at : (blocks : List (Arc BlockData A)) (n : ℕ) (block : Arc BlockData A) → slice_get blocks n ≡ Some block
      → Contains (map arc_value blocks) (arc_value block)
  contains_at blocks n block at =
      let there : slice_get (map arc_value blocks) n ≡ Some (arc_value block) =
      slice_get-map arc_value blocks n ∙ ap (option_map arc_value) at in (
        n,
        slice_get_within (map arc_value blocks) n (arc_value block) there,
        get_or_from_slice_get (map arc_value blocks) n (arc_value block) (arc_value block) there,
      )

  -- what holds of each block of a list that is read by places
  all_at : (f : BlockData → Bool) (blocks : List (Arc BlockData A))
      → ((n : ℕ) (block : Arc BlockData A) → slice_get blocks n ≡ Some block → f (arc_value block) ≡ true)
      → list_all f (map arc_value blocks) ≡ true
  all_at f [] h = refl
  all_at f (block ∷ blocks) h =
      and_from (f (arc_value block)) (list_all f (map arc_value blocks)) (h 0 block refl)
      (all_at f blocks (λ n other at. h (suc n) other at))

module _ {A C : Type 0} {view : SearchView (Arc BlockData A) C SearchedBlock} where
  came_of : (text : SearchText) → FindsLines view text → (blocks : List (Arc BlockData A)) (n : ℕ)
      (block : Arc BlockData A) → slice_get blocks n ≡ Some block → (rs : List SearchedBlock)
      → HasResultOf view.finds blocks n rs → ReadOutcome text (arc_value block) rs
  came_of text finds blocks n block at [] h = absurd h
  came_of text finds blocks n block at (r ∷ rs) h = elim h [
    | inl is ↦
        let same : is.0 ≡ block = some_same (sym is.1 ∙ at) in
        inl (finds.finds is.0 r is.2 ∙ ap (λ x. record { query = text; block = arc_value x }) same)
    | inr later ↦ inr (came_of text finds blocks n block at rs later)
  ]
    where
      some_same : {X : Type 0} {x y : X} → Some x ≡ Some y → x ≡ y
      some_same e = cc

  -- after a round all blocks were taken
  pub all_taken_after : (past : Past) (blocks : List (Arc BlockData A)) (taken : List BlockData)
      (rs : List SearchedBlock)
      → FindsLines view past.query.text → IsShaped (terminator past.query) (plan past) → announced
      (plan past) ≡ taken ++ map arc_value blocks
      → list_all (is_taken (taken_of past.query past.events)) taken ≡ true
      → HasAll view.finds blocks rs
      → list_all (is_taken (taken_of past.query (arrivals rs past.events))) (announced (plan past)) ≡ true
  all_taken_after past blocks taken rs finds shaped split front all =
      let keys = taken_of past.query past.events in
      let later = is_taken (taken_of past.query (arrivals rs past.events)) in
      let known : (block : Arc BlockData A) → Contains (map arc_value blocks) (arc_value block)
      → Contains (announced (plan past)) (arc_value block) =
      λ block c. let C : List BlockData → Type 0 = λ bs. Contains bs (arc_value block) in
      subst C (sym split) (Contains-append_right taken (map arc_value blocks) (arc_value block) c) in
      ap (list_all later) split
      ∙ (list_all-append later taken (map arc_value blocks)
      ∙ and_from (list_all later taken) (list_all later (map arc_value blocks)) (all_stay taken front)
      (all_at later blocks (λ n block at. all_come past rs (arc_value block) shaped
      (known block (contains_at blocks n block at))
      (came_of past.query.text finds blocks n block at rs (all n (slice_get_within blocks n block at))))))
    where
      all_stay : (bs : List BlockData) → list_all (is_taken (taken_of past.query past.events)) bs ≡ true
          → list_all (is_taken (taken_of past.query (arrivals rs past.events))) bs ≡ true
      all_stay [] e = refl
      all_stay (b ∷ bs) e =
          let p = and_parts (is_taken (taken_of past.query past.events) b)
          (list_all (is_taken (taken_of past.query past.events)) bs) e in
          and_from _ _ (stays past rs b p.0) (all_stay bs p.1)

  -- Lines of the blocks of a plan are short.
  short_at : (end : ℕ) (text : SearchText) → terminator_of text ≡ end → (blocks : List (Arc BlockData A))
      → AllByRecursion (λ (b : BlockData). AreShort end b.bytes) (map arc_value blocks)
      → FindsLines view text → AllByRecursion view.may blocks
  short_at end text e [] h finds = tt
  short_at end text e (block ∷ blocks) h finds =
      let S : ℕ → Type 0 = λ x. AreShort x (arc_value block).bytes in
      (finds.may block (subst S (sym e) h.0), short_at end text e blocks h.1 finds)

short_plan : (end : ℕ) (p : List Step) → IsPlan end p
    → AllByRecursion (λ (b : BlockData). AreShort end b.bytes) (announced p)
short_plan end [] h = tt
short_plan end (Opens name ∷ p) h = short_plan end p h.1
short_plan end (Announces b ∷ p) h = all_push (λ (x : BlockData). AreShort end x.bytes) (announced p) b
    (short_plan end p h.1) h.0.1.short
short_plan end (Ends failed ∷ p) h = short_plan end p h.1
short_plan end (Misses name ∷ p) h = short_plan end p h.1

all_later : {X : Type 0} (P : X → Type 0) (xs ys : List X) → AllByRecursion P (xs ++ ys) → AllByRecursion P ys
all_later P [] ys h = h
all_later P (x ∷ xs) ys h = all_later P xs ys h.1

module _ {A Q C : Type 0} {asks : Ghosts Q A C} {engine : Engine A Q C asks} {aim : Aim} {steps : List Step}
    {out : Stream}
    (h : HasPlan engine aim steps out) where
  abbrev past : Past
  past = past_of aim.query (format_of aim) h.events h.written

  abbrev view : SearchView (Arc BlockData A) C SearchedBlock
  view = asks.seen engine.query.now

  pub short_round : All view.may engine.round.items
  short_round =
      let S : List BlockData → Type 0 =
      λ bs. AllByRecursion (λ (b : BlockData). AreShort (terminator aim.query) b.bytes) bs in
      let split : announced (plan past) ≡ h.taken ++ waiting engine = ap announced h.planned ∙ h.blocks in
      let all = subst S split (short_plan (terminator aim.query) (plan past) h.stands.lawful) in
      all_from view.may engine.round.items
      (short_at (terminator aim.query) aim.query.text refl engine.round.items
      (all_later (λ (b : BlockData). AreShort (terminator aim.query) b.bytes) h.taken (waiting engine) all) h.same.0)
    where
      all_from : {X : Type 0} (P : X → Type 0) (xs : List X) → AllByRecursion P xs → (k : ℕ) (d : X) → k < length xs
          → P (slice_index_or xs k d)
      all_from P [] h k d below = absurd (omega arith)
      all_from P (x ∷ xs) h zero d below = h.0
      all_from P (x ∷ xs) h (suc k) d below = all_from P xs h.1 k d (omega arith)

  pub safe_now : IsSafe past past.written
  safe_now =
      let P : List Step → Type 0 = λ p. IsBeginning h.written (output_of aim p) in
      subst P (sym h.planned) h.safe

  safe_out : (text : List ℕ) → IsSafe past (past.written ++ text)
      → IsBeginning (h.written ++ text) (output_of aim steps)
  safe_out text s =
      let P : List Step → Type 0 = λ p. IsBeginning (h.written ++ text) (output_of aim p) in
      subst P h.planned s

  module _ (engine' : Engine A Q C asks) (out' : Stream) (same : SearchesFor engine' aim.query)
      (set : engine'.setup ≡ aim.setup) (count : engine'.files ≡ opened steps) (none : waiting engine' ≡ [])
      (round : HasRound (IsAfter engine'.sequencer) view.finds engine.round.items past out.taken out'.taken)
      (calm : out'.failures ≡ out.failures) where
    abbrev rs : List SearchedBlock
    rs = round.0

    abbrev wrote : List ℕ
    wrote = round.2.0

    got_all : out'.taken ≡ aim.out.taken ++ (h.written ++ wrote)
    got_all = round.2.1.0 ∙ (ap (λ xs. xs ++ wrote) h.got ∙ append_assoc aim.out.taken h.written wrote)

    holds_after : HasPlan engine' aim steps out'
    holds_after =
        let all = all_taken_after past engine.round.items h.taken rs h.same.0
        (shape_of (terminator aim.query) (plan past) h.stands.lawful) (ap announced h.planned ∙ h.blocks) h.all
        round.1 in
        let F : List Step → Type 0 =
        λ p. list_all (is_taken (taken_of aim.query (arrivals rs h.events))) (announced p) ≡ true in
        record {
          same = same;
          set = set;
          count = count;
          events = arrivals rs h.events;
          written = h.written ++ wrote;
          stands = round.2.2;
          planned = plan_kept rs h.events ∙ h.planned;
          taken = announced steps;
          blocks = sym (append-nil (announced steps)) ∙ ap (λ bs. announced steps ++ bs) (sym none);
          all = subst F h.planned all;
          safe = safe_out wrote round.2.1.1;
          got = got_all;
          calm = calm ∙ h.calm;
        }

    pub round_done : HasPlan engine' aim steps out' × AllIsWritten aim steps out'
    unfolding holds_after
    round_done = (
      holds_after,
      got_all ∙ ap (λ xs. aim.out.taken ++ xs) (round.2.3 ∙ handed_is holds_after none),
    )

  -- or failed
  pub round_failed : (out' : Stream) (fault : RoundFault) → WroteSafely past out.taken out'.taken
      → FailedBy fault out out' → NoOtherFailed fault out out'
      → BreaksOffInSearch aim steps out' (fault_of_round fault)
  round_failed out' fault f failed calm = record {
    cause = cause_of fault failed;
    calm = calm_of fault calm;
    part = (
      h.written ++ f.0,
      safe_out f.0 f.1.1,
      f.1.0 ∙ (ap (λ xs. xs ++ f.0) h.got ∙ append_assoc aim.out.taken h.written f.0),
    );
  }
    where
      cause_of : (fault : RoundFault) → FailedBy fault out out' → SearchCause (fault_of_round fault) aim out'
      cause_of NoMemory failed = tt
      cause_of RoundSink failed = omega (arith, failed, h.calm)

      calm_of : (fault : RoundFault) → NoOtherFailed fault out out'
          → NoneFailed (fault_of_round fault) aim.out out'
      calm_of NoMemory calm = calm ∙ h.calm
      calm_of RoundSink calm = tt
