-- Results that were received one after another.
use Rattle.std.proofs.Common.{◌≡◌, ℕ, ◌<◌, List, [], ◌∷◌, ◌++◌, refl, sym, ap, ◌∙◌, subst, append_assoc}
use Rattle.std.proofs.Common.{append-nil, Result, Ok, Err}
use Rattle.pg_selection.specs.Searched.{SearchedBlock}
use Rattle.pg_rows.specs.Output.{output}
use Rattle.pg_base.specs.Sink.{Stream, IsBeginning}
use Rattle.pg_plan.specs.Plan.{Step, entries_of}
use Rattle.pg_plan.specs.History.{Past, Event, Arrived, plan_of, handed, arrived}
use Rattle.pg_board.specs.Merge.{IsMerge}
use Rattle.pg_round.specs.Receipts.{arrivals, received, HasReceived, WroteSafely, HasWritten}
use Rattle.pg_plan.specs.Drains.{IsSafe}
use Rattle.pg_round.specs.Receipts.{HasDelivered, HasRound, TakesResults}
use Rattle.pg_workers.specs.Results.{HasAll}
use Rattle.pg_round.specs.declared.fault.RoundFault.{RoundFault}
use Rattle.pg_round.specs.declared.fault.RoundFault.TheVariants.{OutOfMemory, Sink}

pub plan_kept : (rs : List SearchedBlock) (es : List Event) → plan_of (arrivals rs es) ≡ plan_of es
plan_kept [] es = refl
plan_kept (r ∷ rs) es = plan_kept rs (Arrived r ∷ es)

arrivals_more : (rs ts : List SearchedBlock) (es : List Event) → arrivals ts (arrivals rs es) ≡ arrivals (rs ++ ts) es
arrivals_more [] ts es = refl
arrivals_more (r ∷ rs) ts es = arrivals_more rs ts (Arrived r ∷ es)

-- what may be written depends on the plan alone
abbrev SafeAt : Past → List Step → List ℕ → Type 0
SafeAt past steps written = IsBeginning written (output past.query past.format (entries_of steps))

safe_back : (past : Past) (rs : List SearchedBlock) (text w : List ℕ) → IsSafe (received past rs text) w → IsSafe past w
safe_back past rs text w h = subst (λ (p : List Step). SafeAt past p w) (plan_kept rs past.events) h

safe_on : (past : Past) (rs : List SearchedBlock) (text w : List ℕ) → IsSafe past w → IsSafe (received past rs text) w
safe_on past rs text w h = subst (λ (p : List Step). SafeAt past p w) (sym (plan_kept rs past.events)) h

abbrev at_events : Past → List Event → List ℕ → Past
at_events past es w = record past { events = es; written = w }

-- what holds of a past after two parts holds of it after both
join_parts : (P : Past → Type 0) (past : Past) (rs ts : List SearchedBlock) (t u : List ℕ)
    → P (received (received past rs t) ts u) → P (received past (rs ++ ts) (t ++ u))
join_parts P past rs ts t u h =
    subst (λ (w : List ℕ). P (at_events past (arrivals (rs ++ ts) past.events) w)) (append_assoc past.written t u)
    (subst (λ (e : List Event). P (at_events past e ((past.written ++ t) ++ u))) (arrivals_more rs ts past.events) h)

join_safe : (past : Past) (rs : List SearchedBlock) (t u : List ℕ)
    → IsSafe (received past rs t) ((past.written ++ t) ++ u) → IsSafe past (past.written ++ (t ++ u))
join_safe past rs t u h = subst (λ (w : List ℕ). IsSafe past w) (append_assoc past.written t u)
    (safe_back past rs t ((past.written ++ t) ++ u) h)

join_text : (before between after t u : List ℕ) → between ≡ before ++ t → after ≡ between ++ u
    → after ≡ before ++ (t ++ u)
join_text before between after t u e f = f ∙ ap (λ (l : List ℕ). l ++ u) e ∙ append_assoc before t u

-- what comes of results that were received, and then of what follows from the past after them
module _ (mid : Past → Type 0) (past : Past) (rs : List SearchedBlock) (before between after : List ℕ)
    (first : HasReceived mid rs past before between) where
  abbrev next : Past
  next = received past rs first.0

  fails_then : WroteSafely next between after → WroteSafely past before after
  fails_then h = (
    first.0 ++ h.0,
    (join_text before between after first.0 h.0 first.1.0 h.1.0, join_safe past rs first.0 h.0 h.1.1),
  )

  receives_then : (last : Past → Type 0) (ts : List SearchedBlock) → HasReceived last ts next between after
      → HasReceived last (rs ++ ts) past before after
  receives_then last ts h = (
    first.0 ++ h.0,
    (join_text before between after first.0 h.0 first.1.0 h.1.0, join_safe past rs first.0 h.0 h.1.1),
    join_parts last past rs ts first.0 h.0 h.2,
  )

  writes_then : (last : Past → Type 0) (ts : List SearchedBlock) → HasWritten last ts next between after
      → HasWritten last (rs ++ ts) past before after
  writes_then last ts h = (
    first.0 ++ h.0,
    (join_text before between after first.0 h.0 first.1.0 h.1.0, join_safe past rs first.0 h.0 h.1.1),
    join_parts last past rs ts first.0 h.0 h.2,
    sym (append_assoc past.written first.0 h.0) ∙ h.3
        ∙ ap (λ (es : List Event). handed (at_events past es [])) (arrivals_more rs ts past.events),
  )

-- What results come to that are taken one part after another.
module _ (stands : Past → Type 0) where
  pub takes_none : {T : Type 0} (x : T) (before : Stream)
      → TakesResults (Ok x) stands (HasReceived stands []) before before
  takes_none x before = record {
    calm = refl;
    outcome = λ past st n s. (
      [],
      (sym (append-nil before.taken), subst (λ (w : List ℕ). IsSafe past w) (sym (append-nil past.written)) s),
      subst (λ (w : List ℕ). stands (at_events past past.events w)) (sym (append-nil past.written)) st,
    );
  }

  -- nothing was begun
  pub takes_no_memory : {T : Type 0} (took : Past → List ℕ → List ℕ → Type 0) (before : Stream)
      → TakesResults {T = T} (Err OutOfMemory) stands took before before
  takes_no_memory took before = record {
    calm = refl;
    outcome = λ past st n s. let h = (takes_none {T = Unit {0}} tt before).outcome past st n s in ((h.0, h.1), tt);
  }

  pub takes_value : {T U : Type 0} (x : T) (y : U) (took : Past → List ℕ → List ℕ → Type 0) (before after : Stream)
      → TakesResults (Ok x) stands took before after → TakesResults (Ok y) stands took before after
  takes_value x y took before after h = record { calm = h.calm; outcome = h.outcome }

  -- a result arrives before what it lets be written
  pub takes_arrival : {T : Type 0} (result : Result T RoundFault) (mid last : Past → Type 0) (r : SearchedBlock)
      (before after : Stream) → ((past : Past) → stands past → mid (arrived past r))
      → TakesResults result mid (HasWritten last []) before after
      → TakesResults result stands (HasReceived last (r ∷ [])) before after
  takes_arrival (Ok x) mid last r before after arrives h = record {
    calm = h.calm;
    outcome = λ past st n s. let k = h.outcome (arrived past r) (arrives past st) n s in (k.0, k.1, k.2);
  }
  takes_arrival (Err fault) mid last r before after arrives h = record {
    calm = h.calm;
    outcome = λ past st n s. h.outcome (arrived past r) (arrives past st) n s;
  }

  pub takes_fault : {T U : Type 0} (fault : RoundFault) (took took' : Past → List ℕ → List ℕ → Type 0)
      (before after : Stream) → TakesResults {T = T} (Err fault) stands took before after
      → TakesResults {T = U} (Err fault) stands took' before after
  takes_fault fault took took' before after h = record { calm = h.calm; outcome = h.outcome }

  module _ {T : Type 0} (x : T) (mid : Past → Type 0) (rs : List SearchedBlock) (before between : Stream)
      (first : TakesResults (Ok x) stands (HasReceived mid rs) before between) where
    -- what was received is safe, also where nothing more comes
    pub takes_refused : {U : Type 0} (took : Past → List ℕ → List ℕ → Type 0)
        → TakesResults {T = U} (Err OutOfMemory) stands took before between
    takes_refused took = record {
      calm = first.calm;
      outcome = λ past st n s. let h = first.outcome past st n s in ((h.0, h.1), tt);
    }

    pub takes_then : {U : Type 0} (result : Result U RoundFault) (took' took : Past → List ℕ → List ℕ → Type 0)
        (after : Stream)
        → ((past : Past) (h : HasReceived mid rs past before.taken between.taken)
        → took' (received past rs h.0) between.taken after.taken → took past before.taken after.taken)
        → TakesResults result mid took' between after → TakesResults result stands took before after
    takes_then (Ok y) took' took after join h = record {
      calm = h.calm ∙ first.calm;
      outcome = λ past st n s.
          let f = first.outcome past st n s in
          join past f (h.outcome (received past rs f.0) f.2 n (safe_on past rs f.0 (past.written ++ f.0) f.1.1));
    }
    takes_then (Err OutOfMemory) took' took after join h = record {
      calm = h.calm ∙ first.calm;
      outcome = λ past st n s.
          let f = first.outcome past st n s in
          let k = h.outcome (received past rs f.0) f.2 n (safe_on past rs f.0 (past.written ++ f.0) f.1.1) in
          (fails_then mid past rs before.taken between.taken after.taken f k.0, tt);
    }
    takes_then (Err Sink) took' took after join h = record {
      calm = tt;
      outcome = λ past st n s.
          let f = first.outcome past st n s in
          let k = h.outcome (received past rs f.0) f.2 n (safe_on past rs f.0 (past.written ++ f.0) f.1.1) in (
            fails_then mid past rs before.taken between.taken after.taken f k.0,
            subst (λ (m : ℕ). m < after.failures) first.calm k.1,
          );
    }

    pub takes_more : {U : Type 0} (result : Result U RoundFault) (last : Past → Type 0) (ts all : List SearchedBlock)
        (after : Stream) → all ≡ rs ++ ts → TakesResults result mid (HasReceived last ts) between after
        → TakesResults result stands (HasReceived last all) before after
    takes_more result last ts all after e h =
        takes_then result (HasReceived last ts) (HasReceived last all) after
        (λ past f k. subst (λ (l : List SearchedBlock). HasReceived last l past before.taken after.taken) (sym e)
        (receives_then mid past rs before.taken between.taken after.taken f last ts k)) h

    -- the last drain
    pub takes_delivered : {U : Type 0} (result : Result U RoundFault) (last : Past → Type 0)
        (lists : List (List SearchedBlock)) (taken out : List SearchedBlock) (after : Stream) → out ≡ taken ++ rs
        → IsMerge lists out → TakesResults result mid (HasWritten last []) between after
        → TakesResults result stands (HasDelivered last lists taken) before after
    takes_delivered result last lists taken out after e merge h =
        takes_then result (HasWritten last []) (HasDelivered last lists taken) after
        (λ past f k. (
          rs,
          subst (λ (l : List SearchedBlock). IsMerge lists l) e merge,
          subst (λ (l : List SearchedBlock). HasWritten last l past before.taken after.taken) (append-nil rs)
              (writes_then mid past rs before.taken between.taken after.taken f last [] k),
        )) h

    -- the rest of a round's results
    pub takes_round : {U B : Type 0} (result : Result U RoundFault) (last : Past → Type 0)
        (finds : B → SearchedBlock → Type 0) (blocks : List B) (lists : List (List SearchedBlock))
        (taken : List SearchedBlock)
        (after : Stream)
        → taken ≡ rs → ((all : List SearchedBlock) → IsMerge lists all → HasAll finds blocks all)
        → TakesResults result mid (HasDelivered last lists taken) between after
        → TakesResults result stands (HasRound last finds blocks) before after
    takes_round result last finds blocks lists taken after e all h =
        takes_then result (HasDelivered last lists rs) (HasRound last finds blocks) after
        (λ past f k. (
          rs ++ k.0,
          all (rs ++ k.0) k.1,
          writes_then mid past rs before.taken between.taken after.taken f last k.0 k.2,
        )) (subst (λ (l : List SearchedBlock). TakesResults result mid (HasDelivered last lists l) between after) e h)
