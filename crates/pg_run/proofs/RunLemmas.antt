-- Between files, and a whole run.
use Rattle.std.proofs.Common.{◌≡◌, inl, inr, ℕ, ◌+◌, ◌-◌, ◌≤◌, ◌^◌, Bool, true, false, not, cond, List, [], ◌∷◌}
use Rattle.std.proofs.Common.{◌++◌}
use Rattle.std.proofs.Common.{drop, refl, sym, ap, ◌∙◌, subst, arith, append_assoc}
use Rattle.std.specs.List.{list_any}
use Rattle.std.proofs.lemmas.Bool.{false≢true}
use Rattle.std.proofs.lemmas.List.{append-nil}
use Rattle.pg_selection.specs.Search.{Search, terminator}
use Rattle.pg_blocks.specs.Cutter.{unfed, IsCutterAfter}
use Rattle.pg_base.specs.declared.cause.Cause.{Cause}
use Rattle.pg_base.specs.declared.cause.Cause.TheVariants.{ReadFailed}
use Rattle.pg_rows.specs.declared.format.Format.{Format}
use Rattle.pg_rows.specs.Modes.{is_quiet, rows_in}
use Rattle.pg_rows.proofs.ModeLemmas.{nothing_in}
use Rattle.pg_base.specs.Entries.{Entry, Missed, Read, Running, Ended, Failed, Left}
use Rattle.pg_rows.specs.Output.{output, when, has_selected}
use Rattle.pg_rows.specs.Output.{file_rows, line_rows, part_rows, is_nothing}
use Rattle.pg_rows.specs.Enough.{is_enough, file_suffices}
use Rattle.pg_base.specs.Sink.{Stream, TakesPart, WritesAll, WritesPart}
use Rattle.pg_base.proofs.WriteLemmas.{wrote_none}
use Rattle.pg_plan.specs.Plan.{Step, Opens, Announces, Ends, Misses, IsShaped, is_open, entries_of, with_end}
use Rattle.pg_plan.proofs.BeginLemmas.{begins_trans}
use Rattle.pg_files.specs.Given.{FileOutcome, NoFile, File, FilesPast, entries_given, newest_name, nothing_given}
use Rattle.pg_run.specs.Told.{AddsFailure, faults_of, fault_of, told_of}
use Rattle.pg_base.specs.Causes.{fault_line}
use Rattle.pg_run.specs.Outcome.{AreReadRightly, EndsAtSelected, RunFinishes, BreaksOff, HasCause, GotWholeLines}
use Rattle.pg_run.specs.Holding.{Aim, HasPlan, BreaksOffInSearch, AllIsWritten, IsFinishedRun, IsWrittenFirst}
use Rattle.pg_run.specs.Holding.{format_of, output_of}
use Rattle.pg_run.specs.Cover.{HasOpenFile}
use Rattle.pg_reader.specs.Reads.{IsLost, ending_after}
use Rattle.pg_run.specs.Reading.{IsInsideFile, IsBetweenFiles, AllIsTold, BreaksOffInFile, IsCommonBeginning}
use Rattle.pg_run.specs.Reading.{ReadCause, BreaksOffTold, IsDone, BreaksOffBehind, GaveFile, GaveOneAtMost}
use Rattle.pg_seq.specs.Settled.{AreLeftRightly}
use Rattle.pg_workers.specs.declared.block_search.BlockSearch.{Ghosts}
use Rattle.pg_run.specs.declared.engine.Engine.{Engine}
use Rattle.pg_reader.specs.declared.file_reader.FileReader.{FileReader}
use Rattle.pg_reader.specs.declared.file_reader.ReadOutcome.{ReadOutcome}
use Rattle.pg_reader.specs.declared.file_reader.ReadOutcome.TheVariants.{More}
use Rattle.pg_run.specs.declared.setup.Setup.{Setup}
use Rattle.pg_run.specs.declared.fault.RunFault.{RunFault}
use Rattle.pg_run.specs.declared.fault.RunFault.TheVariants.{OutOfMemory, Sink, TooManyFiles, TooLong}
use Rattle.pg_run.proofs.CoverLemmas.{follows_begins, covers_alike, covers_same, covers_left, later_begins}
use Rattle.pg_run.proofs.GivenLemmas.{newest_told}
use Rattle.pg_run.proofs.StepLemmas.{opens, misses}
use Rattle.pg_run.proofs.HoldLemmas.{room_of, shaped_of}
use Rattle.pg_run.proofs.ReadingLemmas.{safe_by, read_cause, none_at_fault, none_failed, takes_all}

-- What was told.

more_told : (silent : Bool) (given given' : List FileOutcome) (line : List ℕ)
    → faults_of given' ≡ faults_of given ++ line
    → told_of silent given' ≡ told_of silent given ++ when (not silent) line
more_told true given given' line e = refl
more_told false given given' line e = e

-- a text that was told behind what was told of what was given before
pub told_by : (aim : Aim) (given given' : List FileOutcome) (told told' : Stream) (silent : Bool) (line : List ℕ)
    → silent ≡ aim.setup.silent → AllIsTold aim given told → faults_of given' ≡ faults_of given ++ line
    → WritesAll (when (not silent) line) told told' → AllIsTold aim given' told'
told_by aim given given' told told' silent line set t e w =
    let front = told_of aim.setup.silent given in
    let P : Bool → Type 0 = λ s. told'.taken ≡ told.taken ++ when (not s) line in
    record {
      all =
          subst P set w.taken
          ∙ (ap (λ xs. xs ++ when (not aim.setup.silent) line) t.all
          ∙ (append_assoc aim.told.taken front (when (not aim.setup.silent) line)
          ∙ ap (λ xs. aim.told.taken ++ xs) (sym (more_told aim.setup.silent given given' line e))));
      calm = w.no_failure ∙ t.calm;
    }

none_when : (b : Bool) → when b [] ≡ []
none_when true = refl
none_when false = refl

-- nothing is told of a file that goes on or ends
pub told_same : (aim : Aim) (given given' : List FileOutcome) (told : Stream) → AllIsTold aim given told
    → faults_of given' ≡ faults_of given ++ [] → AllIsTold aim given' told
told_same aim given given' told t e =
    let silent = aim.setup.silent in
    told_by aim given given' told told silent [] refl t e
    (subst (λ xs. WritesAll xs told told) (sym (none_when (not silent))) (wrote_none told))

pub told_all : (aim : Aim) (given : List FileOutcome) (told : Stream) → AllIsTold aim given told
    → TakesPart (told_of aim.setup.silent given) aim.told.taken told.taken
told_all aim given told t =
    let text = told_of aim.setup.silent given in
    (text, ([], append-nil text), t.all)

part_told : (aim : Aim) (given given' : List FileOutcome) (told told' : Stream) (silent : Bool) (line : List ℕ)
    → silent ≡ aim.setup.silent → AllIsTold aim given told → faults_of given' ≡ faults_of given ++ line
    → TakesPart (when (not silent) line) told.taken told'.taken
    → TakesPart (told_of aim.setup.silent given') aim.told.taken told'.taken
part_told aim given given' told told' silent line set t e part =
    let front = told_of aim.setup.silent given in
    let P : Bool → Type 0 = λ s. TakesPart (when (not s) line) told.taken told'.taken in
    let p = subst P set part in (
      front ++ p.0,
      (
        p.1.0,
        append_assoc front p.0 p.1.0
            ∙ (ap (λ xs. front ++ xs) p.1.1 ∙ sym (more_told aim.setup.silent given given' line e)),
      ),
      p.2 ∙ (ap (λ xs. xs ++ p.0) t.all ∙ append_assoc aim.told.taken front p.0),
    )

-- what was told of what was given before is a beginning of what is told of more
part_before : (aim : Aim) (given given' : List FileOutcome) (told : Stream) (line : List ℕ) → AllIsTold aim given told
    → faults_of given' ≡ faults_of given ++ line → TakesPart (told_of aim.setup.silent given') aim.told.taken told.taken
part_before aim given given' told line t e =
    part_told aim given given' told told aim.setup.silent line refl t e
    ([], (when (not aim.setup.silent) line, refl), sym (append-nil told.taken))

-- only the newest changed
faults_grow : (given given' : List FileOutcome) → drop 1 given' ≡ given
    → (line : List ℕ) × (faults_of given' ≡ faults_of given ++ line)
faults_grow given [] e = ([], ap (λ gs. faults_of gs ++ []) e)
faults_grow given (g ∷ given') e = (fault_of g, ap (λ gs. faults_of gs ++ fault_of g) e)

-- a file that was left has no line
left_untold : (given given' : List FileOutcome) (name bytes : List ℕ) (earlier : List Entry) → drop 1 given' ≡ given
    → entries_given given' ≡ Read name bytes Left ∷ earlier → faults_of given' ≡ faults_of given
left_untold given given' name bytes earlier before newest =
    newest_told given' name bytes Left earlier newest
    ∙ (append-nil (faults_of (drop 1 given')) ∙ ap faults_of before)

-- a file that was read further, by whether its reading failed
told_read : (given before given' : List FileOutcome) (failed : Bool) → GaveFile given before
    → AddsFailure before given' failed → AddsFailure given given' failed
told_read given before given' failed new e =
    let line = when failed (fault_line (newest_name given') ReadFailed) in
    e ∙ ap (λ xs. xs ++ line) (ap faults_of new.1 ∙ append-nil (faults_of given))

pub told_failed : (given before given' : List FileOutcome) (name' : List ℕ) (failed : Bool) → GaveFile given before
    → AddsFailure before given' failed → failed ≡ true
    → name' ≡ newest_name given' → faults_of given' ≡ faults_of given ++ fault_line name' ReadFailed
told_failed given before given' name' failed new e t named =
    told_read given before given' failed new e
    ∙ (ap (λ b. faults_of given ++ when b (fault_line (newest_name given') ReadFailed)) t
    ∙ ap (λ n. faults_of given ++ fault_line n ReadFailed) (sym named))

pub told_unfailed : (given before given' : List FileOutcome) (failed : Bool) → GaveFile given before
    → AddsFailure before given' failed → failed ≡ false → faults_of given' ≡ faults_of given ++ []
told_unfailed given before given' failed new e t =
    told_read given before given' failed new e
    ∙ ap (λ b. faults_of given ++ when b (fault_line (newest_name given') ReadFailed)) t

-- Why a run breaks off.

stop_cause : (fault : RunFault) (aim : Aim) (given : List FileOutcome) (out told : Stream)
    → ReadCause fault aim given out → HasCause fault aim.query aim.setup given aim.out out aim.told told
stop_cause OutOfMemory aim given out told c = tt
stop_cause Sink aim given out told c = inl c
stop_cause TooManyFiles aim given out told c = c
stop_cause TooLong aim given out told c = c

-- the reading of a file broke off
pub stops_reading : (aim : Aim) (given given' : List FileOutcome) (out told : Stream) (fault : RunFault)
    → BreaksOffInFile aim given' out fault → AllIsTold aim given told → drop 1 given' ≡ given
    → BreaksOffTold aim given' out told fault
stops_reading aim given given' out told fault b t before =
    let grown = faults_grow given given' before in
    record {
      cause = stop_cause fault aim given' out told b.cause;
      written = b.written;
      lines = b.lines;
      faults = part_before aim given given' told grown.0 t grown.1;
      all_told = λ of.
          let file = b.lines of in
          t.all ∙ ap (λ xs. aim.told.taken ++ when (not aim.setup.silent) xs)
          (sym (left_untold given given' file.name (file.front ++ file.rest) file.earlier before file.newest));
      calm = (b.calm, none_failed fault aim.told told t.calm);
    }

-- a line couldn't be told
pub stops_telling : (aim : Aim) (given given' : List FileOutcome) (out told told' : Stream) (silent : Bool)
    (line : List ℕ) → silent ≡ aim.setup.silent → IsCommonBeginning aim given' out.taken → AllIsTold aim given told
    → faults_of given' ≡ faults_of given ++ line → WritesPart (when (not silent) line) told told'
    → BreaksOffTold aim given' out told' Sink
stops_telling aim given given' out told told' silent line set safe t e w = record {
  cause = inr (omega (arith, w.failure, t.calm));
  written = safe;
  lines = λ of. absurd of;
  faults = part_told aim given given' told told' silent line set t e w.part;
  all_told = λ of. absurd of;
  calm = (tt, tt);
}

-- memory is lacking
pub stops_memory : (aim : Aim) (given : List FileOutcome) (out told : Stream) → IsCommonBeginning aim given out.taken
    → out.failures ≡ aim.out.failures → AllIsTold aim given told → BreaksOffTold aim given out told OutOfMemory
stops_memory aim given out told safe calm t = record {
  cause = tt;
  written = safe;
  lines = λ of. absurd of;
  faults = told_all aim given told t;
  all_told = λ of. absurd of;
  calm = (calm, t.calm);
}

-- while no file is open, no file's lines suffice
closed_entries : (aim : Aim) (steps : List Step) → is_open steps ≡ false → IsShaped (terminator aim.query) steps
    → file_suffices aim.query (format_of aim) (entries_of steps) ≡ false
closed_entries aim [] e h = refl
closed_entries aim (Opens name ∷ steps) e h = absurd (false≢true (sym e))
closed_entries aim (Announces b ∷ steps) e h = absurd (false≢true (sym e ∙ h.0.running))
closed_entries aim (Ends failed ∷ steps) e h = ended failed (entries_of steps)
  where
    ended : (failed : Bool) (es : List Entry)
        → file_suffices aim.query (format_of aim) (with_end failed es) ≡ false
    ended failed [] = refl
    ended failed (Missed name ∷ es) = refl
    ended true (Read name bytes ending ∷ es) = refl
    ended false (Read name bytes ending ∷ es) = refl
closed_entries aim (Misses name ∷ steps) e h = refl

-- an open file of which nothing was read gives nothing
no_rows : (q : Search) (format : Format) (name : List ℕ) (earlier : Bool)
    → file_rows q format name [] false earlier ≡ []
unfolding file_rows
no_rows q format name earlier = ap (λ rows. rows_in format.mode rows [] []) (go format.parts) ∙ nothing_in format.mode
  where
    go : (pieces : Bool) → cond pieces (part_rows q format name []) (line_rows q format name [] earlier) ≡ []
    go true = refl
    go false = refl

-- Between files.
module _ {A Q C : Type 0} {asks : Ghosts Q A C} {engine : Engine A Q C asks} {aim : Aim} {given : List FileOutcome}
    {out : Stream} (h : IsBetweenFiles engine aim given out) where
  pub taken_part : TakesPart (output_of aim h.steps) aim.out.taken out.taken
  taken_part = (h.holds.written, h.holds.safe, h.holds.got)

  pub between_safe : IsCommonBeginning aim given out.taken
  between_safe = safe_by aim h.steps given out.taken taken_part (λ files on.
      follows_begins aim.query (format_of aim) (entries_of h.steps) (entries_given given) files (room_of h.holds)
      (inl h.covers) on)

  -- a file was given, and is not opened yet
  pub unopened_safe : (name taken : List ℕ) → TakesPart (output_of aim h.steps) aim.out.taken taken
      → IsCommonBeginning aim (File name [] Left ∷ given) taken
  unopened_safe name taken part =
      let es = entries_of h.steps in
      let more = Read name [] Running ∷ [] in
      let q = aim.query in
      let format = format_of aim in
      safe_by aim h.steps (File name [] Left ∷ given) taken part
      (λ files on.
      begins_trans (output q format es) (output q format (more ++ es)) (output q format files)
      (later_begins q format more es)
      (follows_begins q format (Read name [] Running ∷ es) (entries_given (File name [] Left ∷ given)) files
      (room_of h.holds) (inr (name, [], [], Left, opens q format name es (entries_given given) h.covers)) on))

  -- what was written was sent on
  pub rows_sent : (engine' : Engine A Q C asks) (out' : Stream) → HasPlan engine' aim h.steps out'
      → IsBetweenFiles engine' aim given out'
  rows_sent engine' out' k =
      record { steps = h.steps; holds = k; closed = h.closed; number = h.number; covers = h.covers }

  -- a name was given that gives no file
  pub unmissed_safe : (name : List ℕ) (cause : Cause) (taken : List ℕ)
      → TakesPart (output_of aim h.steps) aim.out.taken taken → IsCommonBeginning aim (NoFile name cause ∷ given) taken
  unmissed_safe name cause taken part =
      safe_by aim h.steps (NoFile name cause ∷ given) taken part
      (λ files on.
      follows_begins aim.query (format_of aim) (Missed name ∷ entries_of h.steps)
      (entries_given (NoFile name cause ∷ given)) files
      (room_of h.holds)
      (inl (misses aim.query (format_of aim) name (entries_of h.steps) (entries_given given) h.covers)) on)

  -- what was written before couldn't be sent on
  pub unsent_breaks : (name : List ℕ) (cause : Cause) (out' : Stream) (fault : RunFault)
      → BreaksOffInSearch aim h.steps out' fault
      → BreaksOffInFile aim (NoFile name cause ∷ given) out' fault
  unsent_breaks name cause out' fault k = record {
    cause = read_cause fault aim (NoFile name cause ∷ given) out' k.cause;
    written = unmissed_safe name cause out'.taken k.part;
    lines = λ of. absurd (none_at_fault fault aim out' k.cause of);
    calm = k.calm;
  }

  -- a name is missed
  pub name_missed : (engine' : Engine A Q C asks) (name : List ℕ) (cause : Cause)
      → HasPlan engine' aim (Misses name ∷ h.steps) out
      → IsBetweenFiles engine' aim (NoFile name cause ∷ given) out
  name_missed engine' name cause k = record {
    steps = Misses name ∷ h.steps;
    holds = k;
    closed = h.closed;
    number = h.number;
    covers = misses aim.query (format_of aim) name (entries_of h.steps) (entries_given given) h.covers;
  }

  -- a file is opened, and the reader begins with a cutter that was made for it
  pub file_opened : (reader : FileReader A) (engine' : Engine A Q C asks) (name : List ℕ) → reader.came ≡ More
      → IsCutterAfter reader.cutter (unfed (terminator aim.query) engine.files aim.setup.block aim.setup.line)
      → HasPlan engine' aim (Opens name ∷ h.steps) out → IsInsideFile reader engine' aim (File name [] Left ∷ given) out
  file_opened reader engine' name more cut k =
      let fed = unfed (terminator aim.query) engine.files aim.setup.block aim.setup.line in
      let R : ReadOutcome → Type 0 =
      λ came. HasOpenFile aim.query (format_of aim) name [] [] (ending_after came) (entries_of (Opens name ∷ h.steps))
      (entries_given (File name [] Left ∷ given)) in
      let L : ReadOutcome → Type 0 =
      λ came. IsLost came (terminator aim.query) aim.setup.line (File name [] Left ∷ given) [] in
      record {
        steps = Opens name ∷ h.steps;
        holds = k;
        cuts = record {
          fed = fed;
          cut = cut;
          ends = refl;
          longest = refl;
          running = refl;
          file = ap (λ n. n + 1) h.holds.count;
          number = ap (λ n. n + 1) h.number;
          last = refl;
          name = name;
          rest = [];
          lost = [];
          whole = refl;
          cause = subst L (sym more) refl;
          reads =
              subst R (sym more) (opens aim.query (format_of aim) name (entries_of h.steps)
              (entries_given given) h.covers);
        };
      }

  unopened_lines : (out' : Stream) (name : List ℕ) → AllIsWritten aim h.steps out'
      → GotWholeLines aim.query (format_of aim) (entries_given (File name [] Left ∷ given)) aim.out out'
  unopened_lines out' name w =
      let q = aim.query in
      let format = format_of aim in
      let before = entries_given given in
      let same = covers_same q format (entries_of h.steps) before (room_of h.holds) h.covers in
      let none = no_rows q format name (not (is_nothing (output q format before))) in
      record {
        name = name;
        front = [];
        rest = [];
        earlier = before;
        newest = refl;
        whole = inl refl;
        written =
            w
            ∙ ap (λ xs. aim.out.taken ++ xs)
            (same.output ∙ sym (ap (λ xs. output q format before ++ xs) none ∙ append-nil (output q format before)));
      }

  -- there is no number for it, and what was read before was searched first
  pub unnumbered : (out' : Stream) (name : List ℕ) (answer : RunFault) → 2 ^ 32 - 1 ≤ engine.files
      → IsWrittenFirst aim h.steps out' TooManyFiles answer → BreaksOffInFile aim (File name [] Left ∷ given) out'
      answer
  unnumbered out' name answer e (inl w) =
      let many : BreaksOffInFile aim (File name [] Left ∷ given) out' TooManyFiles = record {
        cause = omega (arith, e, h.holds.count, h.number);
        written = unopened_safe name out'.taken (takes_all aim h.steps out' w.1);
        lines = λ of. unopened_lines out' name w.1;
        calm = w.2;
      } in
      subst (BreaksOffInFile aim (File name [] Left ∷ given) out') (sym w.0) many
  unnumbered out' name answer e (inr k) = record {
    cause = read_cause answer aim (File name [] Left ∷ given) out' k.cause;
    written = unopened_safe name out'.taken k.part;
    lines = λ of. absurd (none_at_fault answer aim out' k.cause of);
    calm = k.calm;
  }

  -- between files it is enough only with -q and a selected line
  selected_same : list_any (has_selected aim.query) (entries_of h.steps)
      ≡ list_any (has_selected aim.query) (entries_given given)
  selected_same =
      let room = room_of h.holds in
      (covers_alike aim.query (format_of aim) (entries_of h.steps) (entries_given given) room h.covers).selected

  pub between_enough : is_enough aim.query (format_of aim) (entries_of h.steps) ≡ true
      → (is_quiet (format_of aim).mode ≡ true) × (list_any (has_selected aim.query) (entries_given given) ≡ true)
  between_enough e = go (is_quiet (format_of aim).mode) refl e
    where
      go : (b : Bool) → is_quiet (format_of aim).mode ≡ b
          → cond b (list_any (has_selected aim.query) (entries_of h.steps))
          (file_suffices aim.query (format_of aim) (entries_of h.steps)) ≡ true
          → (is_quiet (format_of aim).mode ≡ true) × (list_any (has_selected aim.query) (entries_given given) ≡ true)
      go true m e = (m, sym selected_same ∙ e)
      go false m e =
          absurd (false≢true
          (sym (closed_entries aim h.steps h.closed (shaped_of h.holds)) ∙ e))

  pub between_more : is_enough aim.query (format_of aim) (entries_of h.steps) ≡ false
      → is_quiet (format_of aim).mode ≡ true → list_any (has_selected aim.query) (entries_given given) ≡ false
  between_more n quiet =
      sym selected_same
      ∙ (ap (λ t. cond t (list_any (has_selected aim.query) (entries_of h.steps))
      (file_suffices aim.query (format_of aim) (entries_of h.steps))) (sym quiet)
      ∙ n)

-- a file was opened, by the name that is told of what was given
pub file_started : {A Q C : Type 0} {asks : Ghosts Q A C} {reader : FileReader A} {engine : Engine A Q C asks}
    {aim : Aim} {given : List FileOutcome}
    {out : Stream} (now : List FileOutcome) (name' : List ℕ) → GaveFile given now → name' ≡ newest_name now
    → IsInsideFile reader engine aim (File name' [] Left ∷ given) out → IsInsideFile reader engine aim now out
file_started {reader = reader} {engine = engine} {aim = aim} {given = given} {out = out} now name' new named h =
    let P : List FileOutcome → Type 0 = λ gs. IsInsideFile reader engine aim gs out in
    let same : name' ≡ new.0 = named ∙ ap newest_name new.1 in
    subst P (sym (new.1 ∙ ap (λ n. File n [] Left ∷ given) (sym same))) h

-- no name was asked for behind a selected line
pub ends_at : (aim : Aim) (given before : List FileOutcome) → drop 1 given ≡ before
    → list_any (has_selected aim.query) (entries_given before) ≡ false
    → EndsAtSelected aim.query (entries_given given)
ends_at aim [] before e h = tt
ends_at aim (g ∷ given) before e h = ap (λ gs. list_any (has_selected aim.query) (entries_given gs)) e ∙ h

-- A whole run.

pub between_new : {A Q C : Type 0} {asks : Ghosts Q A C} (engine : Engine A Q C asks) (aim : Aim)
    → HasPlan engine aim [] aim.out
    → IsBetweenFiles engine aim [] aim.out
between_new engine aim h = record { steps = []; holds = h; closed = refl; number = refl; covers = tt }

none_told : (silent : Bool) → told_of silent [] ≡ []
none_told true = refl
none_told false = refl

pub told_new : (aim : Aim) → AllIsTold aim [] aim.told
told_new aim = record {
  all = sym (append-nil aim.told.taken) ∙ ap (λ xs. aim.told.taken ++ xs) (sym (none_told aim.setup.silent));
  calm = refl;
}

-- what was given before the newest was read as far as was needed
left_before : (q : Search) (format : Format) (given : List Entry) → AreLeftRightly q format given
    → AreLeftRightly q format (drop 1 given)
left_before q format [] left = tt
left_before q format (Missed name ∷ given) left = left
left_before q format (Read name bytes Running ∷ given) left = absurd left
left_before q format (Read name bytes Ended ∷ given) left = left
left_before q format (Read name bytes Failed ∷ given) left = left
left_before q format (Read name bytes Left ∷ given) left = left.1

entries_before : (given : List FileOutcome) → drop 1 (entries_given given) ≡ entries_given (drop 1 given)
entries_before [] = refl
entries_before (g ∷ given) = refl

pub rightly_left : (aim : Aim) (given : List FileOutcome)
    → AreLeftRightly aim.query (format_of aim) (entries_given given)
    → AreLeftRightly aim.query (format_of aim) (entries_given (drop 1 given))
rightly_left aim given left =
    let P : List Entry → Type 0 = λ es. AreLeftRightly aim.query (format_of aim) es in
    subst P (entries_before given) (left_before aim.query (format_of aim) (entries_given given) left)

-- files that were all read as far as was needed, and perhaps one more
pub read_rightly : {A Q C : Type 0} {asks : Ghosts Q A C} {engine : Engine A Q C asks} {aim : Aim}
    {given : List FileOutcome} {out : Stream}
    → (b : IsBetweenFiles engine aim given out)
    → (is_quiet (format_of aim).mode ≡ true → EndsAtSelected aim.query (entries_given given))
    → (is_quiet (format_of aim).mode ≡ true → list_any (has_selected aim.query) (entries_given given) ≡ false)
    → (given' : List FileOutcome) → GaveOneAtMost given given' → AreReadRightly aim.query aim.setup given'
read_rightly {aim = aim} {given = given} b quiet none given' (inl e) =
    let left = covers_left aim.query (format_of aim) (entries_of b.steps) (entries_given given) (room_of b.holds)
    b.covers in
    subst (AreReadRightly aim.query aim.setup) (sym e) (record { left = rightly_left aim given left; quiet = quiet })
read_rightly {aim = aim} {given = given} b quiet none given' (inr e) =
    let P : List FileOutcome → Type 0 = λ gs. AreLeftRightly aim.query (format_of aim) (entries_given gs) in
    record {
      left =
          subst P (sym e)
          (covers_left aim.query (format_of aim) (entries_of b.steps) (entries_given given) (room_of b.holds) b.covers);
      quiet = λ q. ends_at aim given' given e (none q);
    }

module _ {A Q C : Type 0} {asks : Ghosts Q A C} {engine : Engine A Q C asks} {aim : Aim}
    {finds : List (List ℕ) → Type 0} {past : FilesPast}
    {out told : Stream} (d : IsDone engine aim finds past out told) where
  pub done_finishes : (out' : Stream) (answer : ℕ) → IsFinishedRun aim d.rests.0.steps out' answer
      → RunFinishes aim.query aim.setup finds past aim.out out' aim.told told answer
  done_finishes out' answer k =
      let b = d.rests.0 in
      let room = room_of b.holds in
      let same = covers_same aim.query (format_of aim) (entries_of b.steps) (entries_given past.given) room b.covers in
      record {
        written = k.written ∙ ap (λ xs. aim.out.taken ++ xs) same.output;
        faults = d.rests.1.all;
        answered = k.answered ∙ same.status;
        asked = d.asked;
        quiet = d.quiet;
        left = covers_left aim.query (format_of aim) (entries_of b.steps) (entries_given past.given) room b.covers;
        no_failure = (k.calm, d.rests.1.calm);
      }

  pub done_breaks : (out' : Stream) (fault : RunFault) → BreaksOffInSearch aim d.rests.0.steps out' fault
      → BreaksOffBehind aim past.given out' told fault
  done_breaks out' fault k =
      let b = d.rests.0 in
      let left = covers_left aim.query (format_of aim) (entries_of b.steps) (entries_given past.given)
      (room_of b.holds) b.covers in (
        record {
          cause = stop_cause fault aim past.given out' told (read_cause fault aim past.given out' k.cause);
          written = safe_by aim b.steps past.given out'.taken k.part (λ files on.
              follows_begins aim.query (format_of aim) (entries_of b.steps) (entries_given past.given) files
              (room_of b.holds) (inl b.covers) on);
          lines = λ of. absurd (none_at_fault fault aim out' k.cause of);
          faults = told_all aim past.given told d.rests.1;
          all_told = λ of. d.rests.1.all;
          calm = (k.calm, none_failed fault aim.told told d.rests.1.calm);
        },
        record { left = rightly_left aim past.given left; quiet = d.quiet },
      )

-- what a run is for
abbrev pub aim_for : Search → Setup → (out told : Stream) → Aim
aim_for q setup out told = record { query = q; setup = setup; out = out; told = told }

-- memory was lacking before anything was asked for or written
pub breaks_first : (q : Search) (setup : Setup) (past : FilesPast) (out told : Stream) → past ≡ nothing_given
    → BreaksOff q setup past.given out out told told OutOfMemory
breaks_first q setup past out told new = (
  record {
    cause = tt;
    written = λ files on. none_taken (output q setup.format files) out.taken;
    lines = λ of. absurd of;
    faults = none_taken (told_of setup.silent past.given) told.taken;
    all_told = λ of. absurd of;
    calm = (refl, refl);
  },
  subst (λ (p : FilesPast). AreReadRightly q setup p.given) (sym new) (record { left = tt; quiet = λ _. tt }),
)
  where
    none_taken : (text before : List ℕ) → TakesPart text before before
    none_taken text before = ([], (text, refl), sym (append-nil before))
