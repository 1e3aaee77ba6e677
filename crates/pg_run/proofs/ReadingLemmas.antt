-- An open file, one call further.
use Rattle.std.proofs.Common.{◌≡◌, ◌⊎◌, inl, inr, ℕ, ◌+◌, ◌≤◌, ◌^◌, Bool, true, false, Some, None}
use Rattle.std.proofs.Common.{Result, Ok, Err}
use Rattle.std.proofs.Common.{List, [], ◌∷◌, ◌++◌, length, drop, refl, sym, ap, ◌∙◌, subst, arith}
use Rattle.std.proofs.Common.{append_assoc, length-append}
use Rattle.std.specs.Result.{IfOk}
use Rattle.std.proofs.lemmas.List.{append-nil}
use Rattle.pg_selection.specs.Search.{terminator}
use Rattle.pg_blocks.specs.Lines.{lines, AreShort, AreWhole}
use Rattle.pg_blocks.specs.Blocks.{BlockData, joined}
use Rattle.pg_blocks.specs.Cutter.{past_handed as handed_out, AreAllBlocks, IsCutterAfter, IsDrained}
use Rattle.pg_blocks.specs.declared.cutter.Cutter.{Cutter}
use Rattle.pg_blocks.specs.declared.cutter.CutFault.{CutFault}
use Rattle.pg_blocks.specs.declared.cutter.CutFault.TheVariants.{OutOfMemory as NoMemory, LineTooLong, FileTooLong}
use Rattle.pg_blocks.proofs.EarlyLemmas.{AllEnd, all_are_cutting}
use Rattle.pg_base.specs.declared.cause.Cause.TheVariants.{ReadFailed}
use Rattle.pg_base.specs.Entries.{Entry, Read, Ending, Running, Left, is_failed, is_running}
use Rattle.pg_rows.specs.Output.{HasRoom, output, when}
use Rattle.pg_rows.specs.Enough.{is_enough}
use Rattle.pg_base.specs.Sink.{Stream, IsBeginning, TakesPart}
use Rattle.pg_base.proofs.SinkLemmas.{takes_longer}
use Rattle.pg_plan.specs.Plan.{Step, Announces, Ends, entries_of}
use Rattle.pg_plan.proofs.CursorLemmas.{joined_push}
use Rattle.pg_files.specs.Given.{FileOutcome, File, FilesPast, entries_given, files_given, newest_name}
use Rattle.pg_run.specs.Told.{AddsFailure, faults_of}
use Rattle.pg_base.specs.Causes.{fault_line}
use Rattle.pg_run.specs.Faults.{fault_of_cut}
use Rattle.pg_run.specs.Outcome.{IsContinuation, GotWholeLines, IsOfAFile, NoneFailed}
use Rattle.pg_run.specs.Cover.{is_left, HasOpenFile}
use Rattle.pg_run.specs.Holding.{Aim, HasPlan, MayStep, BreaksOffInSearch, SearchCause, AllIsWritten, IsWrittenFirst}
use Rattle.pg_run.specs.Holding.{format_of, output_of}
use Rattle.pg_reader.specs.Reads.{CutCause, FedMore, HasFed, HasReadOn, IsLost, ending_after}
use Rattle.pg_run.specs.Reading.{IsInsideFile, HasCut, MayEndFile, IsBetweenFiles, BreaksOffInFile}
use Rattle.pg_run.specs.Reading.{IsCommonBeginning, ReadCause, ending_of}
use Rattle.pg_workers.specs.declared.block_search.BlockSearch.{Ghosts}
use Rattle.pg_run.specs.declared.engine.Engine.{Engine}
use Rattle.pg_reader.specs.declared.file_reader.FileReader.{FileReader}
use Rattle.pg_reader.specs.declared.file_reader.ReadOutcome.{ReadOutcome}
use Rattle.pg_reader.specs.declared.file_reader.ReadOutcome.TheVariants.{More, End, Failure, Refused}
use Rattle.pg_run.specs.declared.fault.RunFault.{RunFault}
use Rattle.pg_run.specs.declared.fault.RunFault.TheVariants.{OutOfMemory, Sink, TooManyFiles, TooLong}
use Rattle.pg_seq.proofs.LongerLemmas.{alike_more}
use Rattle.pg_run.proofs.CoverLemmas.{follows_begins, covers_alike}
use Rattle.pg_reader.proofs.ReadLemmas.{stands_by}
use Rattle.pg_run.proofs.GivenLemmas.{newest_entry, newest_file, newest_told, same_bytes}
use Rattle.pg_run.proofs.StepLemmas.{reads, leaves, announces, ends, closed_left, left_whole}
use Rattle.pg_run.proofs.HoldLemmas.{room_of}
use Rattle.pg_run.proofs.BlockLemmas.{Gives, GivesLines, given_end, gives_last, numbered_last, short_part}

-- What was written is safe.

same_behind : (xs ys zs : List ℕ) → xs ++ ys ≡ xs ++ zs → ys ≡ zs
same_behind [] ys zs e = e
same_behind (x ∷ xs) ys zs e = same_behind xs ys zs (ap (λ l. drop 1 l) e)

pub safe_by : (aim : Aim) (steps : List Step) (given : List FileOutcome) (taken : List ℕ)
    → TakesPart (output_of aim steps) aim.out.taken taken
    → ((files : List Entry) → IsContinuation (entries_given given) files
    → IsBeginning (output_of aim steps) (output aim.query (format_of aim) files)) → IsCommonBeginning aim given taken
safe_by aim steps given taken part f = λ files on.
    takes_longer (output_of aim steps) (output aim.query (format_of aim) files) aim.out.taken taken part (f files on)

pub read_cause : (fault : RunFault) (aim : Aim) (given : List FileOutcome) (out : Stream) → SearchCause fault aim out
    → ReadCause fault aim given out
read_cause OutOfMemory aim given out c = tt
read_cause Sink aim given out c = c
read_cause TooManyFiles aim given out c = absurd c
read_cause TooLong aim given out c = absurd c

-- no write failed
pub none_failed : (fault : RunFault) (before after : Stream) → after.failures ≡ before.failures
    → NoneFailed fault before after
none_failed OutOfMemory before after e = e
none_failed Sink before after e = tt
none_failed TooManyFiles before after e = e
none_failed TooLong before after e = e

-- a search that breaks off is no file's fault
pub none_at_fault : (fault : RunFault) (aim : Aim) (out : Stream) → SearchCause fault aim out → IsOfAFile fault → ⊥
none_at_fault OutOfMemory aim out c f = f
none_at_fault Sink aim out c f = f
none_at_fault TooManyFiles aim out c f = c
none_at_fault TooLong aim out c f = c

pub takes_all : (aim : Aim) (steps : List Step) (out : Stream) → AllIsWritten aim steps out
    → TakesPart (output_of aim steps) aim.out.taken out.taken
takes_all aim steps out e = (output_of aim steps, ([], append-nil (output_of aim steps)), e)

-- all of the plan was written, whose open file was left
left_lines : (aim : Aim) (steps : List Step) (given : List FileOutcome) (name front rest : List ℕ)
    → HasRoom (format_of aim)
    → HasOpenFile aim.query (format_of aim) name front rest Left (entries_of steps) (entries_given given)
    → (out : Stream) → AllIsWritten aim steps out
    → GotWholeLines aim.query (format_of aim) (entries_given given) aim.out out
left_lines aim steps given name front rest room r out e =
    let q = aim.query in
    let format = format_of aim in
    let file = Read name front Running in
    let like =
    alike_more q format file file r.earlier r.before refl (covers_alike q format r.earlier r.before room r.covers) in
    record {
      name = name;
      front = front;
      rest = rest;
      earlier = r.before;
      newest = r.given_is;
      whole = left_whole q format name front rest (entries_of steps) (entries_given given) r;
      written = e ∙ ap (λ xs. aim.out.taken ++ xs) (ap (output q format) r.planned_is ∙ like.output);
    }

-- What was read and not cut.

-- a file that can't go on was cut whole
none_lost : (came : ReadOutcome) (failed : Bool) (end longest : ℕ) (given : List FileOutcome) (lost : List ℕ)
    → ending_after came ≡ ending_of failed → IsLost came end longest given lost → lost ≡ []
none_lost More failed end longest given lost e h = h
none_lost End failed end longest given lost e h = h
none_lost Failure failed end longest given lost e h = h
none_lost (Refused fault) true end longest given lost e h = absurd (cc)
none_lost (Refused fault) false end longest given lost e h = absurd (cc)

-- after a read a file isn't `Running`, as a plan's is
none_runs : (came : ReadOutcome) → is_running (ending_after came) ≡ false
none_runs More = refl
none_runs End = refl
none_runs Failure = refl
none_runs (Refused fault) = refl

cut_cause : (cut : CutFault) (aim : Aim) (given : List FileOutcome) (out : Stream)
    → CutCause cut (terminator aim.query) aim.setup.line given → ReadCause (fault_of_cut cut) aim given out
cut_cause NoMemory aim given out c = tt
cut_cause LineTooLong aim given out c = c
cut_cause FileTooLong aim given out c = c

pub drained_by : {A : Type 0} {cutter cutter' : Cutter A} → cutter' ≡ cutter → IsDrained cutter → IsDrained cutter'
drained_by {A = A} e h = let D : Cutter A → Type 0 = λ c. IsDrained c in subst D (sym e) h

-- An open file.
module _ {A : Type 0} {reader : FileReader A} {aim : Aim} {given : List FileOutcome} {steps : List Step}
    (h : HasCut reader aim given steps) where
  abbrev end_of : ℕ
  end_of = terminator aim.query

  abbrev ending : Ending
  ending = ending_after reader.came

  -- what stands behind the next block, in what was read
  abbrev behind : List ℕ → List ℕ
  behind more = more ++ h.lost

  follows_block : (b : BlockData) (more : List ℕ) → Gives h.fed b more → h.rest ≡ b.bytes ++ behind more
  follows_block b more g =
      same_behind (joined h.fed.taken) h.rest (b.bytes ++ behind more)
      (sym h.whole
      ∙ (ap (λ xs. xs ++ h.lost) g.whole
      ∙ (append_assoc (joined h.fed.taken) (b.bytes ++ more) h.lost
      ∙ ap (λ xs. joined h.fed.taken ++ xs) (append_assoc b.bytes more h.lost))))

  may_block : (b : BlockData) (more : List ℕ) → Gives h.fed b more → MayStep aim steps (Announces b)
  may_block b more g =
      let n = numbered_last h.fed.file 0 h.fed.taken b g.numbered in
      let S : List BlockData → Type 0 = λ bs. AllEnd end_of bs in
      let W : List BlockData → Type 0 = λ bs. length (joined bs) + length b.bytes ≤ 2 ^ 62 in
      let E : ℕ → Type 0 = λ e. AreShort e b.bytes in
      let total = ap length g.whole in
      let few : h.fed.longest ≤ 2 ^ 30 = omega (arith, h.longest, aim.setup.line_in_range.1) in (
        record {
          running = h.running;
          file = omega (arith, n.0, h.file);
          number = omega (arith, n.1, ap length h.last);
          some = g.some;
          seam = subst S (sym h.last) (given_end reader.cutter h.fed end_of h.cut h.ends);
        },
        record {
          short = subst E h.ends (short_part reader.cutter h.fed b more h.cut few g);
          small = subst W (sym h.last) (omega (
            arith,
            h.cut.total,
            reader.cutter.few,
            total,
            length-append (joined h.fed.taken) (b.bytes ++ more),
            length-append b.bytes more,
          ));
        },
      )

  -- whole lines, or all that is left once the file can't go on
  abbrev Seam : List ℕ → List ℕ → Type 0
  Seam bytes more = AreWhole end_of bytes ⊎ ((more ≡ []) × (is_left ending ≡ false))

  reads_block : (b : BlockData) (more : List ℕ) → Gives h.fed b more → Seam b.bytes (behind more)
      → HasOpenFile aim.query (format_of aim) h.name (joined h.fed.taken ++ b.bytes) (behind more) ending
      (entries_of (Announces b ∷ steps)) (entries_given given)
  reads_block b more g s =
      let R : List ℕ → Type 0 =
      λ rest. HasOpenFile aim.query (format_of aim) h.name (joined h.fed.taken) rest ending (entries_of steps)
      (entries_given given) in
      announces aim.query (format_of aim) h.name (joined h.fed.taken) b.bytes (behind more) ending (entries_of steps)
      (entries_given given) s (subst R (follows_block b more g) h.reads)

  -- A block that the cutter gives.

  whole_lines : (b : BlockData) → GivesLines h.fed b → AreWhole end_of b.bytes
  whole_lines b g = let W : ℕ → Type 0 = λ e. AreWhole e b.bytes in subst W h.ends g.2

  pub next_may : (b : BlockData) → GivesLines h.fed b → MayStep aim steps (Announces b)
  next_may b g = may_block b g.0 g.1

  -- the plan has it
  pub next_taken : (reader' : FileReader A) (b : BlockData) (early : List BlockData) → reader'.came ≡ reader.came
      → GivesLines h.fed b
      → IsCutterAfter reader'.cutter (record h.fed { taken = h.fed.taken ++ b ∷ []; early = early })
      → HasCut reader' aim given (Announces b ∷ steps)
  next_taken reader' b early same g cut =
      let R : List ℕ → ReadOutcome → Type 0 =
      λ front came. HasOpenFile aim.query (format_of aim) h.name front (behind g.0) (ending_after came)
      (entries_of (Announces b ∷ steps)) (entries_given given) in
      let L : ReadOutcome → Type 0 = λ came. IsLost came end_of aim.setup.line given h.lost in
      record {
        fed = record h.fed { taken = h.fed.taken ++ b ∷ []; early = early };
        cut = cut;
        ends = h.ends;
        longest = h.longest;
        running = h.running;
        file = h.file;
        number = h.number;
        last = ap (λ bs. bs ++ b ∷ []) h.last;
        name = h.name;
        rest = behind g.0;
        lost = h.lost;
        whole =
            h.whole
            ∙ (ap (λ xs. joined h.fed.taken ++ xs) (follows_block b g.0 g.1)
            ∙ (sym (append_assoc (joined h.fed.taken) b.bytes (behind g.0))
            ∙ ap (λ xs. xs ++ behind g.0) (sym (joined_push h.fed.taken b))));
        cause = subst L (sym same) h.cause;
        reads =
            subst (λ front. R front reader'.came) (sym (joined_push h.fed.taken b))
            (subst (R (joined h.fed.taken ++ b.bytes)) (sym same) (reads_block b g.0 g.1 (inl (whole_lines b g))));
      }

  -- more was read, or the file can't go on, and no block was taken
  same_taken : (reader' : FileReader A) (given' : List FileOutcome) (bytes rest lost : List ℕ)
      → IsCutterAfter reader'.cutter (record h.fed { bytes = bytes }) → files_given given' ≡ files_given given
      → bytes ++ lost ≡ joined h.fed.taken ++ rest → IsLost reader'.came end_of aim.setup.line given' lost
      → HasOpenFile aim.query (format_of aim) h.name (joined h.fed.taken) rest (ending_after reader'.came)
      (entries_of steps) (entries_given given')
      → HasCut reader' aim given' steps
  same_taken reader' given' bytes rest lost cut number whole cause reads = record {
    fed = record h.fed { bytes = bytes };
    cut = cut;
    ends = h.ends;
    longest = h.longest;
    running = h.running;
    file = h.file;
    number = h.number ∙ sym number;
    last = h.last;
    name = h.name;
    rest = rest;
    lost = lost;
    whole = whole;
    cause = cause;
    reads = reads;
  }

  pub none_taken : (reader' : FileReader A) → reader'.came ≡ reader.came
      → IsCutterAfter reader'.cutter (handed_out h.fed None) → HasCut reader' aim given steps
  none_taken reader' same cut =
      let F : List BlockData → Type 0 = λ bs. IsCutterAfter reader'.cutter (record h.fed { taken = bs }) in
      let R : ReadOutcome → Type 0 =
      λ came. HasOpenFile aim.query (format_of aim) h.name (joined h.fed.taken) h.rest (ending_after came)
      (entries_of steps) (entries_given given) in
      let L : ReadOutcome → Type 0 = λ came. IsLost came end_of aim.setup.line given h.lost in
      same_taken reader' given h.fed.bytes h.rest h.lost (subst F (append-nil h.fed.taken) cut) refl h.whole
      (subst L (sym same) h.cause) (subst R (sym same) h.reads)

  -- nothing was read or taken
  pub recut_by : (reader' : FileReader A) → IsCutterAfter reader'.cutter h.fed → reader'.came ≡ reader.came
      → HasCut reader' aim given steps
  recut_by reader' stands came =
      let F : List BlockData → Type 0 = λ bs. IsCutterAfter reader'.cutter (record h.fed { taken = bs }) in
      none_taken reader' came (subst F (sym (append-nil h.fed.taken)) stands)

  pub recut : (reader' : FileReader A) → reader'.cutter ≡ reader.cutter → reader'.came ≡ reader.came
      → HasCut reader' aim given steps
  recut reader' cutter came = recut_by reader' (stands_by h.fed cutter h.cut) came

  -- The last block.

  pub last_may : (b : BlockData) → AreAllBlocks (handed_out h.fed (Some b)) → MayStep aim steps (Announces b)
  last_may b all = may_block b [] (gives_last h.fed b all)

  -- what was told of the file, by how it stands
  pub told_of_file : faults_of given
      ≡ faults_of (drop 1 given) ++ when (is_failed ending) (fault_line (newest_name given) ReadFailed)
  told_of_file = newest_told given h.name (joined h.fed.taken ++ h.rest) ending h.reads.before h.reads.given_is

-- The same, and the engine has the blocks that were taken.
module _ {A Q C : Type 0} {asks : Ghosts Q A C} {reader : FileReader A} {engine : Engine A Q C asks} {aim : Aim}
    {given : List FileOutcome} {out : Stream}
    (h : IsInsideFile reader engine aim given out) where
  breaks_block : (b : BlockData) (more : List ℕ) (out' : Stream) (fault : RunFault) → Gives h.cuts.fed b more
      → Seam h.cuts b.bytes (behind h.cuts more) → BreaksOffInSearch aim (Announces b ∷ h.steps) out' fault
      → BreaksOffInFile aim given out' fault
  breaks_block b more out' fault g s k = record {
    cause = read_cause fault aim given out' k.cause;
    written = safe_by aim (Announces b ∷ h.steps) given out'.taken k.part (λ files on.
        follows_begins aim.query (format_of aim) (entries_of (Announces b ∷ h.steps)) (entries_given given) files
        (room_of h.holds)
        (inr (
          h.cuts.name,
          joined h.cuts.fed.taken ++ b.bytes,
          behind h.cuts more,
          ending h.cuts,
          reads_block h.cuts b more g s,
        )) on);
    lines = λ of. absurd (none_at_fault fault aim out' k.cause of);
    calm = k.calm;
  }

  -- what was written is a beginning, whatever the reader reads on
  begins_still : (reader' : FileReader A) (given' : List FileOutcome) (out' : Stream)
      → HasCut reader' aim given' h.steps
      → TakesPart (output_of aim h.steps) aim.out.taken out'.taken → IsCommonBeginning aim given' out'.taken
  begins_still reader' given' out' c part = safe_by aim h.steps given' out'.taken part (λ files on.
      follows_begins aim.query (format_of aim) (entries_of h.steps) (entries_given given') files (room_of h.holds)
      (inr (c.name, joined c.fed.taken, c.rest, ending c, c.reads)) on)

  -- A round was searched, beside which the file may have been read on.

  pub rest_breaks : (reader' : FileReader A) (given' : List FileOutcome) (out' : Stream) (fault : RunFault)
      → HasCut reader' aim given' h.steps → BreaksOffInSearch aim h.steps out' fault
      → BreaksOffInFile aim given' out' fault
  rest_breaks reader' given' out' fault c k = record {
    cause = read_cause fault aim given' out' k.cause;
    written = begins_still reader' given' out' c k.part;
    lines = λ of. absurd (none_at_fault fault aim out' k.cause of);
    calm = k.calm;
  }

  -- The next block.

  pub next_breaks : (b : BlockData) (out' : Stream) (fault : RunFault) → GivesLines h.cuts.fed b
      → BreaksOffInSearch aim (Announces b ∷ h.steps) out' fault → BreaksOffInFile aim given out' fault
  next_breaks b out' fault g k = breaks_block b g.0 out' fault g.1 (inl (whole_lines h.cuts b g)) k

  -- The last block.

  abbrev IsAtEnd : Bool → Type 0
  IsAtEnd failed = ending h.cuts ≡ ending_of failed

  none_behind : (failed : Bool) → IsAtEnd failed → behind h.cuts [] ≡ []
  none_behind failed e =
      none_lost reader.came failed (terminator aim.query) aim.setup.line given h.cuts.lost e h.cuts.cause

  last_seam : (b : BlockData) (failed : Bool) → IsAtEnd failed → Seam h.cuts b.bytes (behind h.cuts [])
  last_seam b failed e = inr (none_behind failed e, ap is_left e ∙ closed_left failed)

  pub last_breaks : (b : BlockData) (out' : Stream) (fault : RunFault) (failed : Bool) → IsAtEnd failed
      → AreAllBlocks (handed_out h.cuts.fed (Some b)) → BreaksOffInSearch aim (Announces b ∷ h.steps) out' fault
      → BreaksOffInFile aim given out' fault
  last_breaks b out' fault failed e all k =
      breaks_block b [] out' fault (gives_last h.cuts.fed b all) (last_seam b failed e) k

  pub last_searched : (engine' : Engine A Q C asks) (b : BlockData) (out' : Stream) (failed : Bool) → IsAtEnd failed
      → AreAllBlocks (handed_out h.cuts.fed (Some b)) → HasPlan engine' aim (Announces b ∷ h.steps) out'
      → MayEndFile engine' aim failed given out'
  last_searched engine' b out' failed e all k =
      let front = joined h.cuts.fed.taken ++ b.bytes in
      let R : List ℕ → Ending → Type 0 =
      λ rest stands. HasOpenFile aim.query (format_of aim) h.cuts.name front rest stands
      (entries_of (Announces b ∷ h.steps)) (entries_given given) in
      record {
        steps = Announces b ∷ h.steps;
        holds = k;
        running = h.cuts.running;
        number = h.cuts.number;
        covers =
            ends aim.query (format_of aim) h.cuts.name front failed (entries_of (Announces b ∷ h.steps))
            (entries_given given)
            (subst (R []) e
            (subst (λ rest. R rest (ending h.cuts)) (none_behind failed e)
            (reads_block h.cuts b [] (gives_last h.cuts.fed b all) (last_seam b failed e))));
      }

  pub none_last : (failed : Bool) → IsAtEnd failed → AreAllBlocks (handed_out h.cuts.fed None)
      → MayEndFile engine aim failed given out
  none_last failed e all =
      let c = h.cuts in
      let f = c.fed in
      let cutting = all_are_cutting (handed_out f None) all in
      let same : f.bytes ≡ joined f.taken ++ [] =
      sym cutting.whole ∙ (ap joined (append-nil f.taken) ∙ sym (append-nil (joined f.taken))) in
      let cut_whole : f.bytes ≡ joined f.taken ++ c.rest =
      sym (append-nil f.bytes) ∙ (ap (λ xs. f.bytes ++ xs) (sym (none_behind failed e)) ∙ c.whole) in
      let none : c.rest ≡ [] = same_behind (joined f.taken) c.rest [] (sym cut_whole ∙ same) in
      let R : List ℕ → Ending → Type 0 =
      λ rest stands. HasOpenFile aim.query (format_of aim) c.name (joined f.taken) rest stands (entries_of h.steps)
      (entries_given given) in
      record {
        steps = h.steps;
        holds = h.holds;
        running = c.running;
        number = c.number;
        covers =
            ends aim.query (format_of aim) c.name (joined f.taken) failed (entries_of h.steps) (entries_given given)
            (subst (R []) e (subst (λ rest. R rest (ending c)) none c.reads));
      }

  -- the cutter took no more
  refused_breaks : (out' : Stream) (cut : CutFault) → reader.came ≡ Refused cut → AllIsWritten aim h.steps out'
      → out'.failures ≡ aim.out.failures → BreaksOffInFile aim given out' (fault_of_cut cut)
  refused_breaks out' cut e w calm =
      let c = h.cuts in
      let L : ReadOutcome → Type 0 = λ came. IsLost came (terminator aim.query) aim.setup.line given c.lost in
      let R : ReadOutcome → Type 0 =
      λ came. HasOpenFile aim.query (format_of aim) c.name (joined c.fed.taken) c.rest (ending_after came)
      (entries_of h.steps) (entries_given given) in
      record {
        cause = cut_cause cut aim given out' (subst L e c.cause);
        written = begins_still reader given out' c (takes_all aim h.steps out' w);
        lines = λ of.
            left_lines aim h.steps given c.name (joined c.fed.taken) c.rest (room_of h.holds)
            (subst R e c.reads) out' w;
        calm = none_failed (fault_of_cut cut) aim.out out' calm;
      }

  -- what was cut was searched first
  pub refused_last : (out' : Stream) (cut : CutFault) (fault answer : RunFault) → reader.came ≡ Refused cut
      → fault ≡ fault_of_cut cut → IsWrittenFirst aim h.steps out' fault answer → BreaksOffInFile aim given out' answer
  refused_last out' cut fault answer e is (inl w) =
      subst (BreaksOffInFile aim given out') (sym (w.0 ∙ is)) (refused_breaks out' cut e w.1 w.2)
  refused_last out' cut fault answer e is (inr k) = rest_breaks reader given out' answer h.cuts k

-- A file that may be read further.
module _ {A : Type 0} {reader : FileReader A} {aim : Aim} {given : List FileOutcome} {steps : List Step}
    (h : HasCut reader aim given steps) (more : reader.came ≡ More) where
  open_yet : HasOpenFile aim.query (format_of aim) h.name (joined h.fed.taken) h.rest Left (entries_of steps)
      (entries_given given)
  open_yet =
      let R : ReadOutcome → Type 0 =
      λ came. HasOpenFile aim.query (format_of aim) h.name (joined h.fed.taken) h.rest (ending_after came)
      (entries_of steps) (entries_given given) in
      subst R more h.reads

  cut_whole : h.fed.bytes ≡ joined h.fed.taken ++ h.rest
  cut_whole =
      let L : ReadOutcome → Type 0 = λ came. IsLost came (terminator aim.query) aim.setup.line given h.lost in
      let none : h.lost ≡ [] = subst L more h.cause in
      sym (append-nil h.fed.bytes) ∙ (ap (λ xs. h.fed.bytes ++ xs) (sym none) ∙ h.whole)

-- its cutter was fed all that was read but what was lost
pub has_fed : {A : Type 0} {reader : FileReader A} {aim : Aim} {given : List FileOutcome} {steps : List Step}
    (h : HasCut reader aim given steps) → HasFed reader h.fed h.lost given
has_fed {reader = reader} {aim = aim} {given = given} h =
    let ending = ending_after reader.came in
    let L : ℕ → ℕ → Type 0 = λ end longest. IsLost reader.came end longest given h.lost in
    record {
      cut = h.cut;
      newest =
          newest_file given h.name (joined h.fed.taken ++ h.rest) ending h.reads.before h.reads.given_is
          ∙ ap (λ xs. File (newest_name given) xs ending ∷ drop 1 given) (sym h.whole);
      cause =
          subst (λ end. L end h.fed.longest) (sym h.ends)
          (subst (L (terminator aim.query)) (sym h.longest) h.cause);
    }

-- The reader read on, and no block was taken.
module _ {A : Type 0} {reader reader' : FileReader A} {aim : Aim} {given given' : List FileOutcome} {steps : List Step}
    (h : HasCut reader aim given steps) (on : FedMore reader h.fed given reader' given')
    (before : drop 1 given' ≡ drop 1 given) where
  abbrev all_read : List ℕ
  all_read = (h.fed.bytes ++ on.more) ++ on.lost

  abbrev OpenBy : List ℕ → ReadOutcome → List Entry → Type 0
  OpenBy rest came es =
      HasOpenFile aim.query (format_of aim) h.name (joined h.fed.taken) rest (ending_after came) (entries_of steps) es

  given_on : given' ≡ File (newest_name given) all_read (ending_after reader'.came) ∷ drop 1 given
  given_on =
      on.feeds.newest
      ∙ (ap (λ n. File n all_read (ending_after reader'.came) ∷ drop 1 given') on.name
      ∙ ap (λ gs. File (newest_name given) all_read (ending_after reader'.came) ∷ gs) before)

  cause_on : IsLost reader'.came (terminator aim.query) aim.setup.line given' on.lost
  cause_on =
      let L : ℕ → ℕ → Type 0 = λ end longest. IsLost reader'.came end longest given' on.lost in
      subst (λ end. L end aim.setup.line) h.ends (subst (L h.fed.end) h.longest on.feeds.cause)

  -- bytes behind those that were read
  more_cut : reader.came ≡ More → HasCut reader' aim given' steps
  more_cut more =
      let piece = on.more ++ on.lost in
      let front = joined h.fed.taken in
      let stands = ending_after reader'.came in
      let yet = open_yet h more in
      let was = newest_entry given h.name (front ++ h.rest) Left yet.before yet.given_is in
      let read : all_read ≡ (front ++ h.rest) ++ piece =
      append_assoc h.fed.bytes on.more on.lost ∙ ap (λ xs. xs ++ piece) (cut_whole h more) in
      same_taken h reader' given' (h.fed.bytes ++ on.more) (h.rest ++ piece) on.lost on.feeds.cut
      (ap files_given given_on ∙ sym (ap files_given (has_fed h).newest))
      (read ∙ append_assoc front h.rest piece) cause_on
      (reads aim.query (format_of aim) h.name front h.rest (entries_of steps) (entries_given given) piece stands
      (entries_given given') (none_runs reader'.came) yet
      (ap entries_given given_on
      ∙ (ap (λ n. Read n all_read stands ∷ entries_given (drop 1 given)) was.0
      ∙ (ap (λ es. Read h.name all_read stands ∷ es) was.1 ∙ ap (λ xs. Read h.name xs stands ∷ yet.before) read))))

  -- nothing, but that what was lost may have been fed
  none_cut : reader'.came ≡ reader.came → given' ≡ given → HasCut reader' aim given' steps
  none_cut came is =
      let same : all_read ≡ h.fed.bytes ++ h.lost =
      same_bytes _ _ all_read (h.fed.bytes ++ h.lost) _ _ _ _ (sym given_on ∙ (is ∙ (has_fed h).newest)) in
      same_taken h reader' given' (h.fed.bytes ++ on.more) h.rest on.lost on.feeds.cut (ap files_given is)
      (same ∙ h.whole) cause_on
      (subst (λ gs. OpenBy h.rest reader'.came (entries_given gs)) (sym is)
      (subst (λ c. OpenBy h.rest c (entries_given given)) (sym came) h.reads))

  fed_cut : HasCut reader' aim given' steps
  fed_cut = go on.stops
    where
      go : (reader.came ≡ More) ⊎ ((reader'.came ≡ reader.came) × (given' ≡ given)) → HasCut reader' aim given' steps
      go (inl more) = more_cut more
      go (inr same) = none_cut same.0 same.1

-- what was cut is cut
pub cuts_on : {A F L : Type 0} {past : F → FilesPast} {list : F → L} {reader reader' : FileReader A}
    {files files' : F} {aim : Aim} {steps : List Step} → HasCut reader aim (past files).given steps
    → HasReadOn past list reader files reader' files' → HasCut reader' aim (past files').given steps
cuts_on h on = fed_cut h (on.feeds h.fed h.lost (has_fed h)) on.reads_on.before

-- it may be left
pub may_leave : {A Q C : Type 0} {asks : Ghosts Q A C} {reader : FileReader A} {engine : Engine A Q C asks}
    {aim : Aim} {given : List FileOutcome} {out : Stream}
    (h : IsInsideFile reader engine aim given out) → reader.came ≡ More
    → is_enough aim.query (format_of aim) (entries_of h.steps) ≡ true → MayEndFile engine aim false given out
may_leave {aim = aim} {given = given} h more e = record {
  steps = h.steps;
  holds = h.holds;
  running = h.cuts.running;
  number = h.cuts.number;
  covers =
      leaves aim.query (format_of aim) h.cuts.name (joined h.cuts.fed.taken) h.cuts.rest (entries_of h.steps)
      (entries_given given) (open_yet h.cuts more) e;
}

-- the file was read on
pub read_on : {A Q C F L : Type 0} {asks : Ghosts Q A C} {past : F → FilesPast} {list : F → L}
    {reader reader' : FileReader A}
    {files files' : F}
    {engine : Engine A Q C asks} {aim : Aim} {out : Stream} → IsInsideFile reader engine aim (past files).given out
    → HasReadOn past list reader files reader' files' → IsInsideFile reader' engine aim (past files').given out
read_on {aim = aim} h on = record { steps = h.steps; holds = h.holds; cuts = cuts_on h.cuts on }

-- memory went from the engine to the reader
pub recycled : {A Q C : Type 0} {asks : Ghosts Q A C} {reader : FileReader A} {engine : Engine A Q C asks} {aim : Aim}
    {given : List FileOutcome} {out : Stream}
    (h : IsInsideFile reader engine aim given out) (reader' : FileReader A) (engine' : Engine A Q C asks)
    → reader'.cutter ≡ reader.cutter → reader'.came ≡ reader.came → HasPlan engine' aim h.steps out
    → IsInsideFile reader' engine' aim given out
recycled h reader' engine' cutter came holds =
    record { steps = h.steps; holds = holds; cuts = recut h.cuts reader' cutter came }

-- the blocks that wait were searched
pub flushed : {A Q C : Type 0} {asks : Ghosts Q A C} {reader : FileReader A} {engine : Engine A Q C asks} {aim : Aim}
    {given : List FileOutcome} {out : Stream}
    (h : IsInsideFile reader engine aim given out) (engine' : Engine A Q C asks) (out' : Stream)
    → HasPlan engine' aim h.steps out'
    → IsInsideFile reader engine' aim given out'
flushed h engine' out' k = record { steps = h.steps; holds = k; cuts = h.cuts }

-- what holds at a value holds of an answer that is this value
ok_by : {T E : Type 0} (r : Result T E) (P : T → Type 0) (x : T) → IfOk r (λ y. y ≡ x) → P x → IfOk r P
ok_by (Ok y) P x h p = subst P (sym h) p
ok_by (Err e) P x h p = tt

-- what is told of a file once it was read further, by an answer that says whether that failed
pub told_more : {A : Type 0} {reader reader' : FileReader A} {aim aim' : Aim} {given given' : List FileOutcome}
    {steps steps' : List Step} (h : HasCut reader aim given steps) (h' : HasCut reader' aim' given' steps')
    (failed : Bool)
    → reader.came ≡ More → is_failed (ending_after reader'.came) ≡ failed → drop 1 given' ≡ drop 1 given
    → {E : Type 0} (r : Result Bool E) → IfOk r (λ answer. answer ≡ failed)
    → IfOk r (AddsFailure given given')
told_more {reader = reader} {reader' = reader'} {given = given} {given' = given'} h h' failed more e before r is =
    let line : Bool → List ℕ = λ f. when f (fault_line (newest_name given') ReadFailed) in
    let none : faults_of given ≡ faults_of (drop 1 given) =
    told_of_file h
    ∙ (ap (λ came. faults_of (drop 1 given) ++ when (is_failed (ending_after came))
    (fault_line (newest_name given) ReadFailed)) more
    ∙ append-nil (faults_of (drop 1 given))) in
    ok_by r (AddsFailure given given') failed is
    (told_of_file h'
    ∙ (ap (λ gs. faults_of gs ++ line (is_failed (ending_after reader'.came))) before
    ∙ (ap (λ xs. xs ++ line (is_failed (ending_after reader'.came))) (sym none)
    ∙ ap (λ f. faults_of given ++ line f) e)))

-- The file may end, and does.
module _ {A Q C : Type 0} {asks : Ghosts Q A C} {engine : Engine A Q C asks} {aim : Aim} {given : List FileOutcome}
    {out : Stream} (failed : Bool)
    (h : MayEndFile engine aim failed given out) where
  pub file_ended : (engine' : Engine A Q C asks) (out' : Stream) → HasPlan engine' aim (Ends failed ∷ h.steps) out'
      → IsBetweenFiles engine' aim given out'
  file_ended engine' out' k = record {
    steps = Ends failed ∷ h.steps;
    holds = k;
    closed = refl;
    number = h.number;
    covers = h.covers;
  }

  -- its rows couldn't be written
  pub ended_breaks : (out' : Stream) (fault : RunFault) → BreaksOffInSearch aim (Ends failed ∷ h.steps) out' fault
      → BreaksOffInFile aim given out' fault
  ended_breaks out' fault k = record {
    cause = read_cause fault aim given out' k.cause;
    written = safe_by aim (Ends failed ∷ h.steps) given out'.taken k.part (λ files on.
        follows_begins aim.query (format_of aim) (entries_of (Ends failed ∷ h.steps)) (entries_given given) files
        (room_of h.holds) (inl h.covers) on);
    lines = λ of. absurd (none_at_fault fault aim out' k.cause of);
    calm = k.calm;
  }
