-- What the reads of an open file come to: for `read_copied`, `read_in_place`, `read`, `finish` and `step`, and for
-- those who call them.
use Rattle.std.proofs.Common.{◌≡◌, ◌⊎◌, inl, inr, ℕ, ◌+◌, ◌<◌, ◌^◌, Bool, List, [], ◌∷◌, ◌++◌, length, drop}
use Rattle.std.proofs.Common.{if◌then◌else◌, Err, refl, sym, ap, ◌∙◌, subst, arith, append_assoc, length-append}
use Rattle.std.specs.List.{Any}
use Rattle.std.proofs.lemmas.List.{append-nil}
use Rattle.pg_base.specs.Entries.{Ending, Ended, Failed, Left}
use Rattle.pg_blocks.specs.Lines.{lines}
use Rattle.pg_blocks.specs.Cutter.{fed as fed_after, IsCutterAfter, CutterPast, FeedsPiece, TellsWhy}
use Rattle.pg_blocks.specs.declared.cutter.Cutter.{Cutter}
use Rattle.pg_blocks.specs.declared.cutter.CutFault.{CutFault}
use Rattle.pg_blocks.specs.declared.cutter.CutFault.TheVariants.{OutOfMemory, LineTooLong, FileTooLong}
use Rattle.pg_files.specs.Given.{FileOutcome, File, FilesPast, gave_bytes, gave_end, newest_name}
use Rattle.pg_reader.specs.Lengths.{IsTooLong}
use Rattle.pg_reader.specs.Reads.{CutCause, FedMore, FeedsAllOrNone, HasFed, HasReadOn, IsLost, OnlyReadsOn}
use Rattle.pg_reader.specs.Reads.{ending_after}
use Rattle.pg_reader.specs.declared.file_reader.FileReader.{FileReader}
use Rattle.pg_reader.specs.declared.file_reader.ReadOutcome.{ReadOutcome}
use Rattle.pg_reader.specs.declared.file_reader.ReadOutcome.TheVariants.{More, Refused}
use Rattle.pg_reader.proofs.GivenLemmas.{as_newest, bytes_before, end_before, too_long_given}

pub stands_by : {A : Type 0} {cutter cutter' : Cutter A} (past : CutterPast) → cutter' ≡ cutter
    → IsCutterAfter cutter past → IsCutterAfter cutter' past
stands_by {A = A} past e h = let S : Cutter A → Type 0 = λ c. IsCutterAfter c past in subst S (sym e) h

-- what was fed before stands
abbrev pub FedStays : {A : Type 0} → (reader reader' : FileReader A) → Type 0
FedStays reader reader' = (fed : CutterPast) → IsCutterAfter reader.cutter fed → IsCutterAfter reader'.cutter fed

-- nothing more was fed
fed_none : {A : Type 0} {cutter : Cutter A} {fed : CutterPast} → IsCutterAfter cutter fed
    → IsCutterAfter cutter (fed_after fed [])
fed_none {cutter = cutter} {fed = fed} stands =
    let S : List ℕ → Type 0 = λ bytes. IsCutterAfter cutter (record fed { bytes = bytes }) in
    subst S (sym (append-nil fed.bytes)) stands

-- A file is open, and nothing of it was read.
module _ {A : Type 0} {reader : FileReader A} {fed : CutterPast} {lost : List ℕ} {given : List FileOutcome}
    (h : HasFed reader fed lost given) (reader' : FileReader A) (stands : IsCutterAfter reader'.cutter fed)
    (came : reader'.came ≡ reader.came) where
  pub same_fed : HasFed reader' fed lost given
  same_fed =
      let N : ReadOutcome → Type 0 =
      λ came. given ≡ File (newest_name given) (fed.bytes ++ lost) (ending_after came) ∷ drop 1 given in
      let L : ReadOutcome → Type 0 = λ came. IsLost came fed.end fed.longest given lost in
      record { cut = stands; newest = subst N (sym came) h.newest; cause = subst L (sym came) h.cause }

  same_more : FedMore reader fed given reader' given
  same_more =
      let k = same_fed in
      let N : List ℕ → Type 0 =
      λ bytes. given ≡ File (newest_name given) (bytes ++ lost) (ending_after reader'.came) ∷ drop 1 given in
      record {
        more = [];
        lost = lost;
        feeds = record {
          cut = fed_none stands;
          newest = subst N (sym (append-nil fed.bytes)) k.newest;
          cause = k.cause;
        };
        name = refl;
        stops = inr (came, refl);
      }

-- A reader that is the same has fed the same.
pub fed_yet : {A : Type 0} {reader reader' : FileReader A} {fed : CutterPast} {lost : List ℕ}
    {given given' : List FileOutcome} → (reader' ≡ reader) × (given' ≡ given) → HasFed reader fed lost given
    → HasFed reader' fed lost given'
fed_yet {A = A} {reader' = reader'} {fed = fed} {lost = lost} {given = given} same h =
    let P : FileReader A → Type 0 = λ r. HasFed r fed lost given in
    let Q : List FileOutcome → Type 0 = λ gs. HasFed reader' fed lost gs in
    subst Q (sym same.1) (subst P (sym same.0) h)

-- A file that may be read further.
module _ {A : Type 0} {reader : FileReader A} {fed : CutterPast} {lost : List ℕ} {given : List FileOutcome}
    (h : HasFed reader fed lost given) (more : reader.came ≡ More) where
  -- all that it gave was fed
  open_yet : given ≡ File (newest_name given) fed.bytes Left ∷ drop 1 given
  open_yet =
      let L : ReadOutcome → Type 0 = λ came. IsLost came fed.end fed.longest given lost in
      let none : lost ≡ [] = subst L more h.cause in
      h.newest
      ∙ (ap (λ came. File (newest_name given) (fed.bytes ++ lost) (ending_after came) ∷ drop 1 given) more
      ∙ ap (λ bytes. File (newest_name given) bytes Left ∷ drop 1 given)
      (ap (λ xs. fed.bytes ++ xs) none ∙ append-nil fed.bytes))

  is_long : (piece : List ℕ)
      → Any (λ l. fed.longest < length l) (lines fed.end (fed.bytes ++ piece)) ⊎ (2 ^ 62 < length (fed.bytes ++ piece))
      → IsTooLong fed.end fed.longest (gave_bytes piece given)
  is_long piece long = too_long_given fed.end fed.longest piece open_yet long

  long_cause : {T : Type 0} (piece : List ℕ) (cut : CutFault) → TellsWhy {T = T} reader.cutter piece (Err cut)
      → CutCause cut fed.end fed.longest (gave_bytes piece given)
  long_cause piece OutOfMemory why = tt
  long_cause piece LineTooLong why = is_long piece (inl ((why.line fed h.cut).0 refl).1)
  long_cause piece FileTooLong why =
      is_long piece (inr (omega (arith, (why.file fed h.cut).0 refl, length-append fed.bytes piece)))

  -- it stands so now, by what was fed of it and what was lost
  fed_more : (reader' : FileReader A) (given' : List FileOutcome) (piece lost' : List ℕ)
      → IsCutterAfter reader'.cutter (fed_after fed piece)
      → given'
      ≡ File (newest_name given) ((fed.bytes ++ piece) ++ lost') (ending_after reader'.came) ∷ drop 1 given
      → IsLost reader'.came fed.end fed.longest given' lost' → FedMore reader fed given reader' given'
  fed_more reader' given' piece lost' cut is cause = record {
    more = piece;
    lost = lost';
    feeds = record { cut = cut; newest = as_newest is; cause = cause };
    name = ap newest_name is;
    stops = inl more;
  }

  -- it gave more, which was cut
  piece_cut : (reader' : FileReader A) (piece : List ℕ) → reader'.came ≡ More
      → IsCutterAfter reader'.cutter (fed_after fed piece) → FedMore reader fed given reader' (gave_bytes piece given)
  piece_cut reader' piece came cut =
      let L : ReadOutcome → Type 0 = λ came. IsLost came fed.end fed.longest (gave_bytes piece given) [] in
      fed_more reader' (gave_bytes piece given) piece [] cut
      (ap (gave_bytes piece) open_yet
      ∙ (ap (λ xs. File (newest_name given) xs Left ∷ drop 1 given) (sym (append-nil (fed.bytes ++ piece)))
      ∙ ap (λ came. File (newest_name given) ((fed.bytes ++ piece) ++ []) (ending_after came) ∷ drop 1 given)
      (sym came)))
      (subst L (sym came) refl)

  -- or wasn't
  piece_refused : {T : Type 0} (reader' : FileReader A) (piece : List ℕ) (cut : CutFault) → reader'.came ≡ Refused cut
      → FeedsPiece {T = T} reader.cutter reader'.cutter piece (Err cut)
      → FedMore reader fed given reader' (gave_bytes piece given)
  piece_refused reader' piece cut came refused =
      let L : ReadOutcome → Type 0 = λ came. IsLost came fed.end fed.longest (gave_bytes piece given) piece in
      fed_more reader' (gave_bytes piece given) [] piece (fed_none (refused.err fed h.cut))
      (ap (gave_bytes piece) open_yet
      ∙ (ap (λ xs. File (newest_name given) (xs ++ piece) Left ∷ drop 1 given) (sym (append-nil fed.bytes))
      ∙ ap (λ came. File (newest_name given) ((fed.bytes ++ []) ++ piece) (ending_after came) ∷ drop 1 given)
      (sym came)))
      (subst L (sym came) (long_cause piece cut refused.why))

  -- then nothing of it was
  none_cut : {T : Type 0} (reader' : FileReader A) (piece : List ℕ) (cut : CutFault) → reader'.came ≡ Refused cut
      → FeedsPiece {T = T} reader.cutter reader'.cutter piece (Err cut)
      → HasFed reader' fed piece (gave_bytes piece given)
  none_cut reader' piece cut came refused =
      let L : ReadOutcome → Type 0 = λ came. IsLost came fed.end fed.longest (gave_bytes piece given) piece in
      record {
        cut = refused.err fed h.cut;
        newest = as_newest (ap (gave_bytes piece) open_yet
            ∙ ap (λ came. File (newest_name given) (fed.bytes ++ piece) (ending_after came) ∷ drop 1 given) (sym came));
        cause = subst L (sym came) (long_cause piece cut refused.why);
      }

  -- nothing more came of it
  no_more : (reader' : FileReader A) (given' : List FileOutcome) (ending : Ending) → ending_after reader'.came ≡ ending
      → given' ≡ File (newest_name given) fed.bytes ending ∷ drop 1 given
      → IsLost reader'.came fed.end fed.longest given' [] → IsCutterAfter reader'.cutter fed
      → FedMore reader fed given reader' given'
  no_more reader' given' ending stops is none stands =
      fed_more reader' given' [] [] (fed_none stands)
      (is
      ∙ (ap (λ xs. File (newest_name given) xs ending ∷ drop 1 given)
      (sym (append-nil (fed.bytes ++ []) ∙ append-nil fed.bytes))
      ∙ ap (λ ends. File (newest_name given) ((fed.bytes ++ []) ++ []) ends ∷ drop 1 given) (sym stops)))
      none

  -- it wasn't read, for want of memory
  file_unread : (reader' : FileReader A) → reader'.came ≡ Refused OutOfMemory → IsCutterAfter reader'.cutter fed
      → FedMore reader fed given reader' given
  file_unread reader' came stands =
      let L : ReadOutcome → Type 0 = λ came. IsLost came fed.end fed.longest given [] in
      no_more reader' given Left (ap ending_after came) open_yet (subst L (sym came) tt) stands

  -- it met the end, or failed
  file_stopped : (reader' : FileReader A) (failed : Bool)
      → ending_after reader'.came ≡ (if failed then Failed else Ended)
      → IsLost reader'.came fed.end fed.longest (gave_end failed given) [] → IsCutterAfter reader'.cutter fed
      → FedMore reader fed given reader' (gave_end failed given)
  file_stopped reader' failed stops none stands =
      no_more reader' (gave_end failed given) _ stops (ap (gave_end failed) open_yet) none stands

-- what one read gave and the cutter didn't take is not fed in part
pub refused_whole : {A T : Type 0} {reader reader' : FileReader A} {given given' : List FileOutcome}
    → reader.came ≡ More → (piece : List ℕ) (cut : CutFault) → given' ≡ gave_bytes piece given
    → reader'.came ≡ Refused cut → FeedsPiece {T = T} reader.cutter reader'.cutter piece (Err cut)
    → FeedsAllOrNone reader given reader' given'
refused_whole {reader' = reader'} more piece cut is came refused = λ fed lost fault h _.
    let P : List FileOutcome → Type 0 = λ gs. HasFed reader' fed piece gs in
    (piece, subst P (sym is) (none_cut h more reader' piece cut came refused))

-- What is listed, and what was given before.

pub reads_none : {F L : Type 0} {past : F → FilesPast} {list : F → L} {files : F} → OnlyReadsOn past list files files
reads_none = record { done = refl; before = refl; same_list = refl }

pub then_reads : {F L : Type 0} {past : F → FilesPast} {list : F → L} {files files' files'' : F}
    → OnlyReadsOn past list files files' → OnlyReadsOn past list files' files'' → OnlyReadsOn past list files files''
then_reads on more = record {
  done = more.done ∙ on.done;
  before = more.before ∙ on.before;
  same_list = more.same_list ∙ on.same_list;
}

read_by : {F L : Type 0} {past : F → FilesPast} {list : F → L} {files files' : F}
    → (past files').done ≡ (past files).done → list files' ≡ list files → (given : List FileOutcome)
    → (past files').given ≡ given → drop 1 given ≡ drop 1 (past files).given → OnlyReadsOn past list files files'
read_by done same given is before =
    record { done = done; before = ap (λ gs. drop 1 gs) is ∙ before; same_list = same }

-- Reads one after another.

-- the reader has the same, and nothing was read
pub has_stayed : {A F L : Type 0} {past : F → FilesPast} {list : F → L} {reader : FileReader A} {files : F}
    (reader' : FileReader A) → FedStays reader reader' → reader'.came ≡ reader.came
    → HasReadOn past list reader files reader' files
has_stayed reader' stays came = record {
  reads_on = reads_none;
  feeds = λ fed lost h. same_more h reader' (stays fed h.cut) came;
}

pub nothing_read : {A F L : Type 0} {past : F → FilesPast} {list : F → L} {reader : FileReader A} {files : F}
    → HasReadOn past list reader files reader files
nothing_read {reader = reader} = has_stayed reader (λ fed stands. stands) refl

abbrev Stops : (came came' : ReadOutcome) → (given given' : List FileOutcome) → Type 0
Stops came came' given given' = (came ≡ More) ⊎ ((came' ≡ came) × (given' ≡ given))

then_stops : (came came' came'' : ReadOutcome) (given given' given'' : List FileOutcome) → Stops came came' given given'
    → Stops came' came'' given' given'' → Stops came came'' given given''
then_stops came came' came'' given given' given'' (inl more) n = inl more
then_stops came came' came'' given given' given'' (inr same) (inl more) = inl (sym same.0 ∙ more)
then_stops came came' came'' given given' given'' (inr same) (inr still) =
    inr (still.0 ∙ same.0, still.1 ∙ same.1)

then_more : {A : Type 0} {reader reader' reader'' : FileReader A} {fed : CutterPast}
    {given given' given'' : List FileOutcome}
    → (m : FedMore reader fed given reader' given')
    → FedMore reader' (fed_after fed m.more) given' reader'' given'' → FedMore reader fed given reader'' given''
then_more {reader = reader} {reader' = reader'} {reader'' = reader''} {fed = fed} {given'' = given''} m n =
    let H : List ℕ → Type 0 = λ bytes. HasFed reader'' (record fed { bytes = bytes }) n.lost given'' in
    record {
      more = m.more ++ n.more;
      lost = n.lost;
      feeds = subst H (append_assoc fed.bytes m.more n.more) n.feeds;
      name = n.name ∙ m.name;
      stops = then_stops reader.came reader'.came reader''.came _ _ _ m.stops n.stops;
    }

pub reads_further : {A F L : Type 0} {past : F → FilesPast} {list : F → L} {reader reader' reader'' : FileReader A}
    {files files' files'' : F}
    → HasReadOn past list reader files reader' files' → HasReadOn past list reader' files' reader'' files''
    → HasReadOn past list reader files reader'' files''
reads_further on further = record {
  reads_on = then_reads on.reads_on further.reads_on;
  feeds = λ fed lost h.
      let m = on.feeds fed lost h in
      then_more m (further.feeds (fed_after fed m.more) m.lost m.feeds);
}

-- What one read came to.
module _ {A F L : Type 0} {past : F → FilesPast} {list : F → L} {reader reader' : FileReader A} {files files' : F}
    (more : reader.came ≡ More) (done : (past files').done ≡ (past files).done) (same : list files' ≡ list files) where
  -- its end, or a failure
  pub read_stopped : (failed : Bool) → (past files').given ≡ gave_end failed (past files).given
      → ending_after reader'.came ≡ (if failed then Failed else Ended)
      → ((end longest : ℕ) → IsLost reader'.came end longest (gave_end failed (past files).given) [])
      → FedStays reader reader' → HasReadOn past list reader files reader' files'
  read_stopped failed is stops none stays = record {
    reads_on = read_by done same _ is (end_before failed (past files).given);
    feeds = λ fed lost h.
        let P : List FileOutcome → Type 0 = λ gs. FedMore reader fed (past files).given reader' gs in
        subst P (sym is) (file_stopped h more reader' failed stops (none fed.end fed.longest) (stays fed h.cut));
  }

  -- nothing, for want of memory
  pub read_unread : (past files').given ≡ (past files).given → reader'.came ≡ Refused OutOfMemory
      → FedStays reader reader' → HasReadOn past list reader files reader' files'
  read_unread is came stays = record {
    reads_on = read_by done same _ is refl;
    feeds = λ fed lost h.
        let P : List FileOutcome → Type 0 = λ gs. FedMore reader fed (past files).given reader' gs in
        subst P (sym is) (file_unread h more reader' came (stays fed h.cut));
  }

  -- bytes that are cut
  pub read_cut : (piece : List ℕ) → (past files').given ≡ gave_bytes piece (past files).given → reader'.came ≡ More
      → ((fed : CutterPast) → IsCutterAfter reader.cutter fed → IsCutterAfter reader'.cutter (fed_after fed piece))
      → HasReadOn past list reader files reader' files'
  read_cut piece is came cut = record {
    reads_on = read_by done same _ is (bytes_before piece (past files).given);
    feeds = λ fed lost h.
        let P : List FileOutcome → Type 0 = λ gs. FedMore reader fed (past files).given reader' gs in
        subst P (sym is) (piece_cut h more reader' piece came (cut fed h.cut));
  }

  -- bytes that the cutter doesn't take
  pub read_refused : {T : Type 0} (piece : List ℕ) (cut : CutFault)
      → (past files').given ≡ gave_bytes piece (past files).given → reader'.came ≡ Refused cut
      → FeedsPiece {T = T} reader.cutter reader'.cutter piece (Err cut)
      → HasReadOn past list reader files reader' files'
  read_refused piece cut is came refused = record {
    reads_on = read_by done same _ is (bytes_before piece (past files).given);
    feeds = λ fed lost h.
        let P : List FileOutcome → Type 0 = λ gs. FedMore reader fed (past files).given reader' gs in
        subst P (sym is) (piece_refused h more reader' piece cut came refused);
  }
