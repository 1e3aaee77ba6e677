-- What a plan gives is what its files give.
use Rattle.std.proofs.Common.{◌≡◌, ◌⊎◌, inl, inr, ℕ, Bool, true, false, not, cond, ◌&&◌, ◌||◌, List, [], ◌∷◌, ◌++◌}
use Rattle.std.proofs.Common.{refl, sym, ap, ◌∙◌, subst, append_assoc}
use Rattle.std.proofs.lemmas.Bool.{false≢true}
use Rattle.std.proofs.lemmas.List.{append-nil}
use Rattle.pg_selection.specs.Search.{Search, terminator}
use Rattle.pg_blocks.specs.Lines.{lines, AreWhole}
use Rattle.pg_blocks.proofs.LineLemmas.{lines-append}
use Rattle.pg_rows.specs.declared.format.Format.{Format}
use Rattle.pg_rows.specs.declared.format.Mode.{Mode}
use Rattle.pg_base.specs.Entries.{Entry, Missed, Read, Ending, Running, Ended, Failed, Left, is_running}
use Rattle.pg_rows.specs.Output.{HasRoom, is_nothing, has_selected, when, file_rows, line_rows, part_rows}
use Rattle.pg_rows.specs.Modes.{is_quiet, shows_rows, end_row, rows_in}
use Rattle.pg_rows.proofs.ModeLemmas.{no_end}
use Rattle.pg_rows.specs.Output.{count_row, name_row, output}
use Rattle.pg_base.specs.Sink.{IsBeginning}
use Rattle.pg_rows.specs.Trail.{run_pieces, trail_of}
use Rattle.pg_rows.proofs.FoldLemmas.{rows_begin, pieces_more, trail_is}
use Rattle.pg_plan.proofs.BeginLemmas.{begins_trans}
use Rattle.pg_rows.specs.Enough.{lines_suffice, is_enough}
use Rattle.pg_seq.specs.Settled.{AreLeftRightly, GiveTheSame}
use Rattle.pg_run.specs.Outcome.{MayBecome, IsContinuation}
use Rattle.pg_run.specs.Cover.{is_left, IsLeftFile, IsEntryOf, Covers}
use Rattle.pg_seq.proofs.LongerLemmas.{reason, rows_of_left, AreAlike, alike_same, alike_none, alike_more, alike_left}
use Rattle.pg_run.specs.Cover.{HasOpenFile}

-- no file is open, or one is
abbrev pub PlanFollows : Search → Format → List Entry → List Entry → Type 0
PlanFollows q format planned given =
    Covers q format planned given
    ⊎ ((name : List ℕ) × (front : List ℕ) × (rest : List ℕ) × (ending : Ending)
    × HasOpenFile q format name front rest ending planned given)

abbrev line_part : Search → Format → List ℕ → List (List ℕ) → Bool → List ℕ
line_part q format name ls earlier =
    cond format.parts (part_rows q format name ls) (line_rows q format name ls earlier)

-- files that are alike leave `enough` as it is
pub enough_alike : (q : Search) (format : Format) (e : Entry) (es fs : List Entry) → AreAlike q format es fs
    → is_enough q format (e ∷ es) ≡ is_enough q format (e ∷ fs)
enough_alike q format e es fs h = go e
  where
    go : (x : Entry) → is_enough q format (x ∷ es) ≡ is_enough q format (x ∷ fs)
    go (Missed name) = ap (λ b. cond (is_quiet format.mode) (false || b) false) h.selected
    go (Read name bytes ending) =
        ap (λ b. cond (is_quiet format.mode) (has_selected q (Read name bytes ending) || b)
        (is_running ending && lines_suffice format.mode q format (lines (terminator q) bytes))) h.selected

given_up_alike : (q : Search) (format : Format) (name bytes : List ℕ) (g : Entry) (ps gs : List Entry)
    → HasRoom format → IsLeftFile q format ps name bytes g → AreAlike q format ps gs
    → AreAlike q format (Read name bytes Ended ∷ ps) (g ∷ gs)
given_up_alike q format name bytes g ps gs room h like =
    let P : Entry → Type 0 = λ x. AreAlike q format (Read name bytes Ended ∷ ps) (x ∷ gs) in
    let Q : List ℕ → Type 0 =
    λ xs. AreAlike q format (Read name xs Ended ∷ ps) (Read name (bytes ++ h.rest) Left ∷ gs) in
    subst P (sym h.is)
    (subst Q (append-nil bytes) (alike_left q format name bytes h.rest [] ps gs Ended Left room h.whole
    (reason q format name bytes ps h.enough) refl refl refl like))

pub covers_alike : (q : Search) (format : Format) (ps gs : List Entry) → HasRoom format → Covers q format ps gs
    → AreAlike q format ps gs
covers_alike q format [] [] room h = alike_none q format
covers_alike q format [] (g ∷ gs) room h = absurd h
covers_alike q format (p ∷ ps) [] room h = absurd h
covers_alike q format (Missed name ∷ ps) (g ∷ gs) room h =
    alike_more q format (Missed name) g ps gs h.0 (covers_alike q format ps gs room h.1)
covers_alike q format (Read name bytes Running ∷ ps) (g ∷ gs) room h = absurd h.0
covers_alike q format (Read name bytes Left ∷ ps) (g ∷ gs) room h = absurd h.0
covers_alike q format (Read name bytes Failed ∷ ps) (g ∷ gs) room h =
    alike_more q format (Read name bytes Failed) g ps gs h.0 (covers_alike q format ps gs room h.1)
covers_alike q format (Read name bytes Ended ∷ ps) (g ∷ gs) room h = go (covers_alike q format ps gs room h.1) h.0
  where
    go : AreAlike q format ps gs → (g ≡ Read name bytes Ended) ⊎ IsLeftFile q format ps name bytes g
        → AreAlike q format (Read name bytes Ended ∷ ps) (g ∷ gs)
    go like (inl e) = alike_more q format (Read name bytes Ended) g ps gs e like
    go like (inr u) = given_up_alike q format name bytes g ps gs room u like

-- at the end of a run: output and status of the plan are those of what was given
pub covers_same : (q : Search) (format : Format) (ps gs : List Entry) → HasRoom format → Covers q format ps gs
    → GiveTheSame q format ps gs
covers_same q format ps gs room h = alike_same q format ps gs (covers_alike q format ps gs room h)

-- and each file that was left was left rightly
left_rightly : (q : Search) (format : Format) (g e : Entry) (gs : List Entry) → g ≡ e
    → AreLeftRightly q format (e ∷ gs) → AreLeftRightly q format (g ∷ gs)
left_rightly q format g e gs s h = let P : Entry → Type 0 = λ x. AreLeftRightly q format (x ∷ gs) in subst P (sym s) h

pub covers_left : (q : Search) (format : Format) (ps gs : List Entry) → HasRoom format → Covers q format ps gs
    → AreLeftRightly q format gs
covers_left q format [] [] room h = tt
covers_left q format [] (g ∷ gs) room h = absurd h
covers_left q format (p ∷ ps) [] room h = absurd h
covers_left q format (Missed name ∷ ps) (g ∷ gs) room h =
    left_rightly q format g (Missed name) gs h.0 (covers_left q format ps gs room h.1)
covers_left q format (Read name bytes Running ∷ ps) (g ∷ gs) room h = absurd h.0
covers_left q format (Read name bytes Left ∷ ps) (g ∷ gs) room h = absurd h.0
covers_left q format (Read name bytes Failed ∷ ps) (g ∷ gs) room h =
    left_rightly q format g (Read name bytes Failed) gs h.0 (covers_left q format ps gs room h.1)
covers_left q format (Read name bytes Ended ∷ ps) (g ∷ gs) room h = go (covers_left q format ps gs room h.1) h.0
  where
    go : AreLeftRightly q format gs → (g ≡ Read name bytes Ended) ⊎ IsLeftFile q format ps name bytes g
        → AreLeftRightly q format (g ∷ gs)
    go rightly (inl e) = left_rightly q format g (Read name bytes Ended) gs e rightly
    go rightly (inr u) = left_rightly q format g (Read name (bytes ++ u.rest) Left) gs u.is (
      record {
        front = bytes;
        rest = u.rest;
        joins = refl;
        whole = u.whole;
        enough =
            sym (enough_alike q format (Read name bytes Running) ps gs (covers_alike q format ps gs room h.1))
            ∙ u.enough;
      },
      rightly,
    )

-- beginnings

pub begins_nil : (xs : List ℕ) → IsBeginning [] xs
begins_nil xs = (xs, refl)

pub begins_self : (xs : List ℕ) → IsBeginning xs xs
begins_self xs = ([], append-nil xs)

begins_equal : (xs ys : List ℕ) → xs ≡ ys → IsBeginning xs ys
begins_equal xs ys e = ([], append-nil xs ∙ e)

begins_behind : (xs ys zs : List ℕ) → IsBeginning ys zs → IsBeginning (xs ++ ys) (xs ++ zs)
begins_behind xs ys zs b = (b.0, append_assoc xs ys b.0 ∙ ap (λ w. xs ++ w) b.1)

in_mode : (m : Mode) (a a' c n : List ℕ) → IsBeginning a a' → IsBeginning (rows_in m a [] []) (rows_in m a' c n)
in_mode m a a' c n b = go (shows_rows m)
  where
    go : (shown : Bool) → IsBeginning (cond shown a (end_row m [] [])) (cond shown a' (end_row m c n))
    go true = b
    go false = subst (λ xs. IsBeginning xs (end_row m c n)) (sym (no_end m)) (begins_nil (end_row m c n))

part_begins : (q : Search) (format : Format) (name : List ℕ) (earlier : Bool) (ls ms : List (List ℕ))
    → IsBeginning (line_part q format name ls earlier) (line_part q format name (ls ++ ms) earlier)
part_begins q format name earlier ls ms = go format.parts
  where
    go : (b : Bool) → IsBeginning (cond b (part_rows q format name ls) (line_rows q format name ls earlier))
        (cond b (part_rows q format name (ls ++ ms)) (line_rows q format name (ls ++ ms) earlier))
    go true = (
      run_pieces q format name (trail_of q format ls) ms,
      sym
          (pieces_more q format name ls ms (trail_of q format ls) (trail_is q format ls)),
    )
    go false = rows_begin q format name earlier ls ms

-- what an open file gives begins what it gives with more bytes, ended or not
file_begins : (q : Search) (format : Format) (name front more : List ℕ) (ended earlier : Bool)
    → AreWhole (terminator q) front ⊎ (more ≡ []) → IsBeginning (file_rows q format name front false earlier)
    (file_rows q format name (front ++ more) ended earlier)
unfolding file_rows
file_begins q format name front more ended earlier (inl whole) =
    let ls = lines (terminator q) front in
    let P : List (List ℕ) → Type 0 =
    λ all. IsBeginning (rows_in format.mode (line_part q format name ls earlier) [] [])
    (rows_in format.mode (line_part q format name all earlier) (when ended (count_row q format name all))
    (when ended (name_row q format name all))) in
    subst P (sym (lines-append (terminator q) front more whole))
    (in_mode format.mode (line_part q format name ls earlier)
    (line_part q format name (ls ++ lines (terminator q) more) earlier)
    (when ended (count_row q format name (ls ++ lines (terminator q) more)))
    (when ended (name_row q format name (ls ++ lines (terminator q) more)))
    (part_begins q format name earlier ls (lines (terminator q) more)))
file_begins q format name front more ended earlier (inr none) =
    let P : List ℕ → Type 0 =
    λ bs. IsBeginning (rows_in format.mode (line_part q format name (lines (terminator q) front) earlier) [] [])
    (rows_in format.mode (line_part q format name (lines (terminator q) bs) earlier)
    (when ended (count_row q format name (lines (terminator q) bs)))
    (when ended (name_row q format name (lines (terminator q) bs)))) in
    let ls = lines (terminator q) front in
    subst P (sym (ap (λ bs. front ++ bs) none ∙ append-nil front))
    (in_mode format.mode (line_part q format name ls earlier) (line_part q format name ls earlier)
    (when ended (count_row q format name ls)) (when ended (name_row q format name ls))
    (begins_self (line_part q format name ls earlier)))

-- the outputs of two last files behind alike ones
last_begins : (q : Search) (format : Format) (name bytes name' bytes' : List ℕ) (ps gs : List Entry) (a b : Ending)
    → AreAlike q format ps gs
    → ((earlier : Bool) → IsBeginning (file_rows q format name bytes (not (is_running a)) earlier)
    (file_rows q format name' bytes' (not (is_running b)) earlier))
    → IsBeginning (output q format (Read name bytes a ∷ ps)) (output q format (Read name' bytes' b ∷ gs))
last_begins q format name bytes name' bytes' ps gs a b like h =
    let P : List ℕ → Type 0 =
    λ xs. IsBeginning (output q format (Read name bytes a ∷ ps))
    (xs ++ file_rows q format name' bytes' (not (is_running b)) (not (is_nothing xs))) in
    subst P like.output (begins_behind (output q format ps) (file_rows q format name bytes (not (is_running a))
    (not (is_nothing (output q format ps)))) (file_rows q format name' bytes' (not (is_running b))
    (not (is_nothing (output q format ps)))) (h (not (is_nothing (output q format ps)))))

pub later_begins : (q : Search) (format : Format) (later es : List Entry)
    → IsBeginning (output q format es) (output q format (later ++ es))
later_begins q format [] es = begins_self (output q format es)
later_begins q format (Missed name ∷ later) es = later_begins q format later es
later_begins q format (Read name bytes ending ∷ later) es =
    let all = output q format (later ++ es) in
    let rows = file_rows q format name bytes (not (is_running ending)) (not (is_nothing all)) in
    begins_trans (output q format es) all (all ++ rows) (later_begins q format later es) (rows, refl)

-- the open file's bytes, and those of the file that goes on
open_begins : (q : Search) (format : Format) (name front more : List ℕ) (ps gs : List Entry) (b : Ending)
    → AreAlike q format ps gs → AreWhole (terminator q) front ⊎ (more ≡ [])
    → IsBeginning (output q format (Read name front Running ∷ ps)) (output q format (Read name (front ++ more) b ∷ gs))
open_begins q format name front more ps gs b like seam =
    last_begins q format name front name (front ++ more) ps gs Running b like
    (λ earlier. file_begins q format name front more (not (is_running b)) earlier seam)

-- the bytes of a file that was left, and those of the same file that goes on
left_begins : (q : Search) (format : Format) (name front more : List ℕ) (ps gs : List Entry) (b : Ending)
    → HasRoom format → AreAlike q format ps gs → AreWhole (terminator q) front
    → is_enough q format (Read name front Running ∷ ps) ≡ true → is_running b ≡ false
    → IsBeginning (output q format (Read name front Ended ∷ ps)) (output q format (Read name (front ++ more) b ∷ gs))
left_begins q format name front more ps gs b room like whole enough runs =
    let r = reason q format name front ps enough in
    last_begins q format name front name (front ++ more) ps gs Ended b like (λ earlier.
    let P : Bool → Type 0 =
    λ t. IsBeginning (file_rows q format name front true earlier) (file_rows q format name (front ++ more)
    (not t) earlier) in
    subst P (sym runs) (begins_equal _ _ (sym (rows_of_left q format name front more ps true earlier room whole r))))

abbrev Goes : Search → Format → Entry → List Entry → List ℕ → Type 0
Goes q format g gs text = (other : Entry) → MayBecome g other → IsBeginning text (output q format (other ∷ gs))

goes_same : (q : Search) (format : Format) (e : Entry) (gs : List Entry) (text : List ℕ)
    → ((other : Entry) → MayBecome e other → other ≡ e) → IsBeginning text (output q format (e ∷ gs))
    → Goes q format e gs text
goes_same q format e gs text f b other m =
    let P : Entry → Type 0 = λ x. IsBeginning text (output q format (x ∷ gs)) in subst P (sym (f other m)) b

goes_left : (q : Search) (format : Format) (name bytes : List ℕ) (gs : List Entry) (text : List ℕ)
    → ((more : List ℕ) (b : Ending) → is_running b ≡ false → IsBeginning text
    (output q format (Read name (bytes ++ more) b ∷ gs))) → Goes q format (Read name bytes Left) gs text
goes_left q format name bytes gs text f other m =
    let P : Entry → Type 0 = λ x. IsBeginning text (output q format (x ∷ gs)) in subst P (sym m.3) (f m.0 m.1 m.2)

goes_by : (q : Search) (format : Format) (g e : Entry) (gs : List Entry) (text : List ℕ) → g ≡ e
    → Goes q format e gs text → Goes q format g gs text
goes_by q format g e gs text s h = let P : Entry → Type 0 = λ x. Goes q format x gs text in subst P (sym s) h

alike_begins : (q : Search) (format : Format) (es fs : List Entry) → AreAlike q format es fs
    → IsBeginning (output q format es) (output q format fs)
alike_begins q format es fs h = begins_equal _ _ h.output

covers_goes : (q : Search) (format : Format) (p g : Entry) (ps gs : List Entry) → HasRoom format
    → IsEntryOf q format ps p g → AreAlike q format ps gs → Goes q format g gs (output q format (p ∷ ps))
covers_goes q format (Missed name) g ps gs room h like =
    goes_by q format g (Missed name) gs _ h (goes_same q format (Missed name) gs _ (λ other m. m)
    (alike_begins q format ps gs like))
covers_goes q format (Read name bytes Running) g ps gs room h like = absurd h
covers_goes q format (Read name bytes Left) g ps gs room h like = absurd h
covers_goes q format (Read name bytes Failed) g ps gs room h like =
    goes_by q format g (Read name bytes Failed) gs _ h (goes_same q format (Read name bytes Failed) gs _
    (λ other m. m)
    (alike_begins q format _ _ (alike_more q format (Read name bytes Failed) (Read name bytes Failed) ps gs refl like)))
covers_goes q format (Read name bytes Ended) g ps gs room (inl e) like =
    goes_by q format g (Read name bytes Ended) gs _ e (goes_same q format (Read name bytes Ended) gs _ (λ other m. m)
    (alike_begins q format _ _ (alike_more q format (Read name bytes Ended) (Read name bytes Ended) ps gs refl like)))
covers_goes q format (Read name bytes Ended) g ps gs room (inr u) like =
    goes_by q format g (Read name (bytes ++ u.rest) Left) gs _ u.is (goes_left q format name (bytes ++ u.rest) gs _
    (λ more b runs.
    let P : List ℕ → Type 0 =
    λ xs. IsBeginning (output q format (Read name bytes Ended ∷ ps)) (output q format (Read name xs b ∷ gs)) in
    subst P (sym (append_assoc bytes u.rest more)) (left_begins q format name bytes (u.rest ++ more) ps gs b room like
    u.whole u.enough runs)))

abbrev Seam : ℕ → List ℕ → List ℕ → Ending → Type 0
Seam end front rest ending = AreWhole end front ⊎ ((rest ≡ []) × (is_left ending ≡ false))

reading_goes : (q : Search) (format : Format) (name front rest : List ℕ) (ending : Ending) (ps gs : List Entry)
    → HasRoom format → is_running ending ≡ false → Seam (terminator q) front rest ending → AreAlike q format ps gs
    → Goes q format (Read name (front ++ rest) ending) gs (output q format (Read name front Running ∷ ps))
reading_goes q format name front rest Running ps gs room s seam like = absurd (false≢true (sym s))
reading_goes q format name front rest Ended ps gs room s seam like =
    goes_same q format (Read name (front ++ rest) Ended) gs _ (λ other m. m)
    (open_begins q format name front rest ps gs Ended like (closed seam))
  where
    closed : Seam (terminator q) front rest Ended → AreWhole (terminator q) front ⊎ (rest ≡ [])
    closed (inl w) = inl w
    closed (inr n) = inr n.0
reading_goes q format name front rest Failed ps gs room s seam like =
    goes_same q format (Read name (front ++ rest) Failed) gs _ (λ other m. m)
    (open_begins q format name front rest ps gs Failed like (closed seam))
  where
    closed : Seam (terminator q) front rest Failed → AreWhole (terminator q) front ⊎ (rest ≡ [])
    closed (inl w) = inl w
    closed (inr n) = inr n.0
reading_goes q format name front rest Left ps gs room s seam like =
    goes_left q format name (front ++ rest) gs _ (λ more b runs.
    let P : List ℕ → Type 0 =
    λ xs. IsBeginning (output q format (Read name front Running ∷ ps)) (output q format (Read name xs b ∷ gs)) in
    subst P (sym (append_assoc front rest more)) (open_begins q format name front (rest ++ more) ps gs b like
    (whole seam)))
  where
    whole : {more : List ℕ} → Seam (terminator q) front rest Left → AreWhole (terminator q) front ⊎ (more ≡ [])
    whole (inl w) = inl w
    whole (inr n) = absurd (false≢true (sym n.1))

goes_on_by : (q : Search) (format : Format) (g : Entry) (gs files : List Entry) (text : List ℕ)
    → Goes q format g gs text → IsContinuation (g ∷ gs) files → IsBeginning text (output q format files)
goes_on_by q format g gs files text h o =
    let P : List Entry → Type 0 = λ es. IsBeginning text (output q format es) in
    subst P (sym o.3) (begins_trans text (output q format (o.1 ∷ gs)) (output q format (o.0 ++ o.1 ∷ gs)) (h o.1 o.2)
    (later_begins q format o.0 (o.1 ∷ gs)))

-- when a run breaks off: the output of the plan begins the output of all that goes on from what was given
pub follows_begins : (q : Search) (format : Format) (planned given files : List Entry) → HasRoom format
    → PlanFollows q format planned given → IsContinuation given files → IsBeginning (output q format planned)
    (output q format files)
follows_begins q format [] [] files room (inl h) o = begins_nil (output q format files)
follows_begins q format [] (g ∷ gs) files room (inl h) o = absurd h
follows_begins q format (p ∷ ps) [] files room (inl h) o = absurd h
follows_begins q format (p ∷ ps) (g ∷ gs) files room (inl h) o =
    goes_on_by q format g gs files _ (covers_goes q format p g ps gs room h.0 (covers_alike q format ps gs room h.1)) o
follows_begins q format planned given files room (inr r) o =
    let h = r.4 in
    let P : List Entry → Type 0 = λ es. IsContinuation es files in
    let Q : List Entry → Type 0 = λ es. IsBeginning (output q format es) (output q format files) in
    subst Q (sym h.planned_is) (goes_on_by q format (Read r.0 (r.1 ++ r.2) r.3) h.before files _
    (reading_goes q format r.0 r.1 r.2 r.3 h.earlier h.before room h.stopped h.seam
    (covers_alike q format h.earlier h.before room h.covers)) (subst P h.given_is o))
