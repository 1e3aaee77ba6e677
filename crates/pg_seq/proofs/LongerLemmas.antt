-- Files that were left rightly may be longer, and with -q later files change nothing.
use Rattle.std.proofs.Common.{◌≡◌, ◌⊎◌, inl, inr, ℕ, Bool, true, false, not, cond, ◌&&◌, ◌||◌, List, [], ◌∷◌, ◌++◌}
use Rattle.std.proofs.Common.{refl, sym, ap, ◌∙◌, subst, append_assoc}
use Rattle.std.specs.List.{list_any}
use Rattle.std.proofs.lemmas.Bool.{or_left, or_right, or_cases}
use Rattle.std.proofs.lemmas.List.Folds.{list_any-append}
use Rattle.pg_selection.specs.Search.{Search, terminator}
use Rattle.pg_blocks.specs.Lines.{lines, AreWhole}
use Rattle.pg_selection.specs.Selection.{selects}
use Rattle.pg_blocks.proofs.LineLemmas.{lines-append}
use Rattle.pg_rows.specs.declared.format.Format.{Format}
use Rattle.pg_base.specs.Entries.{Entry, Missed, Read, Ending, Running, Ended, Failed, Left, is_running, is_failed}
use Rattle.pg_rows.specs.Output.{status, HasRoom, is_nothing, is_bad, has_selected}
use Rattle.pg_rows.specs.Modes.{is_quiet}
use Rattle.pg_rows.proofs.ModeLemmas.{quiet_rows_in}
use Rattle.pg_rows.specs.Output.{file_rows, output}
use Rattle.pg_rows.specs.Enough.{lines_suffice, is_enough}
use Rattle.pg_seq.specs.Settled.{AreLeftRightly, MayBeLonger, GiveTheSame, ChangeNothing}
use Rattle.pg_seq.proofs.SettleLemmas.{suffice_settled}

-- a line of whole lines stays selected
pub stays_selected : (q : Search) (bytes more : List ℕ) → AreWhole (terminator q) bytes
    → list_any (selects q) (lines (terminator q) bytes) ≡ true
    → list_any (selects q) (lines (terminator q) (bytes ++ more)) ≡ true
stays_selected q bytes more whole e =
    let ls = lines (terminator q) bytes in
    let ms = lines (terminator q) more in
    ap (list_any (selects q)) (lines-append (terminator q) bytes more whole)
    ∙ (list_any-append (selects q) ls ms ∙ or_left (list_any (selects q) ls) (list_any (selects q) ms) e)

abbrev pub status_by : Bool → Bool → Bool → ℕ
status_by quiet selected bad = cond (quiet && selected) 0 (cond bad 2 (cond selected 0 1))

module _ (q : Search) (format : Format) where
  quiet_rows : (name bytes : List ℕ) (ended earlier : Bool) → is_quiet format.mode ≡ true
      → file_rows q format name bytes ended earlier ≡ []
  unfolding file_rows
  quiet_rows name bytes ended earlier e = quiet_rows_in format.mode _ _ _ e

  quiet_output : (entries : List Entry) → is_quiet format.mode ≡ true → output q format entries ≡ []
  quiet_output [] e = refl
  quiet_output (Missed name ∷ entries) e = quiet_output entries e
  quiet_output (Read name bytes ending ∷ entries) e =
      let ended = not (is_running ending) in
      let earlier = not (is_nothing (output q format entries)) in
      ap (λ xs. xs ++ file_rows q format name bytes ended earlier) (quiet_output entries e)
      ∙ quiet_rows name bytes ended earlier e

  -- why it was enough
  abbrev pub Reason : List ℕ → List ℕ → List Entry → Type 0
  Reason name front entries =
      ((is_quiet format.mode ≡ true) × (list_any (has_selected q) (Read name front Running ∷ entries) ≡ true))
      ⊎ ((is_quiet format.mode ≡ false)
      × (lines_suffice format.mode q format (lines (terminator q) front) ≡ true))

  pub reason : (name front : List ℕ) (entries : List Entry)
      → is_enough q format (Read name front Running ∷ entries) ≡ true → Reason name front entries
  reason name front entries e = go (is_quiet format.mode) refl e
    where
      go : (b : Bool) → is_quiet format.mode ≡ b
          → cond b (list_any (has_selected q) (Read name front Running ∷ entries))
          (true && lines_suffice format.mode q format (lines (terminator q) front)) ≡ true → Reason name front entries
      go true m e = inl (m, e)
      go false m e = inr (m, e)

  -- a file that was left rightly gives what its front gave, however long it is
  pub rows_of_left : (name front more : List ℕ) (entries : List Entry) (ended earlier : Bool) → HasRoom format
      → AreWhole (terminator q) front → Reason name front entries
      → file_rows q format name (front ++ more) ended earlier ≡ file_rows q format name front ended earlier
  rows_of_left name front more entries ended earlier room whole (inl r) =
      quiet_rows name (front ++ more) ended earlier r.0 ∙ sym (quiet_rows name front ended earlier r.0)
  rows_of_left name front more entries ended earlier room whole (inr r) =
      (suffice_settled q format front room whole r.1).rows name more ended earlier

  -- and a line was selected up to that file, however long it is
  selected_of_left : (name front more : List ℕ) (entries others : List Entry) (ending : Ending) → HasRoom format
      → AreWhole (terminator q) front → Reason name front entries
      → list_any (has_selected q) entries ≡ list_any (has_selected q) others
      → list_any (has_selected q) (Read name (front ++ more) ending ∷ others) ≡ true
  selected_of_left name front more entries others ending room whole (inl r) same =
      let head = list_any (selects q) (lines (terminator q) (front ++ more)) in
      let tail = list_any (has_selected q) others in
      elim
      (or_cases (list_any (selects q) (lines (terminator q) front)) (list_any (has_selected q) entries) r.1) [
        | inl e ↦ or_left head tail (stays_selected q front more whole e)
        | inr e ↦ or_right head tail (sym same ∙ e)
      ]
  selected_of_left name front more entries others ending room whole (inr r) same =
      or_left (list_any (selects q) (lines (terminator q) (front ++ more))) (list_any (has_selected q) others)
      ((suffice_settled q format front room whole r.1).selected more)

  -- two lists of files give the same, with what the status is made of
  pub record AreAlike (entries others : List Entry) : Type 0 where
    pub output : output q format entries ≡ output q format others
    pub bad : list_any is_bad entries ≡ list_any is_bad others
    pub selected : list_any (has_selected q) entries ≡ list_any (has_selected q) others

  pub alike_same : (entries others : List Entry) → AreAlike entries others → GiveTheSame q format entries others
  alike_same entries others h = record {
    output = h.output;
    status =
        ap (λ s. status_by (is_quiet format.mode) s (list_any is_bad entries)) h.selected
        ∙ ap (status_by (is_quiet format.mode) (list_any (has_selected q) others)) h.bad;
  }

  pub alike_none : AreAlike [] []
  alike_none = record { output = refl; bad = refl; selected = refl }

  pub alike_more : (entry other : Entry) (entries others : List Entry) → other ≡ entry → AreAlike entries others
      → AreAlike (entry ∷ entries) (other ∷ others)
  alike_more entry other entries others s h =
      let P : Entry → Type 0 = λ x. AreAlike (entry ∷ entries) (x ∷ others) in
      subst P (sym s)
      (record {
        output = go entry;
        bad = ap (λ b. is_bad entry || b) h.bad;
        selected = ap (λ b. has_selected q entry || b) h.selected;
      })
    where
      go : (x : Entry) → output q format (x ∷ entries) ≡ output q format (x ∷ others)
      go (Missed name) = h.output
      go (Read name bytes ending) =
          ap (λ xs. xs ++ file_rows q format name bytes (not (is_running ending)) (not (is_nothing xs))) h.output

  -- a file that was left rightly, at any two lengths
  pub alike_left : (name front more less : List ℕ) (entries others : List Entry) (a b : Ending) → HasRoom format
      → AreWhole (terminator q) front → Reason name front entries → is_running a ≡ false → is_running b ≡ false
      → is_failed a ≡ is_failed b → AreAlike entries others
      → AreAlike (Read name (front ++ less) a ∷ entries) (Read name (front ++ more) b ∷ others)
  alike_left name front more less entries others a b room whole r runs_a runs_b fails h =
      let before = output q format entries in
      let earlier = not (is_nothing before) in
      let ended = not (is_running b) in
      let same_rows : file_rows q format name (front ++ less) ended earlier
      ≡ file_rows q format name (front ++ more) ended earlier =
      rows_of_left name front less entries ended earlier room whole r
      ∙ sym (rows_of_left name front more entries ended earlier room whole r) in
      record {
        output =
            ap (λ t. before ++ file_rows q format name (front ++ less) (not t) earlier) (runs_a ∙ sym runs_b)
            ∙ (ap (λ xs. before ++ xs) same_rows
            ∙ ap (λ xs. xs ++ file_rows q format name (front ++ more) ended (not (is_nothing xs))) h.output);
        bad = ap (λ t. t || list_any is_bad entries) fails ∙ ap (λ t. is_failed b || t) h.bad;
        selected =
            selected_of_left name front less entries entries a room whole r refl
            ∙ sym (selected_of_left name front more entries others b room whole r h.selected);
      }

  longer_alike : (entries others : List Entry) → HasRoom format → AreLeftRightly q format entries
      → MayBeLonger entries others → AreAlike entries others
  longer_alike [] [] room h l = alike_none
  longer_alike [] (f ∷ fs) room h l = absurd l
  longer_alike (e ∷ es) [] room h l = absurd l
  longer_alike (Missed name ∷ es) (f ∷ fs) room h l =
      alike_more (Missed name) f es fs l.0 (longer_alike es fs room h l.1)
  longer_alike (Read name bytes Running ∷ es) (f ∷ fs) room h l = absurd h
  longer_alike (Read name bytes Ended ∷ es) (f ∷ fs) room h l =
      alike_more (Read name bytes Ended) f es fs l.0 (longer_alike es fs room h l.1)
  longer_alike (Read name bytes Failed ∷ es) (f ∷ fs) room h l =
      alike_more (Read name bytes Failed) f es fs l.0 (longer_alike es fs room h l.1)
  longer_alike (Read name bytes Left ∷ es) (f ∷ fs) room h l =
      let r = h.0 in
      let more = l.0.0 in
      let ending = l.0.1 in
      let P : List ℕ → Type 0 = λ xs. AreAlike (Read name xs Left ∷ es) (f ∷ fs) in
      let Q : Entry → Type 0 = λ x. AreAlike (Read name (r.front ++ r.rest) Left ∷ es) (x ∷ fs) in
      let is : f ≡ Read name (r.front ++ (r.rest ++ more)) ending = l.0.4
      ∙ (ap (λ xs. Read name (xs ++ more) ending) r.joins
      ∙ ap (λ xs. Read name xs ending) (append_assoc r.front r.rest more)) in
      subst P (sym r.joins)
      (subst Q (sym is)
      (alike_left name r.front (r.rest ++ more) r.rest es fs Left ending room r.whole (reason name r.front es r.enough)
      refl l.0.2 (sym l.0.3) (longer_alike es fs room h.1 l.1)))

  pub longer_same : (entries others : List Entry) → HasRoom format → AreLeftRightly q format entries
      → MayBeLonger entries others → GiveTheSame q format entries others
  longer_same entries others room h l = alike_same entries others (longer_alike entries others room h l)

  -- with -q, once a line is selected, nothing is written and the status is 0, whatever files follow
  quiet_nothing : (entries later : List Entry) → is_quiet format.mode ≡ true
      → list_any (has_selected q) entries ≡ true
      → (output q format (later ++ entries) ≡ []) × (status q format (later ++ entries) ≡ 0)
  quiet_nothing entries later quiet e =
      let all = later ++ entries in
      let bad = list_any is_bad all in
      let selected : list_any (has_selected q) all ≡ true = list_any-append (has_selected q) later entries
      ∙ or_right (list_any (has_selected q) later) (list_any (has_selected q) entries) e in (
        quiet_output all quiet,
        ap (λ b. status_by b (list_any (has_selected q) all) bad) quiet ∙ ap (λ b. status_by true b bad) selected,
      )

  -- so later files change nothing
  pub quiet_later : (entries later : List Entry) → is_quiet format.mode ≡ true
      → list_any (has_selected q) entries ≡ true → ChangeNothing q format entries later
  quiet_later entries later quiet e =
      let one = quiet_nothing entries [] quiet e in
      let all = quiet_nothing entries later quiet e in
      record { nothing = all; same = record { output = one.0 ∙ sym all.0; status = one.1 ∙ sym all.1 } }
