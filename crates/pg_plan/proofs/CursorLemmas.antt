-- The output of a plan grows by what its next step adds.
use Rattle.std.proofs.Common.{◌≡◌, ℕ, ◌⊎◌, inl, inr, Bool, true, false, not, cond, ◌||◌, List, [], ◌∷◌, ◌++◌, refl, sym}
use Rattle.std.proofs.Common.{ap, ◌∙◌, subst, append_assoc}
use Rattle.std.specs.List.{AllByRecursion}
use Rattle.std.proofs.lemmas.Bool.{false≢true}
use Rattle.std.proofs.lemmas.List.{append-nil}
use Rattle.std.proofs.lemmas.List.Concat.{flat_map-append}
use Rattle.pg_selection.specs.Search.{Search, terminator}
use Rattle.pg_blocks.specs.Lines.{lines}
use Rattle.pg_blocks.specs.Blocks.{BlockData, EndsWith, joined}
use Rattle.pg_blocks.proofs.LineLemmas.{lines-append}
use Rattle.pg_rows.specs.declared.format.Format.{Format}
use Rattle.pg_rows.specs.declared.format.Mode.{Mode}
use Rattle.pg_rows.specs.Modes.{shows_rows, end_row, rows_in}
use Rattle.pg_base.specs.Entries.{Entry, Read, Running, Ended, Failed, is_running}
use Rattle.pg_rows.specs.Output.{output, file_rows, is_below, line_rows, part_rows, count_row, name_row}
use Rattle.pg_plan.specs.Plan.{Step, Opens, Announces, Ends, Misses, IsShaped, is_open, last_blocks, entries_of}
use Rattle.pg_plan.specs.Plan.{with_bytes, with_end}
use Rattle.pg_base.specs.Sink.{IsBeginning}
use Rattle.pg_rows.specs.Trail.{run, run_rows, run_pieces}
use Rattle.pg_plan.specs.Cursor.{Cursor, moved, cursor_of, block_rows, counted, named}
use Rattle.pg_rows.proofs.ModeLemmas.{no_end, nothing_in, rows_are}
use Rattle.pg_rows.proofs.TrailLemmas.{IsTrail, no_trail}
use Rattle.pg_rows.proofs.FoldLemmas.{trail_more, rows_more, pieces_more, count_by_trail, name_by_trail, something}
use Rattle.pg_rows.proofs.FoldLemmas.{some_append, run_some}
use Rattle.std.proofs.Math.Bool.{or-false}

-- what a step adds to the output
abbrev pub step_rows : Search → Format → Cursor → Step → List ℕ
step_rows q format c (Opens name) = []
step_rows q format c (Announces b) = rows_in format.mode (block_rows q format c b.bytes) [] []
step_rows q format c (Ends failed) = rows_in format.mode [] (counted format c) (named format c)
step_rows q format c (Misses name) = []

pub joined_push : (xs : List BlockData) (b : BlockData) → joined (xs ++ b ∷ []) ≡ joined xs ++ b.bytes
joined_push xs b = flat_map-append (λ (x : BlockData). x.bytes) xs (b ∷ [])
    ∙ ap (λ ys. joined xs ++ ys) (append-nil b.bytes)

pub closed_joined : (end : ℕ) (bs : List BlockData) → AllByRecursion (λ b. EndsWith end b.bytes) bs → (joined bs ≡ [])
    ⊎ EndsWith end (joined bs)
closed_joined end [] h = inl refl
closed_joined end (b ∷ bs) h = elim (closed_joined end bs h.1) [
  | inl e ↦ inr (h.0.0, ap (λ ys. b.bytes ++ ys) e ∙ (append-nil b.bytes ∙ h.0.1))
  | inr w ↦ inr (b.bytes ++ w.0, ap (λ ys. b.bytes ++ ys) w.1 ∙ sym (append_assoc b.bytes w.0 (end ∷ [])))
]

rows_split : (m : Mode) (a b r : List ℕ) → (shows_rows m ≡ true → a ≡ b ++ r)
    → rows_in m a [] [] ≡ rows_in m b [] [] ++ rows_in m r [] []
rows_split m a b r h = go (shows_rows m) h
  where
    none : List ℕ
    none = end_row m [] []

    go : (shown : Bool) → (shown ≡ true → a ≡ b ++ r) → cond shown a none ≡ cond shown b none ++ cond shown r none
    go true h = h refl
    go false h = no_end m ∙ sym (ap (λ xs. xs ++ none) (no_end m) ∙ no_end m)

end_split : (m : Mode) (a c n : List ℕ) → rows_in m a c n ≡ rows_in m a [] [] ++ rows_in m [] c n
end_split m a c n = go (shows_rows m)
  where
    go : (shown : Bool) → cond shown a (end_row m c n)
        ≡ cond shown a (end_row m [] []) ++ cond shown [] (end_row m c n)
    go true = sym (append-nil a)
    go false = sym (ap (λ xs. xs ++ end_row m c n) (no_end m))

ends_running : (failed : Bool) → is_running (cond failed Failed Ended) ≡ false
ends_running true = refl
ends_running false = refl

module _ (q : Search) (format : Format) (limited : is_below 0 format.limit ≡ true) where
  abbrev end : ℕ
  end = terminator q

  abbrev IsPlain : Type 0
  IsPlain = (shows_rows format.mode ≡ true) × (format.parts ≡ false)

  -- the open file
  pub record IsAtFile (p : List Step) (c : Cursor) : Type 0 where
    pub bytes : List ℕ
    pub rest : List Entry
    pub entries : entries_of p ≡ Read c.name bytes Running ∷ rest
    pub same : bytes ≡ joined (last_blocks p)
    pub trail : IsTrail q format (lines end bytes) c.trail
    pub earlier : IsPlain → c.earlier ≡ something (output q format rest)

  pub record IsCursor (p : List Step) (c : Cursor) : Type 0 where
    pub wrote : IsPlain → (c.earlier || c.trail.some) ≡ something (output q format (entries_of p))
    pub file : is_open p ≡ true → IsAtFile p c

  -- the rows of lines, as the mode has them
  abbrev line_part : List ℕ → List (List ℕ) → Bool → List ℕ
  line_part name ls earlier = cond format.parts (part_rows q format name ls) (line_rows q format name ls earlier)

  file_running : (name bytes : List ℕ) (earlier : Bool)
      → file_rows q format name bytes false earlier ≡ rows_in format.mode
      (line_part name (lines end bytes) earlier) [] []
  unfolding file_rows
  file_running name bytes earlier = refl

  file_ended : (name bytes : List ℕ) (earlier : Bool)
      → file_rows q format name bytes true earlier ≡ rows_in format.mode (line_part name (lines end bytes) earlier)
      (count_row q format name (lines end bytes)) (name_row q format name (lines end bytes))
  unfolding file_rows
  file_ended name bytes earlier = refl

  part_more : (c : Cursor) (ls ms : List (List ℕ)) (earlier : Bool) → IsTrail q format ls c.trail
      → (format.parts ≡ false → c.earlier ≡ earlier) →
      line_part c.name (ls ++ ms) earlier
      ≡ line_part c.name ls earlier ++ cond format.parts (run_pieces q format c.name c.trail ms)
      (run_rows q format c.name c.earlier c.trail ms)
  part_more c ls ms earlier h e = go format.parts e
    where
      go : (t : Bool) → (t ≡ false → c.earlier ≡ earlier)
          → cond t (part_rows q format c.name (ls ++ ms)) (line_rows q format c.name (ls ++ ms) earlier) ≡ cond t
          (part_rows q format c.name ls) (line_rows q format c.name ls earlier) ++ cond t
          (run_pieces q format c.name c.trail ms) (run_rows q format c.name c.earlier c.trail ms)
      go true f = pieces_more q format c.name ls ms c.trail h
      go false f = rows_more q format c.name earlier ls ms c.trail h
          ∙ ap (λ x. line_rows q format c.name ls earlier ++ run_rows q format c.name x c.trail ms) (sym (f refl))

  pub open_rows : (name : List ℕ) (p : List Step)
      → output q format (entries_of (Opens name ∷ p)) ≡ output q format (entries_of p)
  open_rows name p =
      let earlier = something (output q format (entries_of p)) in
      ap (λ xs. output q format (entries_of p) ++ xs)
      (file_running name [] earlier ∙ (ap (λ xs. rows_in format.mode xs [] []) (none format.parts)
      ∙ nothing_in format.mode)) ∙ append-nil (output q format (entries_of p))
    where
      none : (t : Bool) → cond t (part_rows q format name [])
          (line_rows q format name [] (something (output q format (entries_of p)))) ≡ []
      none true = refl
      none false = refl

  module _ (p : List Step) (c : Cursor) (h : IsCursor p c) where
    -- a block's rows
    announce_rows : (b : BlockData) → IsShaped end (Announces b ∷ p)
        → output q format (entries_of (Announces b ∷ p)) ≡ output q format (entries_of p) ++ step_rows q format c
        (Announces b)
    announce_rows b lawful =
        let f = h.file lawful.0.running in
        let closed = closed_joined end (last_blocks p) lawful.0.seam in
        let seam : lines end (f.bytes ++ b.bytes) ≡ lines end f.bytes ++ lines end b.bytes =
        ap (λ xs. lines end (xs ++ b.bytes)) f.same
        ∙ (lines-append end (joined (last_blocks p)) b.bytes closed
        ∙ ap (λ xs. lines end xs ++ lines end b.bytes) (sym f.same)) in
        let before = output q format f.rest in
        let earlier = something before in
        let old = rows_in format.mode (line_part c.name (lines end f.bytes) earlier) [] [] in
        ap (λ es. output q format (with_bytes b.bytes es)) f.entries
        ∙ (ap (λ xs. before ++ xs)
        (file_running c.name (f.bytes ++ b.bytes) earlier
        ∙ (ap (λ ls. rows_in format.mode (line_part c.name ls earlier) [] []) seam
        ∙ rows_split format.mode (line_part c.name (lines end f.bytes ++ lines end b.bytes) earlier)
        (line_part c.name (lines end f.bytes) earlier) (block_rows q format c b.bytes)
        (λ rows. part_more c (lines end f.bytes) (lines end b.bytes) earlier f.trail
        (λ whole. f.earlier (rows, whole)))))
        ∙ (sym (append_assoc before old (rows_in format.mode (block_rows q format c b.bytes) [] []))
        ∙ ap (λ xs. xs ++ rows_in format.mode (block_rows q format c b.bytes) [] [])
        (sym (ap (output q format) f.entries ∙ ap (λ xs. before ++ xs) (file_running c.name f.bytes earlier)))))

    -- the rows at a file's end
    end_rows : (failed : Bool) → is_open p ≡ true
        → output q format (entries_of (Ends failed ∷ p)) ≡ output q format (entries_of p) ++ step_rows q format c
        (Ends failed)
    end_rows failed running =
        let f = h.file running in
        let before = output q format f.rest in
        let earlier = something before in
        let ls = lines end f.bytes in
        let old = rows_in format.mode (line_part c.name ls earlier) [] [] in
        ap (λ es. output q format (with_end failed es)) f.entries
        ∙ (ap (λ t. before ++ file_rows q format c.name f.bytes (not t) earlier) (ends_running failed)
        ∙ (ap (λ xs. before ++ xs)
        (file_ended c.name f.bytes earlier
        ∙ (end_split format.mode (line_part c.name ls earlier) (count_row q format c.name ls)
        (name_row q format c.name ls)
        ∙ (ap (λ xs. old ++ rows_in format.mode [] xs (name_row q format c.name ls))
        (count_by_trail q format c.name ls c.trail f.trail)
        ∙ ap (λ xs. old ++ rows_in format.mode [] (counted format c) xs)
        (name_by_trail q format c.name ls c.trail limited f.trail))))
        ∙ (sym (append_assoc before old (step_rows q format c (Ends failed)))
        ∙ ap (λ xs. xs ++ step_rows q format c (Ends failed))
        (sym (ap (output q format) f.entries ∙ ap (λ xs. before ++ xs) (file_running c.name f.bytes earlier))))))

    pub output_step : (s : Step) → IsShaped end (s ∷ p)
        → output q format (entries_of (s ∷ p)) ≡ output q format (entries_of p) ++ step_rows q format c s
    output_step (Opens name) lawful = open_rows name p ∙ sym (append-nil (output q format (entries_of p)))
    output_step (Announces b) lawful = announce_rows b lawful
    output_step (Ends failed) lawful = end_rows failed lawful.0
    output_step (Misses name) lawful = sym (append-nil (output q format (entries_of p)))

    cursor_open : (name : List ℕ) → IsCursor (Opens name ∷ p) (moved q format c (Opens name))
    cursor_open name = record {
      wrote = λ plain. or-false (c.earlier || c.trail.some) ∙ (h.wrote plain ∙ ap something (sym (open_rows name p)));
      file = λ _. record {
        bytes = [];
        rest = entries_of p;
        entries = refl;
        same = refl;
        trail = no_trail q format;
        earlier = h.wrote;
      };
    }

    cursor_announce : (b : BlockData) → IsShaped end (Announces b ∷ p)
        → IsCursor (Announces b ∷ p) (moved q format c (Announces b))
    cursor_announce b lawful =
        let f = h.file lawful.0.running in
        let closed = closed_joined end (last_blocks p) lawful.0.seam in
        let seam : lines end (f.bytes ++ b.bytes) ≡ lines end f.bytes ++ lines end b.bytes =
        ap (λ xs. lines end (xs ++ b.bytes)) f.same
        ∙ (lines-append end (joined (last_blocks p)) b.bytes closed
        ∙ ap (λ xs. lines end xs ++ lines end b.bytes) (sym f.same)) in
        let P : List (List ℕ) → Type 0 = λ ls. IsTrail q format ls (run q format c.trail (lines end b.bytes)) in
        let rows = run_rows q format c.name c.earlier c.trail (lines end b.bytes) in
        record {
          wrote = λ plain.
              ap (λ x. c.earlier || x) (run_some q format c.name c.earlier (lines end f.bytes)
              (lines end b.bytes) c.trail f.trail)
              ∙ (turn c.earlier (something rows) c.trail.some
              ∙ (ap (λ x. x || something rows) (h.wrote plain)
              ∙ (sym (some_append (output q format (entries_of p)) rows)
              ∙ ap something (ap (λ xs. output q format (entries_of p) ++ xs)
              (sym (rows_are format.mode (block_rows q format c b.bytes) [] [] plain.0
              ∙ ap (λ t. cond t (run_pieces q format c.name c.trail (lines end b.bytes)) rows) plain.1))
              ∙ sym (announce_rows b lawful)))));
          file = λ _. record {
            bytes = f.bytes ++ b.bytes;
            rest = f.rest;
            entries = ap (with_bytes b.bytes) f.entries;
            same = ap (λ xs. xs ++ b.bytes) f.same ∙ sym (joined_push (last_blocks p) b);
            trail = subst P (sym seam) (trail_more q format (lines end f.bytes) (lines end b.bytes) c.trail f.trail);
            earlier = f.earlier;
          };
        }
      where
        turn : (a r s : Bool) → (a || (r || s)) ≡ ((a || s) || r)
        turn true r s = refl
        turn false true true = refl
        turn false true false = refl
        turn false false true = refl
        turn false false false = refl

    cursor_end : (failed : Bool) → is_open p ≡ true → IsCursor (Ends failed ∷ p) c
    cursor_end failed running = record {
      wrote = λ plain. h.wrote plain ∙ ap something
          (sym (end_rows failed running ∙
          (ap (λ xs. output q format (entries_of p) ++ xs)
          (rows_are format.mode [] (counted format c) (named format c) plain.0)
          ∙ append-nil (output q format (entries_of p)))));
      file = λ still. absurd (false≢true still);
    }

    cursor_step : (s : Step) → IsShaped end (s ∷ p) → IsCursor (s ∷ p) (moved q format c s)
    cursor_step (Opens name) lawful = cursor_open name
    cursor_step (Announces b) lawful = cursor_announce b lawful
    cursor_step (Ends failed) lawful = cursor_end failed lawful.0
    cursor_step (Misses name) lawful = record
        { wrote = h.wrote; file = λ still. absurd (false≢true (sym lawful.0 ∙ still)) }

  pub cursor_is : (p : List Step) → IsShaped end p → IsCursor p (cursor_of q format p)
  cursor_is [] lawful = record { wrote = λ plain. refl; file = λ still. absurd (false≢true still) }
  cursor_is (s ∷ p) lawful = cursor_step p (cursor_of q format p) (cursor_is p lawful.1) s lawful

  -- what a plan's output is a beginning of
  pub plan_begins : (p : List Step) (more : List Step) → IsShaped end (more ++ p)
      → IsBeginning (output q format (entries_of p)) (output q format (entries_of (more ++ p)))
  plan_begins p [] lawful = ([], append-nil (output q format (entries_of p)))
  plan_begins p (s ∷ more) lawful =
      let r = plan_begins p more lawful.1 in
      let rows = step_rows q format (cursor_of q format (more ++ p)) s in (
        r.0 ++ rows,
        sym (append_assoc (output q format (entries_of p)) r.0 rows)
            ∙ (ap (λ xs. xs ++ rows) r.1 ∙ sym
            (output_step (more ++ p) (cursor_of q format (more ++ p)) (cursor_is (more ++ p) lawful.1) s lawful)),
      )
