-- Lines in which a row of sets stands, and lines in which it doesn't.
use Rattle.std.proofs.Common.{◌≡◌, ℕ, ◌+◌, ◌-◌, ◌<◌, ◌≤◌, inl, inr, Bool, true, false, List, [], ◌∷◌, ◌++◌, Option}
use Rattle.std.proofs.Common.{Some, None}
use Rattle.std.proofs.Common.{length, take, drop, get_or, refl, sym, ap, ◌∙◌, subst, arith, IsTrue, length-append}
use Rattle.std.proofs.Common.{length-drop}
use Rattle.std.specs.Prelude.{IfOk, IfSome, Result, Ok, Err}
use Rattle.std.specs.List.{All, AllByRecursion}
use Rattle.std.proofs.lemmas.Bool.{cases_Bool, cases_lt}
use Rattle.std.proofs.lemmas.List.{take-append-drop, drop_at, get_or-drop, get_or-take, length-take-le}
use Rattle.std.proofs.lemmas.List.Prefix.{at_reads}
use Rattle.std.proofs.lemmas.Option.{slice_get-get_or, get_or_from_slice_get}
use Rattle.memchr.specs.Find as F
use Rattle.pg_pattern.specs.Hits.{HasHit}
use Rattle.pg_literal.specs.Needed.{IsEnoughRow, IsNeeded}
use Rattle.pg_literal.specs.Rows.{StandsAt}
use Rattle.pg_literal.specs.declared.row_finder.RowFinder.{RowFinder}
use Rattle.pg_literal.proofs.FinderLemmas.{each_stands, stands_each, stands_fits}
use Rattle.pg_literal.proofs.RowLemmas.{stands_within}
use Rattle.pg_blocks.specs.Lines.{lines, terminated, IsLine, Stops}
use Rattle.pg_blocks.proofs.LineLaws.{lines_are_lines}
use Rattle.pg_blocks.proofs.LineLemmas.{made, around}
use Rattle.pg_selection.specs.Search.{SearchText, Pattern, Bounds, AreTreesOf, bounds_of, search_of, terminator_of}
use Rattle.pg_selection.specs.Search.{uninverted}
use Rattle.pg_selection.specs.Selection.{selects}
use Rattle.pg_selection.specs.Runs.{AllLines}
use Rattle.pg_selection.proofs.SelectLemmas.{selects_decides}
use Rattle.pg_selection.proofs.TreeLemmas.{same_trees}
use Rattle.pg_prefilter.specs.Literals.{HoldsRow, IsRowOf, finder_row}
use Rattle.pg_prefilter.specs.Candidates.{AreWithoutRow, IsFirstWithRow, IsLineAround, IsNextWithRow}
use Rattle.pg_prefilter.specs.declared.candidate.Candidate.{Candidate}
use Rattle.pg_prefilter.specs.declared.candidate.NextLine.{NextLine}
use Rattle.pg_prefilter.specs.declared.candidate.NextLine.TheVariants.{Found, Nowhere, GaveUp}
use Rattle.pg_prefilter.proofs.CandidateLemmas.{IsFirstCandidate, IsNextCandidate, all_more}
use Rattle.pg_prefilter.proofs.LineLemmas.{all_by_index, around_is}

-- the sets of a row
abbrev Sets : Type 0
Sets = List (ℕ → Bool)

-- what is read behind them
abbrev empty : ℕ → Bool
empty b = false

-- a row that stands in a part stands in the whole
stands_inside : (xs front l tail : List ℕ) (row : Sets) (i : ℕ) → xs ≡ front ++ (l ++ tail) → StandsAt l row i
    → StandsAt xs row (length front + i)
stands_inside xs front l tail [] i e o =
    omega (arith, ap length e, length-append front (l ++ tail), length-append l tail, o)
stands_inside xs front l tail (set ∷ row) i e o =
    let less = stands_within l row (i + 1) o.1 in
    let long : length xs ≡ length front + (length l + length tail) =
    omega (arith, ap length e, length-append front (l ++ tail), length-append l tail) in
    let d : drop (length front) xs ≡ l ++ tail = ap (drop (length front)) e
    ∙ drop_at front (l ++ tail) (length front) refl in
    let byte : get_or xs (length front + i) 0 ≡ o.0.0 =
    at_reads 0 xs l (length front) tail d i (omega (arith, less)) ∙ get_or_from_slice_get l i o.0.0 0 o.0.1 in
    let next : length front + (i + 1) ≡ length front + i + 1 = omega arith in (
      (o.0.0, slice_get-get_or xs (length front + i) 0 (omega (arith, less, long)) ∙ ap Some byte, o.0.2),
      subst (StandsAt xs row) next (stands_inside xs front l tail row (i + 1) e o.1),
    )

-- one that stands before a place stands in the whole
stands_upto : (xs : List ℕ) (row : Sets) (s i : ℕ) → StandsAt (take s xs) row i → StandsAt xs row i
stands_upto xs row s i o =
    let none : 0 + i ≡ i = omega arith in
    subst (StandsAt xs row) none (stands_inside xs [] (take s xs) (drop s xs) row i (sym (take-append-drop s xs)) o)

both_of : (P Q : List ℕ → Type 0) (ls : List (List ℕ)) → AllByRecursion P ls → AllByRecursion Q ls
    → AllByRecursion (λ l. P l × Q l) ls
both_of P Q [] p q = tt
both_of P Q (l ∷ ls) p q = ((p.0, q.0), both_of P Q ls p.1 q.1)

-- where it stands nowhere, no line has it
lines_without : (end : ℕ) (bytes : List ℕ) (row : Sets) → ((i : ℕ) → StandsAt bytes row i → ⊥)
    → AreWithoutRow end row bytes
lines_without end bytes row none = all_by_index (λ l. HoldsRow row l → ⊥) (lines end bytes) (λ k below o.
    let r = around end bytes (lines end bytes) (made end bytes) k below in
    let front = terminated end (take k (lines end bytes)) in
    none (length front + o.0) (stands_inside bytes front (get_or (lines end bytes) k []) r.0 row o.0 r.1 o.1))

-- a row that ends within a part stands in the part
stands_part : (bytes : List ℕ) (row : Sets) (s e k : ℕ) → s ≤ k → e ≤ length bytes → k + length row ≤ e
    → StandsAt bytes row k → StandsAt (take (e - s) (drop s bytes)) row (k - s)
stands_part bytes row s e k low high fits o =
    let line = take (e - s) (drop s bytes) in
    let size : length line ≡ e - s = length-take-le (e - s) (drop s bytes) (omega (arith, length-drop s bytes)) in
    stands_each line row (k - s) (omega arith) (λ j less.
    let at : s + ((k - s) + j) ≡ k + j = omega arith in
    let read : get_or line ((k - s) + j) 0 ≡ get_or bytes (k + j) 0 =
    get_or-take (e - s) (drop s bytes) ((k - s) + j) 0 (omega arith)
    ∙ (get_or-drop s bytes ((k - s) + j) 0 ∙ ap (λ n. get_or bytes n 0) at) in
    ap (get_or row j empty) read ∙ (each_stands bytes row k j less o).1)

-- a row without the terminator ends where a line does, or before
row_ends : (end : ℕ) (bytes : List ℕ) (row : Sets) (k e stop : ℕ) → All (λ set. set end ≡ true → ⊥) row
    → StandsAt bytes row k → k ≤ e → Stops end bytes e stop → k + length row ≤ e
row_ends end bytes row k e stop within o low stops = elim (cases_lt e (k + length row)) [
  | inr fits ↦ fits
  | inl beyond ↦ elim stops [
    | inl h ↦
        let at : k + (e - k) ≡ e = omega arith in
        let byte : get_or bytes (k + (e - k)) 0 ≡ end = ap (λ n. get_or bytes n 0) at ∙ h.2 in
        let less : e - k < length row = omega arith in
        absurd (within (e - k) empty less
        (ap (get_or row (e - k) empty) (sym byte) ∙ (each_stands bytes row k (e - k) less o).1))
    | inr h ↦ omega (arith, h.1, stands_fits bytes row k o)
  ]
]

module _ {A : Type 0} (text : SearchText) (finder : RowFinder A) (is : IsRowOf text finder) where
  -- the row stands nowhere: no line has it
  pub nowhere_row : (end : ℕ) (bytes : List ℕ) → F.Nowhere (StandsAt bytes (finder_row finder)) 0 (length bytes)
      → AreWithoutRow end (finder_row finder) bytes
  nowhere_row end bytes none = lines_without end bytes (finder_row finder) (λ i o.
      let fits = stands_fits bytes (finder_row finder) i o in
      none i (omega arith) (omega (arith, fits, is.some)) o)

  -- the line around the first place at which it stands is the first that has it
  pub first_row : (at : ℕ) (bytes : List ℕ) (k : ℕ) (found : Candidate)
      → F.Nowhere (StandsAt bytes (finder_row finder)) 0 k → k < length bytes → StandsAt bytes (finder_row finder) k
      → finder.is_enough ≡ found.is_enough → IsLineAround (terminator_of text) at bytes k found.line
      → IsFirstWithRow (terminator_of text) finder at bytes found
      × (found.line.start < found.line.end) × (found.line.end ≤ at + length bytes)
  first_row at bytes k found none below o flag h =
      let E = terminator_of text in
      let line = around_is E at bytes k found.line h below in
      let low = h.low in (
        record {
          s = h.s;
          e = h.e;
          stop = h.stop;
          is = line.0;
          front = h.front;
          without = lines_without E (take h.s bytes) (finder_row finder) (λ i o.
              let fits = stands_fits (take h.s bytes) (finder_row finder) i o in
              let size = length-take-le h.s bytes (omega arith) in
              let whole = stands_upto bytes (finder_row finder) h.s i o in
              none i (omega arith) (omega (arith, fits, size, is.some)) whole);
          holds =
              let fits = row_ends E bytes (finder_row finder) k h.e h.stop is.within o h.high h.stops in
              (k - h.s, stands_part bytes (finder_row finder) h.s h.e k low line.3 fits o);
          enough = sym flag;
          starts = h.starts;
          ends = h.ends;
        },
        omega (arith, line.1, h.starts, h.ends),
        omega (arith, line.2, h.ends),
      )

  -- lines without the row have no hit
  missed_row : (bytes : List ℕ) → AreWithoutRow (terminator_of text) (finder_row finder) bytes → (trees : List Pattern)
      → AreTreesOf text trees → AllLines (search_of (uninverted text) trees) false bytes
  missed_row bytes none trees spelled =
      let q = search_of (uninverted text) trees in
      let E = terminator_of text in
      let row = finder_row finder in
      all_more (λ l. IsLine E l × (HoldsRow row l → ⊥)) (λ l. selects q l ≡ false) (lines E bytes)
      (λ l h. elim (cases_Bool (selects q l)) [
        | inl chosen ↦ absurd (h.1 (is.needed trees spelled l h.0 ((selects_decides q l).0 chosen)))
        | inr none' ↦ none'
      ])
      (both_of (IsLine E) (λ l. HoldsRow row l → ⊥) (lines E bytes) (lines_are_lines E bytes).each none)

  -- the first line that has it is the first that may have a hit
  row_candidate : (at : ℕ) (bytes : List ℕ) (found : Candidate)
      → IsFirstWithRow (terminator_of text) finder at bytes found → IsFirstCandidate text at bytes found
  row_candidate at bytes found first = record {
    s = first.s;
    e = first.e;
    stop = first.stop;
    is = first.is;
    front = first.front;
    missed = missed_row (take first.s bytes) first.without;
    enough = λ flag trees spelled.
        let line = take (first.e - first.s) (drop first.s bytes) in
        (selects_decides (search_of (uninverted text) trees) line).1
        (is.enough (sym first.enough ∙ flag) trees spelled line first.holds);
    starts = first.starts;
    ends = first.ends;
  }

  -- the same of the first one from a place on, if there is one
  pub next_row : (at : ℕ) (bytes : List ℕ) (next : NextLine) → IsNextWithRow (terminator_of text) finder at bytes next
      → IsNextCandidate text at bytes next
  next_row at bytes (Found found) h = (h.0, h.1, h.2, row_candidate at (drop at bytes) found h.3)
  next_row at bytes Nowhere h = missed_row (drop at bytes) h
  next_row at bytes GaveUp h = tt

-- the row of a text's trees
pub row_known : {A E : Type 0} (found : Result (Option (RowFinder A)) E) (text : SearchText) (trees : List Pattern)
    (bounds : Bounds) (end : ℕ) → AreTreesOf text trees → bounds ≡ bounds_of text → end ≡ terminator_of text
    → IfOk found (λ o. IfSome o (λ finder. IsNeeded trees bounds end (finder_row finder)))
    → IfOk found (λ o. IfSome o (λ finder. IsTrue finder.is_enough → IsEnoughRow trees bounds (finder_row finder)))
    → IfOk found (λ o. IfSome o (IsRowOf text))
row_known (Err e) text trees bounds end spelled own same h enough = tt
row_known (Ok None) text trees bounds end spelled own same h enough = tt
row_known (Ok (Some finder)) text trees bounds end spelled own same h enough =
    let row = finder_row finder in
    let is = subst (λ t. IsNeeded trees (bounds_of text) t row) same (subst (λ b. IsNeeded trees b end row) own h) in
    record {
      some = is.some;
      within = is.within;
      needed = λ trees' spelled' line alone hit.
          is.stands line alone (subst (λ ts. HasHit ts (bounds_of text) line)
          (same_trees text trees' trees spelled' spelled) hit);
      enough = λ flag trees' spelled' line o.
          subst (λ ts. HasHit ts (bounds_of text) line) (same_trees text trees trees' spelled spelled')
          (subst (λ b. HasHit trees b line) own (enough flag line o.0 o.1));
    }
