-- Lines that hold literals, and which of them are selected.
use Rattle.std.proofs.Common.{◌≡◌, ◌≢◌, ℕ, zero, suc, ◌+◌, ◌-◌, ◌<◌, ◌≤◌, ◌^◌, ◌⊎◌, inl, inr, Bool, true, false, List}
use Rattle.std.proofs.Common.{[], ◌∷◌}
use Rattle.std.proofs.Common.{◌++◌, length, take, drop, slice_range, refl, sym, ap, ◌∙◌, subst, arith, append_assoc}
use Rattle.std.proofs.Common.{IsTrue, length-append}
use Rattle.std.specs.List.{AllByRecursion, Any}
use Rattle.std.proofs.lemmas.List.{take-append-drop, drop-drop, drop_at, take_at, append-nil, length-take-le}
use Rattle.pg_literal.specs.Literals.{Holds}
use Rattle.pg_blocks.specs.Lines.{lines, AreWhole, AreShort}
use Rattle.pg_selection.specs.Search.{SearchText, Search, Pattern, AreTreesOf, search_of, uninverted}
use Rattle.pg_selection.specs.Search.{terminator_of, terminator}
use Rattle.pg_selection.specs.Selection.{selects}
use Rattle.pg_selection.specs.Runs.{AllLines, IsNextRun}
use Rattle.pg_prefilter.specs.NextHits.{IsNextLine}
use Rattle.pg_prefilter.specs.Literals.{LiteralData, HoldsOne, AreLiterals}
use Rattle.pg_prefilter.specs.Candidates.{AreWithout, IsFirstWith, IsLineAt, IsNextWith}
use Rattle.pg_prefilter.specs.NextHits.{HasNoNextHit}
use Rattle.pg_prefilter.specs.declared.candidate.Candidate.{Candidate}
use Rattle.pg_prefilter.specs.declared.candidate.NextLine.{NextLine}
use Rattle.pg_prefilter.specs.declared.candidate.NextLine.TheVariants.{Found, Nowhere, GaveUp}
use Rattle.pg_blocks.specs.declared.span.Span.{Span}
use Rattle.pg_prefilter.proofs.HitLemmas.{without_missed, held_hit}
use Rattle.pg_blocks.proofs.LineLemmas.{lines-append, whole_append}
use Rattle.pg_prefilter.proofs.LineLemmas.{line_among, line_found, line_unselected, line_passed, all_lines-append}
use Rattle.pg_prefilter.proofs.LineLemmas.{all_back}

pub all_more : (P Q : List ℕ → Type 0) (ls : List (List ℕ)) → ((l : List ℕ) → P l → Q l) → AllByRecursion P ls
    → AllByRecursion Q ls
all_more P Q [] more h = tt
all_more P Q (l ∷ ls) more h = (more l h.0, all_more P Q ls more h.1)

nothing_behind : (xs : List ℕ) (n : ℕ) → length xs ≤ n → drop n xs ≡ []
nothing_behind [] zero h = refl
nothing_behind [] (suc n) h = refl
nothing_behind (x ∷ xs) zero h = absurd (omega arith)
nothing_behind (x ∷ xs) (suc n) h = nothing_behind xs n (omega arith)

-- The first line that may have a hit, in bytes that stand from a place on: before it are whole lines that have none.
-- Where the flag is set, it has one.
pub record IsFirstCandidate (text : SearchText) (at : ℕ) (bytes : List ℕ) (found : Candidate) : Type 0 where
  pub s : ℕ
  pub e : ℕ
  pub stop : ℕ
  pub is : IsLineAt (terminator_of text) bytes s e stop
  pub front : AreWhole (terminator_of text) (take s bytes)
  pub missed : (trees : List Pattern) → AreTreesOf text trees
      → AllLines (search_of (uninverted text) trees) false (take s bytes)
  pub enough : IsTrue found.is_enough → (trees : List Pattern) → AreTreesOf text trees
      → selects (search_of (uninverted text) trees) (take (e - s) (drop s bytes)) ≡ true
  pub starts : found.line.start ≡ at + s
  pub ends : found.line.end ≡ at + stop

-- the same of bytes from a place on, if there is such a line and the search wasn't given up
abbrev pub IsNextCandidate : SearchText → ℕ → List ℕ → NextLine → Type 0
IsNextCandidate text at bytes (Found found) =
    (at ≤ found.line.start) × (found.line.start < found.line.end) × (found.line.end ≤ length bytes)
    × IsFirstCandidate text at (drop at bytes) found
IsNextCandidate text at bytes Nowhere = HasNoNextHit text bytes at
IsNextCandidate text at bytes GaveUp = Unit {0}

-- the text of the line that was found
abbrev pub text_found : (text : SearchText) (at : ℕ) (bytes : List ℕ) (found : Candidate)
    → IsFirstCandidate text at bytes found → List ℕ
text_found text at bytes found first = take (first.e - first.s) (drop first.s bytes)

-- whole lines behind a place, up to another one, of which none is selected
pub record IsSkipped (q : Search) (at from : ℕ) (bytes : List ℕ) : Type 0 where
  pub skipped : List ℕ
  pub joins : drop at bytes ≡ skipped ++ drop from bytes
  pub len : at + length skipped ≡ from
  pub whole : AreWhole (terminator q) skipped ⊎ (drop from bytes ≡ [])
  pub unselected : AllLines q false skipped

module _ (q : Search) (at from : ℕ) (bytes : List ℕ) (is : IsSkipped q at from bytes) where
  -- what stands before lines that are left is whole
  skipped_whole : drop from bytes ≢ [] → AreWhole (terminator q) is.skipped
  skipped_whole some = elim is.whole [ inl w ↦ w | inr none ↦ absurd (some none) ]

  -- no line is left
  pub skipped_all : AllLines q false (drop from bytes) → AllLines q false (drop at bytes)
  skipped_all none =
      let P : List ℕ → Type 0 = λ xs. AllLines q false xs in
      subst P (sym is.joins) (elim is.whole [
        | inl w ↦ all_lines-append q false is.skipped (drop from bytes) w is.unselected none
        | inr e ↦ subst P (sym (ap (λ xs. is.skipped ++ xs) e ∙ append-nil is.skipped)) is.unselected
      ])

  -- the first selected line behind is the first one
  pub skipped_some : (line : Span) → IsNextLine q from (drop from bytes) line → IsNextLine q at (drop at bytes) line
  skipped_some line found =
      let n = found.1 in
      let E = terminator q in
      let some : drop from bytes ≢ [] = λ e. n.text_some (empty_text n.gap n.text n.later (sym n.joins ∙ e)) in
      let whole = skipped_whole some in
      let front = is.skipped ++ n.gap in
      let len = length-append is.skipped n.gap in
      let next : IsNextRun q at 0 (drop at bytes)
      (record { span = line; first = length (lines E front); count = 1 }) = record {
        gap = front;
        text = n.text;
        later = n.later;
        joins = is.joins
            ∙ (ap (λ xs. is.skipped ++ xs) (n.joins ∙ append_assoc n.gap n.text n.later)
            ∙ (sym (append_assoc is.skipped n.gap (n.text ++ n.later))
            ∙ sym (append_assoc front n.text n.later)));
        gap_whole = whole_append E is.skipped n.gap whole n.gap_whole;
        gap_unselected = all_lines-append q false is.skipped n.gap whole is.unselected n.gap_unselected;
        text_some = n.text_some;
        text_whole = n.text_whole;
        text_selected = n.text_selected;
        start = omega (arith, n.start, is.len, len);
        stop = omega (arith, n.stop, is.len, len);
        first = omega arith;
        count = n.count;
      } in
      (length (lines E front), next)
    where
      empty_text : (xs ys zs : List ℕ) → (xs ++ ys) ++ zs ≡ [] → ys ≡ []
      empty_text [] [] zs e = refl
      empty_text [] (y ∷ ys) zs e = absurd (omega (arith, ap length e))
      empty_text (x ∷ xs) ys zs e = absurd (omega (arith, ap length e))

module _ (text : SearchText) (literals : List LiteralData) (are : AreLiterals text literals)
    (any : 0 < length literals) where
  -- lines without a literal have no hit
  pub missed_without : (bytes : List ℕ) → AreWithout text.fold (terminator_of text) literals bytes
      → (trees : List Pattern) → AreTreesOf text trees → AllLines (search_of (uninverted text) trees) false bytes
  missed_without bytes none trees spelled =
      let own = search_of (uninverted text) trees in
      all_more (λ l. HoldsOne text.fold literals l → ⊥) (λ l. selects own l ≡ false) (lines (terminator_of text) bytes)
      (λ l h. without_missed text trees spelled literals are l any h) none

  -- the first line that holds one is the first that may have a hit
  pub first_with : (at : ℕ) (bytes : List ℕ) (found : Candidate)
      → IsFirstWith text.fold (terminator_of text) literals at bytes found → IsFirstCandidate text at bytes found
  first_with at bytes found first =
      let line = take (first.e - first.s) (drop first.s bytes) in
      let P : Bool → Type 0 = λ b. Any (λ l. (l.is_enough ≡ b) × Holds text.fold line l.text) literals in
      record {
        s = first.s;
        e = first.e;
        stop = first.stop;
        is = first.is;
        front = first.front;
        missed = missed_without (take first.s bytes) first.without;
        enough = λ flag trees spelled. held_hit text trees spelled literals are line (subst P flag first.holds);
        starts = first.starts;
        ends = first.ends;
      }

  -- the same of the first one from a place on, if there is one
  pub next_with : (at : ℕ) (bytes : List ℕ) (next : NextLine)
      → IsNextWith text.fold (terminator_of text) literals at bytes next → IsNextCandidate text at bytes next
  next_with at bytes (Found found) h = (h.0, h.1, h.2, first_with at (drop at bytes) found h.3)
  next_with at bytes Nowhere h = missed_without (drop at bytes) h
  next_with at bytes GaveUp h = tt

module _ (text : SearchText) (trees : List Pattern) (spelled : AreTreesOf text trees) where
  abbrev own : Search
  own = search_of (uninverted text) trees

  module _ (at : ℕ) (bytes : List ℕ) (found : Candidate) (first : IsFirstCandidate text at bytes found) where
    -- the first line that may have a hit is the first one with a hit, where it has one
    pub first_selected : selects own (text_found text at bytes found first) ≡ true → IsNextLine own at bytes found.line
    first_selected chosen =
        line_found own bytes at first.s first.e first.stop found.line first.is first.front
        (first.missed trees spelled) chosen first.starts first.ends

    -- one that is enough decides
    pub first_enough : found.is_enough ≡ true → IsNextLine own at bytes found.line
    first_enough flag = first_selected (first.enough flag trees spelled)

    -- else no line up to its end has one
    first_unselected : selects own (text_found text at bytes found first) ≡ false
        → AllLines own false (take first.stop bytes)
    first_unselected not_chosen =
        line_unselected own bytes first.s first.e first.stop first.is first.front (first.missed trees spelled)
        not_chosen

  -- one more line that might have a hit has none
  pub skipped_more : (at from : ℕ) (bytes : List ℕ) (found : Candidate) → IsSkipped own at from bytes
      → (first : IsFirstCandidate text from (drop from bytes) found)
      → selects own (text_found text from (drop from bytes) found first) ≡ false
      → IsSkipped own at found.line.end bytes
  skipped_more at from bytes found is first not_chosen =
      let q = search_of (uninverted text) trees in
      let E = terminator_of text in
      let rest = drop from bytes in
      let more = take first.stop rest in
      let some : rest ≢ [] = λ e. first.is.some (none_left first e) in
      let whole = skipped_whole q at from bytes is some in
      let none = first_unselected from rest found first not_chosen in
      let back : drop first.stop rest ≡ drop found.line.end bytes =
      drop-drop first.stop from bytes ∙ ap (λ n. drop n bytes) (sym first.ends) in
      let high : first.stop ≤ length rest = stop_within first in
      let long = length-take-le first.stop rest high in
      let len = length-append is.skipped more in
      record {
        skipped = is.skipped ++ more;
        joins = is.joins
            ∙ (ap (λ xs. is.skipped ++ xs) (sym (take-append-drop first.stop rest))
            ∙ (sym (append_assoc is.skipped more (drop first.stop rest)) ∙ ap (λ xs. (is.skipped ++ more) ++ xs) back));
        len = omega (arith, is.len, len, long, first.ends);
        whole = elim (line_passed E rest first.s first.e first.stop first.is first.front) [
          | inl w ↦ inl (whole_append E is.skipped more whole w)
          | inr all ↦ inr (sym back ∙ nothing_behind rest first.stop (omega (arith, all)))
        ];
        unselected = all_lines-append q false is.skipped more whole is.unselected none;
      }
    where
      stop_within : {from' : ℕ} {xs : List ℕ} {found' : Candidate}
          (f : IsFirstCandidate text from' xs found')
          → f.stop ≤ length xs
      stop_within {from'} {xs} {found'} f =
          let all = ap length f.is.joins in
          omega (
            arith,
            all,
            length-append (take f.s xs ++ f.is.text) f.is.later,
            length-append (take f.s xs) f.is.text,
            f.is.front,
            f.is.len,
          )

      none_left : {from' : ℕ} {xs : List ℕ} {found' : Candidate}
          (f : IsFirstCandidate text from' xs found')
          → xs ≡ [] → f.is.text ≡ []
      none_left {from'} {xs} {found'} f e =
          let all = ap length f.is.joins in
          no_bytes f.is.text (omega (
            arith,
            all,
            ap length e,
            length-append (take f.s xs ++ f.is.text) f.is.later,
            length-append (take f.s xs) f.is.text,
          ))
        where
          no_bytes : (ys : List ℕ) → length ys ≤ 0 → ys ≡ []
          no_bytes [] h = refl
          no_bytes (y ∷ ys) h = absurd (omega arith)

module _ (text : SearchText) (at : ℕ) (bytes : List ℕ) (found : Candidate)
    (first : IsFirstCandidate text at (drop at bytes) found) where
  abbrev E : ℕ
  E = terminator_of text

  abbrev rest : List ℕ
  rest = drop at bytes

  apart : lines E rest ≡ lines E (take first.s rest)
      ++ (take (first.e - first.s) (drop first.s rest) ∷ lines E first.is.later)
  apart =
      let is = first.is in
      let behind : lines E (is.text ++ is.later) ≡ lines E is.text ++ lines E is.later = elim is.whole [
        | inl w ↦ lines-append E is.text is.later w.0
        | inr h ↦ ap (λ xs. lines E (is.text ++ xs)) h.0
            ∙ (ap (lines E) (append-nil is.text)
            ∙ sym (ap (λ xs. lines E is.text ++ lines E xs) h.0 ∙ append-nil (lines E is.text)))
      ] in
      ap (lines E) (is.joins ∙ append_assoc (take first.s rest) is.text is.later)
      ∙ (lines-append E (take first.s rest) (is.text ++ is.later) first.front
      ∙ ap (λ ls. lines E (take first.s rest) ++ ls) (behind ∙ ap (λ ls. ls ++ lines E is.later) is.one))

  -- the line isn't too long where no line is, nor are those behind it
  pub first_short : AreShort E rest
      → (length (text_found text at rest found first) ≤ 2 ^ 30) × AreShort E (drop found.line.end bytes)
  first_short short =
      let is = first.is in
      let Short : List ℕ → Type 0 = λ l. length l ≤ 2 ^ 30 in
      let P : List (List ℕ) → Type 0 = λ ls. AllByRecursion Short ls in
      let Q : List ℕ → Type 0 = λ xs. AreShort E xs in
      let all = all_back Short (lines E (take first.s rest)) _ (subst P apart short) in
      let back : drop first.stop rest ≡ drop found.line.end bytes =
      drop-drop first.stop at bytes ∙ ap (λ n. drop n bytes) (sym first.ends) in (
        all.0,
        subst Q back (elim is.whole [
          | inl w ↦ subst Q w.1 all.1
          | inr h ↦ subst Q (sym (nothing_behind rest first.stop (omega (arith, h.1)))) tt
        ]),
      )

  -- the line among the bytes
  pub first_line : lines E (slice_range bytes found.line.start found.line.end)
      ≡ text_found text at rest found first ∷ []
  first_line = line_among E at bytes first.s first.e first.stop found.line first.is first.starts first.ends

-- the line that was found, and what was cut out as its text
pub found_text : (text : SearchText) (at : ℕ) (bytes : List ℕ) (found : Candidate) (end : ℕ) (cut : List ℕ)
    → end ≡ terminator_of text → (first : IsFirstCandidate text at (drop at bytes) found)
    → ((line : List ℕ) → lines end (slice_range bytes found.line.start found.line.end) ≡ line ∷ [] → cut ≡ line)
    → cut ≡ text_found text at (drop at bytes) found first
found_text text at bytes found end cut same first line =
    let P : ℕ → Type 0 = λ t. (line : List ℕ) → lines t (slice_range bytes found.line.start found.line.end) ≡ line ∷ []
    → cut ≡ line in
    subst P same line (text_found text at (drop at bytes) found first) (first_line text at bytes found first)
