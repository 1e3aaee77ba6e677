-- Queries by which each line has a hit.
use Rattle.std.proofs.Common.{◌≡◌, ◌∙◌, ℕ, zero, suc, ◌<◌, inl, inr, Bool, true, false, IsTrue, true≢false, cond}
use Rattle.std.proofs.Common.{List, [], ◌∷◌, length, map, refl, sym, ap, subst, arith, nat_lt, not}
use Rattle.std.specs.List.{AllByRecursion, Any, AllWithin, HoldsAt}
use Rattle.std.specs.Bool.{MatchBool}
use Rattle.std.proofs.lemmas.Bool.{ltb-false, ltb-true}
use Rattle.std.proofs.lemmas.List.{append-nil, nil_from_length}
use Rattle.memchr.specs.Find.{OccursAt}
use Rattle.pg_blocks.specs.Lines.{lines}
use Rattle.pg_literal.specs.Literals.{as_searched, Holds}
use Rattle.pg_literal.specs.declared.literal.Literal.{Literal}
use Rattle.pg_selection.specs.Runs.{AllLines, AreRuns}
use Rattle.pg_selection.specs.Search.{SearchText, Search, terminator}
use Rattle.pg_selection.specs.Selection.{selects, has_match}
use Rattle.pg_selection.specs.declared.run.Run.{Run}
use Rattle.pg_lines.specs.Finding.{HitsEachLine}
use Rattle.pg_prefilter.specs.Literals.{AreLiterals, data_of}
use Rattle.pg_prefilter.proofs.HitLemmas.{held_hit}

-- a literal that is enough and has no byte
abbrev pub IsEmptyEnough : {A : Type 0} → Literal A → Type 0
IsEmptyEnough l = (l.is_enough ≡ true) × (length l.text.items ≡ 0)

-- it stands in each line
empty_held : {A : Type 0} (fold : Bool) (line : List ℕ) (ls : List (Literal A)) (k : ℕ) → k < length ls
    → HoldsAt IsEmptyEnough ls k
    → Any (λ l. (l.is_enough ≡ true) × Holds fold line l.text) (map data_of ls)
empty_held fold line [] k below h = absurd (omega arith)
empty_held fold line (l ∷ ls) zero below h =
    let is = h l in
    let here : OccursAt (as_searched fold line) l.text.items 0 = record {
      fits = omega (arith, is.1);
      reads = λ j inside. absurd (omega (arith, is.1, inside));
    } in
    (zero, data_of l, omega arith, refl, (is.0, (0, here)))
empty_held fold line (l ∷ ls) (suc k) below h =
    let r = empty_held fold line ls k (omega arith) h in (suc r.0, r.1, omega (arith, r.2), r.3, r.4)

pub each_by_cases : {A : Type 0} (text : SearchText) (ls : List (Literal A)) → AreLiterals text (map data_of ls)
    → (No : Literal A → Type 0) (r : Bool)
    → MatchBool r ((k : ℕ) × (k < length ls) × HoldsAt IsEmptyEnough ls k) (AllWithin No ls 0 (length ls))
    → IsTrue r → HitsEachLine text
each_by_cases text ls are No true h _ = λ trees spelled line.
    held_hit text trees spelled (map data_of ls) are line (empty_held text.fold line ls h.0 h.1 h.2)
each_by_cases text ls are No false h so = absurd (true≢false (sym so))

each : (P : List ℕ → Type 0) → ((l : List ℕ) → P l) → (ls : List (List ℕ)) → AllByRecursion P ls
each P all [] = tt
each P all (l ∷ ls) = (all l, each P all ls)

-- the run of all lines, each of which is selected
pub run_of_each : (q : Search) (bytes : List ℕ) (run : Run) → ((line : List ℕ) → selects q line ≡ true)
    → run.span.start ≡ 0 → run.span.end ≡ length bytes → run.first ≡ 0
    → run.count ≡ length (lines (terminator q) bytes)
    → AreRuns q 0 0 bytes (cond (nat_lt run.span.start run.span.end) (run ∷ []) [])
run_of_each q bytes run all start end first count = go (nat_lt run.span.start run.span.end) refl
  where
    go : (b : Bool) → nat_lt run.span.start run.span.end ≡ b → AreRuns q 0 0 bytes (cond b (run ∷ []) [])
    go true e = (
      record {
        gap = [];
        text = bytes;
        later = [];
        joins = sym (append-nil bytes);
        gap_whole = inl refl;
        gap_unselected = tt;
        text_some = λ none. omega (arith, ltb-true run.span.start run.span.end e, start, end, ap length none);
        text_whole = inr refl;
        text_selected = each (λ l. selects q l ≡ true) all (lines (terminator q) bytes);
        start = omega (arith, start);
        stop = omega (arith, end);
        first = omega (arith, first);
        count = count;
      },
      tt,
    )
    go false e =
        let none : bytes ≡ [] =
        nil_from_length bytes (omega (arith, ltb-false run.span.start run.span.end e, start, end)) in
        subst (λ xs. AllLines q false xs) (sym none) tt

-- none, where none is selected
pub none_of_each : (q : Search) (bytes : List ℕ) → ((line : List ℕ) → selects q line ≡ false) → AreRuns q 0 0 bytes []
none_of_each q bytes none = each (λ l. selects q l ≡ false) none (lines (terminator q) bytes)

-- parts that aren't asked for
pub not_asked : {X : Type 0} (b : Bool) (xs : List X) → b ≡ false → ◌≡◌ {A = List X} [] (cond b xs [])
not_asked true xs e = absurd (true≢false e)
not_asked false xs e = refl

-- each line is selected, or with -v none
pub each_selected : (q : Search) (line : List ℕ) → q.text.invert ≡ false → has_match q line ≡ true
    → selects q line ≡ true
each_selected q line upright hit = ap (λ v. cond v (not (has_match q line)) (has_match q line)) upright ∙ hit

pub each_unselected : (q : Search) (line : List ℕ) → q.text.invert ≡ true → has_match q line ≡ true
    → selects q line ≡ false
each_unselected q line inverted hit = ap (λ v. cond v (not (has_match q line)) (has_match q line)) inverted ∙ ap not hit
