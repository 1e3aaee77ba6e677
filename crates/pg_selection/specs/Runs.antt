-- Where the selected lines of some bytes stand.
use Rattle.std.specs.Prelude.{◌≡◌, ◌≢◌, ℕ, ◌+◌, ◌⊎◌, Bool, true, false}
use Rattle.std.specs.Prelude.{List, [], ◌∷◌, ◌++◌, length}
use Rattle.std.specs.List.{AllByRecursion}
use Rattle.pg_blocks.specs.Lines.{lines, AreWhole}
use Rattle.pg_selection.specs.Search.{SearchText, Search, Pattern, AreTreesOf, search_of, terminator}
use Rattle.pg_selection.specs.Selection.{selects}
use Rattle.pg_selection.specs.declared.run.Run.{Run}

-- each line of the bytes is selected, or none is
abbrev pub AllLines : Search → Bool → List ℕ → Type 0
AllLines q selected bytes = AllByRecursion (λ l. selects q l ≡ selected) (lines (terminator q) bytes)

-- The first run of selected lines in bytes that stand from a place on, behind some lines: before it are whole lines of
-- which none is selected. Its last line may be incomplete where the bytes end with it.
pub record IsNextRun (q : Search) (at seen : ℕ) (bytes : List ℕ) (run : Run) : Type 0 where
  pub gap : List ℕ
  pub text : List ℕ
  pub later : List ℕ
  pub joins : bytes ≡ gap ++ text ++ later
  pub gap_whole : AreWhole (terminator q) gap
  pub gap_unselected : AllLines q false gap
  pub text_some : text ≢ []
  pub text_whole : AreWhole (terminator q) text ⊎ (later ≡ [])
  pub text_selected : AllLines q true text
  pub start : run.span.start ≡ at + length gap
  pub stop : run.span.end ≡ at + length gap + length text
  pub first : run.first ≡ seen + length (lines (terminator q) gap)
  pub count : run.count ≡ length (lines (terminator q) text)

-- these runs hold the selected lines of bytes that stand from a place on, behind some lines, and no other line
abbrev pub AreRuns : Search → ℕ → ℕ → List ℕ → List Run → Type 0
AreRuns q at seen bytes [] = AllLines q false bytes
AreRuns q at seen bytes (run ∷ runs) =
    (next : IsNextRun q at seen bytes run) × AreRuns q run.span.end (run.first + run.count) next.later runs

-- for the trees that the patterns spell these runs hold the selected lines of the bytes, and no other line
abbrev pub HasRuns : SearchText → List ℕ → List Run → Type 0
HasRuns text bytes runs = (trees : List Pattern) → AreTreesOf text trees → AreRuns (search_of text trees) 0 0 bytes runs
