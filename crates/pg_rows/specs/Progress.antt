-- What the numbers of a `Progress` tell of the lines so far.
use Rattle.std.specs.Prelude.{◌≡◌, ℕ, ◌+◌, ◌-◌, nat_lt, min, true, Option, Some, None, List, ◌∷◌, length}
use Rattle.pg_blocks.specs.Lines.{lines}
use Rattle.pg_selection.specs.Search.{Search, terminator}
use Rattle.pg_rows.specs.declared.format.Format.{Format}
use Rattle.pg_rows.specs.declared.progress.Progress.{Progress}
use Rattle.pg_selection.specs.declared.run.Run.{Run}
use Rattle.pg_rows.specs.Output.{context, is_below}
use Rattle.pg_selection.specs.Runs.{AreRuns}
use Rattle.pg_rows.specs.Trail.{Trail, no_lines, run}
use Rattle.pg_rows.specs.Stretch.{AllSelected, AreUnkept}

-- the numbers are those of the trail: of the lines behind the last shown one the window has the last ones, and lines
-- are skipped where there are more
pub record IsOfTrail (p : Progress) (format : Format) (t : Trail) : Type 0 where
  pub number : p.number ≡ t.number
  pub kept : p.kept ≡ t.kept
  pub countdown : p.countdown ≡ t.countdown
  pub some : p.shown ≡ t.some
  pub skipped : t.skipped ≡ nat_lt (context format.before) p.behind
  pub window : length t.window ≡ min (context format.before) p.behind

-- the numbers behind some lines of which none is kept
pub record Passes (p : Progress) (count : ℕ) (later : Progress) : Type 0 where
  pub number : later.number ≡ p.number + count
  pub kept : later.kept ≡ p.kept
  pub countdown : later.countdown ≡ p.countdown - count
  pub shown : later.shown ≡ p.shown
  pub behind : later.behind ≡ p.behind + (count - p.countdown)

-- the numbers behind some lines, at least one, that are all kept
pub record KeepsLines (p : Progress) (format : Format) (count : ℕ) (later : Progress) : Type 0 where
  pub number : later.number ≡ p.number + count
  pub kept : later.kept ≡ p.kept + count
  pub countdown : later.countdown ≡ context format.after
  pub shown : later.shown ≡ true
  pub behind : later.behind ≡ 0

-- how many of some selected lines are kept, where others were
abbrev pub kept_of : Option ℕ → ℕ → ℕ → ℕ
kept_of None kept count = count
kept_of (Some limit) kept count = min count (limit - kept)

-- what is remembered of no lines
abbrev pub TellsNone : Progress → Type 0
TellsNone p = (format : Format) → IsOfTrail p format no_lines

-- what is remembered behind any lines of this number of which none is kept
abbrev pub TellsPassed : Progress → ℕ → Progress → Type 0
TellsPassed p count later =
    (q : Search) (format : Format) (t : Trail) (ls : List (List ℕ)) → length ls ≡ count → AreUnkept q format t ls
    → IsOfTrail p format t → IsOfTrail later format (run q format t ls)

-- what is remembered behind any lines of this number, at least one, that are selected and within the limit
abbrev pub TellsKept : Progress → Format → ℕ → Progress → Type 0
TellsKept p format count later =
    (q : Search) (t : Trail) (l : List ℕ) (ls : List (List ℕ)) → length (l ∷ ls) ≡ count → AllSelected q true (l ∷ ls)
    → is_below (t.kept + length ls) format.limit ≡ true
    → IsOfTrail p format t → IsOfTrail later format (run q format t (l ∷ ls))

-- what is remembered behind the lines of any block that has these runs of selected lines, and so many lines
abbrev pub TellsBlock : Progress → Format → List Run → ℕ → Progress → Type 0
TellsBlock p format runs count later =
    (q : Search) (t : Trail) (bytes : List ℕ) → AreRuns q 0 0 bytes runs → count ≡ length (lines (terminator q) bytes)
    → IsOfTrail p format t → IsOfTrail later format (run q format t (lines (terminator q) bytes))
