-- What a run asks of whatever searches its blocks.
use Rattle.std.specs.Prelude.{◌≡◌, ◌≤◌, ℕ, List, All, length}
use Rattle.std.specs.Arc.{arc_value}
use Rattle.std.specs.declared.sync.Arc.{Arc}
use mathlib.Core.HLevel.{Π_prop}
use Rattle.pg_blocks.specs.Blocks.{BlockData}
use Rattle.pg_blocks.specs.Lines.{AreShort}
use Rattle.pg_selection.specs.Search.{SearchText, terminator_of}
use Rattle.pg_selection.specs.Searched.{SearchedBlock}
use Rattle.pg_workers.specs.Searches.{SearchView}

module _ {A : Type 0} where
  -- the lines of the block have at most 2^30 bytes each
  abbrev pub HasShortLines : SearchText → Arc BlockData A → Type 0
  HasShortLines text block = AreShort (terminator_of text) (arc_value block).bytes

  -- the result of the block
  abbrev pub IsFoundIn : SearchText → Arc BlockData A → SearchedBlock → Type 0
  IsFoundIn text block r = r ≡ record { query = text; block = arc_value block }

module _ {A C : Type 0} (view : SearchView (Arc BlockData A) C SearchedBlock) where
  -- Blocks with short lines may be searched, and what is found is the result for this text.
  pub record FindsLines (text : SearchText) : Type 0 where
    pub may : (block : Arc BlockData A) → HasShortLines text block → view.may block
    pub finds : (block : Arc BlockData A) (found : SearchedBlock) → view.finds block found → IsFoundIn text block found

  -- at most so many scratches, each of which was made for this search
  abbrev pub AreScratches : ℕ → List C → Type 0
  AreScratches most scratches = (length scratches ≤ most) × All view.fits scratches

  -- that they were made for it has at most one proof
  pub fit_once : (scratches : List C) → IsProp (All view.fits scratches)
  fit_once scratches = Π_prop (λ k. Π_prop (λ d. Π_prop (λ below. view.fits_once _)))
