-- Where files start, by progressions of files.
use Rattle.std.specs.Prelude.{◌≡◌, ℕ, ◌+◌, ◌-◌, ◌*◌, ◌<◌, ◌^◌, nat_le, ◌⊎◌, Bool, MatchBool}
use Rattle.std.specs.Prelude.{List, [], ◌∷◌, ◌++◌, map, if◌then◌else◌}
use Rattle.std.specs.List.{All, range_with_len}
use Rattle.std.specs.List.Sorted.{IsNonDecreasingBy}
use Rattle.pg_seq.specs.declared.file_starts.Progression.{Progression}

-- where a file of a progression starts
abbrev pub start_in : Progression → ℕ → ℕ
start_in p file = p.start + (file - p.first) * p.step

-- where a file starts: as the last of the progressions says that begin at it or before it, or here where none does
abbrev pub start_by : ℕ → List Progression → ℕ → ℕ
start_by here [] file = here
start_by here (p ∷ later) file = if nat_le p.first file then start_by (start_in p file) later file else here

-- where each of so many files starts
abbrev pub starts_by : List Progression → ℕ → List ℕ
starts_by ps files = map (start_by 0 ps) (range_with_len 0 files)

-- the first progression begins with the first file, and without a progression there is no file
abbrev pub IsFromNought : List Progression → ℕ → Type 0
IsFromNought [] files = files ≡ 0
IsFromNought (p ∷ later) files = p.first ≡ 0

-- The progressions are those of so many files: each begins at one of them, in the files' order, and each start has 128
-- bits.
pub record Cover (ps : List Progression) (files : ℕ) : Type 0 where
  pub from_nought : IsFromNought ps files
  pub within : All (λ p. p.first < files) ps
  pub rise : IsNonDecreasingBy (λ p. p.first) ps
  pub fits : All (λ start. start < 2 ^ 128) (starts_by ps files)

-- A progression goes on to a file that starts here, and its files before that one start where they did. Its step has 64
-- bits.
pub record TakesIn (file here : ℕ) (old new : Progression) : Type 0 where
  pub first : new.first ≡ old.first
  pub start : new.start ≡ old.start
  pub step : (file ≡ old.first + 1) ⊎ (new.step ≡ old.step)
  pub small : new.step < 2 ^ 64
  pub is : start_in new file ≡ here

-- the last of the progressions goes on to the file
pub record Lengthens (file here : ℕ) (old new : List Progression) : Type 0 where
  pub earlier : List Progression
  pub last : Progression
  pub longer : Progression
  pub was : old ≡ earlier ++ last ∷ []
  pub is : new ≡ earlier ++ longer ∷ []
  pub takes : TakesIn file here last longer

-- at true the new value is one that the old may become; at false there is none such, and nothing has changed
abbrev pub BecomesIfItCan : {X : Type 0} → (X → Type 0) → (old new : X) → Bool → Type 0
BecomesIfItCan {X} MayBecome old new done = MatchBool done (MayBecome new)
    ((new ≡ old) × ((other : X) → MayBecome other → ⊥))

-- the progression of a file alone
abbrev pub alone : ℕ → ℕ → Progression
alone file here = record { start = here; step = 0; first = file }

-- one more file that starts here: the last progression goes on to it, or where it can't, the file has one of its own
abbrev pub AddsFile : ℕ → ℕ → List Progression → List Progression → Type 0
AddsFile file here old new = Lengthens file here old new
    ⊎ ((new ≡ old ++ alone file here ∷ []) × ((ps : List Progression) → Lengthens file here old ps → ⊥))
