-- The open line behind some bytes, lines that are too long, and the blocks that a piece finishes.
use Rattle.std.specs.Prelude.{◌≡◌, ℕ, ◌+◌, ◌==◌, nat_lt, Bool, false, ◌||◌, if◌then◌else◌, List, [], ◌∷◌, ◌++◌, length}
use Rattle.pg_blocks.specs.Blocks.{BlockData, Cuts, AreNumbered}

-- the length of the line that is open behind some bytes, where one of length n is open before them
abbrev pub open_from : ℕ → ℕ → List ℕ → ℕ
open_from end n [] = n
open_from end n (b ∷ bytes) = if b == end then open_from end 0 bytes else open_from end (n + 1) bytes

-- some line is longer than that, where one of length n is open before
abbrev pub has_long : ℕ → ℕ → ℕ → List ℕ → Bool
has_long end longest n [] = false
has_long end longest n (b ∷ bytes) =
    if b == end then has_long end longest 0 bytes else (nat_lt longest (n + 1) || has_long end longest (n + 1) bytes)

-- the finished blocks that a piece adds behind what was left, and what is left behind them
pub record CutsOff (end size file number : ℕ) (bytes : List ℕ) (ready ready' : List BlockData) (rest : List ℕ)
    (count : ℕ) : Type 0 where
  pub blocks : List BlockData
  pub cuts : Cuts end size bytes blocks rest
  pub numbered : AreNumbered file number blocks
  pub added : ready' ≡ ready ++ blocks
  pub counted : count ≡ length blocks
