-- The last lines of a file that weren't shown.
use Rattle.std.specs.Prelude.{◌≡◌, ℕ, ◌+◌, ◌<◌, ◌≤◌, ◌^◌, ◌⊎◌, List, [], ◌++◌, length, drop}
use Rattle.std.specs.List.{AllByRecursion, flat_map}
use Rattle.std.specs.Arc.{arc_value}
use Rattle.circular_buffer.specs.Buffer.{keep_last}
use Rattle.pg_blocks.specs.Blocks.{BlockData}
use Rattle.pg_blocks.specs.Lines.{lines}
use Rattle.pg_rows.specs.declared.window.Tail.{Tail}
use Rattle.pg_rows.specs.declared.window.Window.{Window}

-- the lines of a block from a place on
abbrev pub lines_from : ℕ → BlockData → ℕ → List (List ℕ)
lines_from end block start = lines end (drop start block.bytes)

abbrev pub tail_lines : {A : Type 0} → ℕ → Tail A → List (List ℕ)
tail_lines end tail = lines_from end (arc_value tail.block) tail.start

-- the lines of tails, one after another
abbrev pub lines_in : {A : Type 0} → ℕ → List (Tail A) → List (List ℕ)
lines_in end tails = flat_map (tail_lines end) tails

-- the lines that a window holds
abbrev pub lines_held : {A : Type 0} → ℕ → Window A → List (List ℕ)
lines_held end window = lines_in end window.tails.items

-- the tail stands in its block, and has as many lines as it says, at least one
pub record IsTail {A : Type 0} (end : ℕ) (tail : Tail A) : Type 0 where
  pub within : tail.start ≤ length (arc_value tail.block).bytes
  pub counted : tail.lines ≡ length (tail_lines end tail)
  pub some : 0 < tail.lines
  pub small : tail.lines < 2 ^ 63

-- these are tails with so many lines, and without the first one they don't have more than `size`
pub record AreHeld {A : Type 0} (end : ℕ) (tails : List (Tail A)) (count size : ℕ) : Type 0 where
  pub each : AllByRecursion (IsTail end) tails
  pub counted : count ≡ length (lines_in end tails)
  pub short : length (lines_in end (drop 1 tails)) ≤ size

-- the window knows how many lines it holds, where this byte ends them
abbrev pub IsWindow : {A : Type 0} → ℕ → Window A → Type 0
IsWindow end window = AreHeld end window.tails.items window.lines window.tails.capacity

-- nothing is held, in a window for so many lines
pub record IsEmptyWindow {A : Type 0} (w : Window A) (most : ℕ) : Type 0 where
  pub size : w.tails.capacity ≡ most
  pub nothing : w.tails.items ≡ []
  pub window : (end : ℕ) → IsWindow end w

-- the window holds so many lines, and may be asked for its last ones
pub record HoldsLast {A : Type 0} (end : ℕ) (w : Window A) (count : ℕ) : Type 0 where
  pub window : IsWindow end w
  pub within : count ≤ length (lines_held end w)

-- some first lines were given up, if any, and those that are left are `size` lines with the ones to come
pub record GivesUp (size more : ℕ) (before after : List (List ℕ)) : Type 0 where
  pub gone : List (List ℕ)
  pub joins : before ≡ gone ++ after
  pub enough : (gone ≡ []) ⊎ (size ≤ length after + more)

-- without the first tail, the lines are fewer than `size` with the ones to come
abbrev pub HasRoomFor : {A : Type 0} → ℕ → ℕ → Window A → Type 0
HasRoomFor end more window =
    (length (lines_in end (drop 1 window.tails.items)) + more < window.tails.capacity) ⊎ (window.tails.items ≡ [])

-- first tails were given up, and so many lines to come have room behind the others
pub record MakesRoom {A : Type 0} (end more : ℕ) (old new : Window A) : Type 0 where
  pub size : new.tails.capacity ≡ old.tails.capacity
  pub window : IsWindow end new
  pub room : HasRoomFor end more new
  pub gives_up : GivesUp old.tails.capacity more (lines_held end old) (lines_held end new)

-- the window may take the lines of a block from a place on, so many
pub record MayTake {A : Type 0} (end : ℕ) (w : Window A) (block : BlockData) (start count : ℕ) : Type 0 where
  pub window : IsWindow end w
  pub within : start ≤ length block.bytes
  pub counted : count ≡ length (lines_from end block start)

-- lines were taken behind the others, and first ones given up that aren't among the last ones for which there is room
pub record TakesLines {A : Type 0} (end : ℕ) (old new : Window A) (more : List (List ℕ)) : Type 0 where
  pub size : new.tails.capacity ≡ old.tails.capacity
  pub window : IsWindow end new
  pub last : keep_last old.tails.capacity (lines_held end new)
      ≡ keep_last old.tails.capacity (lines_held end old ++ more)
  pub enough : (old.tails.capacity ≤ length (lines_held end new)) ⊎ (lines_held end new ≡ lines_held end old ++ more)
