-- What a cutter was fed and what it has handed out.
use Rattle.std.specs.Prelude.{◌≡◌, ℕ, ◌+◌, ◌<◌, ◌≤◌, ◌^◌, ◌↔◌, false, Option, Some, None, List, [], ◌∷◌, ◌++◌, length}
use Rattle.std.specs.Prelude.{take, drop, Result, OnOk, OnErr, IsErrOf}
use Rattle.std.specs.List.{Any}
use Rattle.std.specs.Option.{option_to_list}
use Rattle.pg_blocks.specs.Lines.{lines, IsLine}
use Rattle.pg_blocks.specs.Blocks.{BlockData, joined, EndsWith, Cuts, IsCut, CutsBehind, AreNumbered}
use Rattle.pg_blocks.specs.Long.{has_long, open_from}
use Rattle.pg_blocks.specs.declared.cutter.Cutter.{Cutter}
use Rattle.pg_blocks.specs.declared.cutter.CutFault.{CutFault}
use Rattle.pg_blocks.specs.declared.cutter.CutFault.TheVariants.{LineTooLong, FileTooLong}

-- the terminator, what `new` was given, the bytes fed at Ok one after another, the blocks handed out, and those of them
-- up to the newest one that was handed out early
pub record CutterPast : Type 0 where
  pub end : ℕ
  pub file : ℕ
  pub size : ℕ
  pub longest : ℕ
  pub bytes : List ℕ
  pub taken : List BlockData
  pub early : List BlockData

-- a new cutter's
abbrev pub unfed : ℕ → ℕ → ℕ → ℕ → CutterPast
unfed end file size longest =
    record { end = end; file = file; size = size; longest = longest; bytes = []; taken = []; early = [] }

abbrev pub fed : CutterPast → List ℕ → CutterPast
fed past piece = record past { bytes = past.bytes ++ piece }

abbrev pub past_handed : CutterPast → Option BlockData → CutterPast
past_handed past block = record past { taken = past.taken ++ option_to_list block }

-- the block, if there is one, was handed out early
abbrev pub handed_early : CutterPast → Option BlockData → CutterPast
handed_early past None = past
handed_early past (Some block) =
    record past { taken = past.taken ++ block ∷ []; early = past.taken ++ block ∷ [] }

-- these are the early blocks and the finished ones of the bytes behind them, and that is left
abbrev pub CutsFed : CutterPast → List BlockData → List ℕ → Type 0
CutsFed past blocks rest =
    CutsBehind past.early past.end past.bytes blocks (λ bytes later. Cuts past.end past.size bytes later rest)

-- the blocks handed out are all finished blocks of the bytes, but for the early ones
abbrev pub HasNoneLeft : CutterPast → Type 0
HasNoneLeft past = (rest : List ℕ) × CutsFed past past.taken rest

-- the blocks handed out and this one are the first blocks of the file, whatever comes behind its bytes
pub record IsNextBlock (past : CutterPast) (block : BlockData) : Type 0 where
  pub numbered : AreNumbered past.file 0 (past.taken ++ block ∷ [])
  pub cut : (later : List BlockData) × (rest : List ℕ) × CutsFed past (past.taken ++ block ∷ later) rest

-- the blocks handed out are all blocks of the file
pub record AreAllBlocks (past : CutterPast) : Type 0 where
  pub numbered : AreNumbered past.file 0 past.taken
  pub cut : CutsBehind past.early past.end past.bytes past.taken (IsCut past.end past.size)

-- behind the blocks handed out no line ends
abbrev pub HasNoLineLeft : CutterPast → Type 0
HasNoLineLeft past = (rest : List ℕ) × (past.bytes ≡ joined past.taken ++ rest) × IsLine past.end rest

-- the block has the next number, and all whole lines behind the blocks handed out
pub record HasLinesLeft (past : CutterPast) (block : BlockData) : Type 0 where
  pub numbered : AreNumbered past.file 0 (past.taken ++ block ∷ [])
  pub ends : EndsWith past.end block.bytes
  pub none : HasNoLineLeft (handed_early past (Some block))

-- a line would be too long
abbrev pub HasLongLine : CutterPast → Type 0
HasLongLine past = Any (λ line. past.longest < length line) (lines past.end past.bytes)

-- with this piece the file would be too long
abbrev pub IsTooLongWith : CutterPast → List ℕ → Type 0
IsTooLongWith past piece = 2 ^ 62 < length past.bytes + length piece

-- with this piece the file would not, and a line would be
abbrev pub HasLongLineWith : CutterPast → List ℕ → Type 0
HasLongLineWith past piece = (length past.bytes + length piece ≤ 2 ^ 62) × HasLongLine (fed past piece)

-- the bytes of the open block
abbrev pub bytes_held : {A : Type 0} → Cutter A → List ℕ
bytes_held cutter = take cutter.filled cutter.rest.items

-- what the room behind them holds
abbrev pub room_of : {A : Type 0} → Cutter A → List ℕ
room_of cutter = drop cutter.filled cutter.rest.items

-- The cutter stands after this.
pub record IsCutterAfter {A : Type 0} (cutter : Cutter A) (past : CutterPast) : Type 0 where
  pub terminator : past.end ≡ cutter.end
  pub file : past.file ≡ cutter.file
  pub size : past.size ≡ cutter.size
  pub longest : past.longest ≡ cutter.longest
  pub cut : CutsFed past (past.taken ++ cutter.ready.items) (bytes_held cutter)
  pub numbered : AreNumbered past.file 0 (past.taken ++ cutter.ready.items)
  pub next : cutter.number ≡ length (past.taken ++ cutter.ready.items)
  pub total : cutter.total ≡ length past.bytes
  pub short : HasLongLine past → ⊥
  pub line : cutter.line ≡ open_from past.end 0 past.bytes

-- with this piece behind its bytes the file is not too long, nor is a line of it, and its open line has this length
pub record FitsBehind {A : Type 0} (cutter : Cutter A) (piece : List ℕ) (n : ℕ) : Type 0 where
  pub fits : cutter.total + length piece ≤ 2 ^ 62
  pub within : n ≤ cutter.longest
  pub short : has_long cutter.end cutter.longest cutter.line piece ≡ false
  pub behind : n ≡ open_from cutter.end cutter.line piece

-- no finished block is held
abbrev pub IsDrained : {A : Type 0} → Cutter A → Type 0
IsDrained cutter = cutter.ready.items ≡ []

-- how many finished blocks are held
abbrev pub blocks_ready : {A : Type 0} → Cutter A → ℕ
blocks_ready cutter = length cutter.ready.items

-- every past that stood stands, and a drained cutter is drained
pub record KeepsCutter {A : Type 0} (old new : Cutter A) : Type 0 where
  pub stands : (past : CutterPast) → IsCutterAfter old past → IsCutterAfter new past
  pub drained : IsDrained old → IsDrained new

-- why this piece isn't taken is told exactly where it is so
pub record TellsWhy {T A : Type 0} (cutter : Cutter A) (piece : List ℕ) (result : Result T CutFault) : Type 0 where
  pub file : (past : CutterPast) → IsCutterAfter cutter past → IsErrOf result FileTooLong ↔ IsTooLongWith past piece
  pub line : (past : CutterPast) → IsCutterAfter cutter past → IsErrOf result LineTooLong ↔ HasLongLineWith past piece

-- The cutter was fed this piece at Ok, and nothing at Err, where the fault says why.
pub record FeedsPiece {T A : Type 0} (old new : Cutter A) (piece : List ℕ) (result : Result T CutFault) : Type 0 where
  pub ok : (past : CutterPast) → IsCutterAfter old past → OnOk result (IsCutterAfter new (fed past piece))
  pub err : (past : CutterPast) → IsCutterAfter old past → OnErr result (IsCutterAfter new past)
  pub why : TellsWhy old piece result
