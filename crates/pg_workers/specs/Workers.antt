-- What those who search a round have drawn and put.
use Rattle.std.specs.Prelude.{◌≡◌, ℕ, ◌<◌, List, [], ◌∷◌, ◌++◌, length, All, None, IfSome, option_to_list}
use Rattle.std.specs.declared.sync.Arc.{Arc}
use Rattle.crossbeam_queue.specs.SegTies.{SegId}
use Rattle.pg_board.specs.Board.{BoardView, SeatView}
use Rattle.pg_board.specs.Tray.{PutView}
use Rattle.pg_blocks.specs.Blocks.{BlockData}
use Rattle.pg_selection.specs.Searched.{SearchedBlock}
use Rattle.pg_workers.specs.Results.{IsBlockResult, AreResultsOf}
use Rattle.pg_workers.specs.Searches.{SearchView}
use Rattle.pg_workers.specs.declared.round.Round.{Round}
use Rattle.pg_workers.specs.declared.worker.Worker.{Worker}
use Rattle.pg_workers.specs.declared.starting.StartedWorker.{StartedWorker}
use Rattle.pg_workers.specs.declared.starting.StartedWorker.TheVariants.{Running, Ended}

-- a round as plain data: what searches which blocks, the board of their numbers, and the tray of the results
pub record Task (A C : Type 0) : Type 1 where
  pub search : SearchView (Arc BlockData A) C SearchedBlock
  pub blocks : List (Arc BlockData A)
  pub board : BoardView
  pub tray : SegId A

module _ {A C : Type 0} where
  abbrev pub task :
      SearchView (Arc BlockData A) C SearchedBlock → List (Arc BlockData A) → BoardView → SegId A → Task A C
  task search blocks board tray = record { search = search; blocks = blocks; board = board; tray = tray }

  -- the task of a round, by what is seen of its query
  abbrev pub task_of : {Q : Type 0} → (Q → SearchView (Arc BlockData A) C SearchedBlock) → Round Q A → Task A C
  task_of seen round = task (seen round.query.now) round.blocks.now round.board.now round.tray.now

  -- the board has a number for each block, and each block can be searched
  abbrev pub IsReady : Task A C → Type 0
  IsReady t = (length t.blocks ≡ t.board.limit) × All t.search.may t.blocks

  -- what was put grew by one result for each number that was drawn, in order
  abbrev pub GrowAlike : Task A C → List ℕ → List ℕ → List SearchedBlock → List SearchedBlock → Type 0
  GrowAlike t drawn drawn' put put' =
      (ns : List ℕ) × (rs : List SearchedBlock) × (drawn' ≡ drawn ++ ns) × (put' ≡ put ++ rs)
      × AreResultsOf t.search.finds t.blocks ns rs

  -- what was put grew by one result for each number that was drawn but the last, in order; the last one is this
  abbrev pub GrowBut : Task A C → ℕ → List ℕ → List ℕ → List SearchedBlock → List SearchedBlock → Type 0
  GrowBut t last drawn drawn' put put' =
      (before : List ℕ) × (drawn' ≡ before ++ last ∷ []) × GrowAlike t drawn before put put'

  -- what was put grew by the result of this number
  abbrev pub HasPut : Task A C → ℕ → List SearchedBlock → List SearchedBlock → Type 0
  HasPut t n put put' = (r : SearchedBlock) × (put' ≡ put ++ r ∷ []) × IsBlockResult t.search.finds t.blocks n r

  -- a seat and a pass of the round: the pass put one result for each number of the seat, in order
  abbrev pub IsWork : Task A C → SeatView → PutView SearchedBlock A → Type 0
  IsWork t seat pass =
      (seat.board ≡ t.board) × (pass.tray ≡ t.tray) × AreResultsOf t.search.finds t.blocks seat.drawn pass.put

  -- The worker drew the numbers of the results that its pass put, in order, and then that of the block that it left
  -- unfinished, if any. Its scratch fits.
  unfoldable pub HasWorked : Task A C → Worker A C → Type 0
  HasWorked t w =
      (ns : List ℕ) × (w.seat.drawn ≡ ns ++ option_to_list w.unfinished)
      × IsWork t (record w.seat { drawn = ns }) w.pass × IfSome w.unfinished (λ n. n < t.board.limit)
      × t.search.fits w.scratch

  -- the worker has worked so, and left none unfinished
  abbrev pub HasFinished : Task A C → Worker A C → Type 0
  HasFinished t w = HasWorked t w × (w.unfinished ≡ None)

  -- as many workers are back as there were, and each has worked
  unfoldable pub AreBack : Task A C → List (Worker A C) → List (Worker A C) → Type 0
  AreBack t workers back = (length back ≡ length workers) × All (HasWorked t) back

  -- a worker that was started will have worked, or has
  abbrev pub IsStarted :
      {Q : Type 0} → (Q → SearchView (Arc BlockData A) C SearchedBlock) → Round Q A → StartedWorker A C Q → Type 0
  IsStarted seen round (Running handle) = handle.promise ≡ round
  IsStarted seen round (Ended worker) = HasWorked (task_of seen round) worker

  -- seats and passes side by side, each pair as it was worked with
  abbrev pub AreWorks : Task A C → List SeatView → List (PutView SearchedBlock A) → Type 0
  AreWorks t [] [] = Unit {0}
  AreWorks t (s ∷ ss) (p ∷ ps) = IsWork t s p × AreWorks t ss ps
  AreWorks t _ _ = ⊥
