-- What contracts see of a tray and of its passes.
use Rattle.std.specs.Prelude.{ℕ, List}
use Rattle.crossbeam_queue.specs.SegTies.{SegId}

-- a put pass: its tray, and what it put, in order
pub record PutView (T A : Type 0) : Type 0 where
  pub tray : SegId A
  pub put : List T

-- the take pass: its tray, how many put passes the tray has, and what was taken, in order
pub record TakeView (T A : Type 0) : Type 0 where
  pub tray : SegId A
  pub workers : ℕ
  pub taken : List T

-- a closed tray: what each pass put, and what was taken or handed out, in order
pub record TrayRestView (T : Type 0) : Type 0 where
  pub lists : List (List T)
  pub out : List T

module _ {T A : Type 0} where
  abbrev pub put_view : SegId A → List T → PutView T A
  put_view tray put = record { tray = tray; put = put }

  abbrev pub take_view : SegId A → ℕ → List T → TakeView T A
  take_view tray workers taken = record { tray = tray; workers = workers; taken = taken }

abbrev pub delivered : {T : Type 0} → List (List T) → List T → TrayRestView T
delivered lists out = record { lists = lists; out = out }
