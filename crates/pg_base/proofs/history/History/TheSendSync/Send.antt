-- A history owns nothing, so it may go to another thread.
use denote.Param.Send.{IsSend, owning_send, sendable}
use denote.RattleType.{RattleType}
use Rattle.pg_base.specs.contracts.history.History.{the_row, the_type}

pub send : (A : RattleType) → IsSend A → IsSend (the_row A)
send A a = owning_send (the_type A) (search sendable, tt) (λ h. tt) (λ κ x w. tt)
