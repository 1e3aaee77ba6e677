-- A history has no byte that threads could share.
use denote.Memory.{part_of, raw_all}
use denote.Param.Send.{IsSync, cell_keyless}
use denote.RattleType.{RattleType}
use Rattle.pg_base.specs.contracts.history.History.{the_row}

pub sync : (A : RattleType) → IsSync A → IsSync (the_row A)
unfolding part_of
sync A a = record {
  shared = λ h b o κ q vs.
      (cell_keyless q (raw_all (the_row A).mir) vs b o, ((λ _. (tt, ((λ _. (tt, tt)), tt))), tt));
}
