-- The builder as a state of the machine.
use Rattle.std.specs.Prelude.{◌≡◌, Bool, map, reverse, Option, Some, None, IfOk, MatchBool, Result}
use Rattle.std.specs.declared.alloc.AllocError.{AllocError}
use Rattle.pg_syntax.specs.Machine.{State}
use Rattle.pg_syntax.specs.Levels.{level_of}
use Rattle.pg_syntax.specs.declared.builder.Builder.{Builder}

-- the open groups, the innermost first, and the level that is read
abbrev pub state_of : {A : Type 0} → Builder A → State
state_of b = record { outer = map level_of (reverse b.outer.items); level = level_of b.level }

-- true where the machine goes on to this state, and false where it refuses
abbrev pub Did : Result Bool AllocError → Option State → State → Type 0
Did result found s = IfOk result (λ done. MatchBool done (found ≡ Some s) (found ≡ None))
