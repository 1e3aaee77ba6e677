-- A block may be given back by another thread where the allocator behind it allows that.
use mir.Syntax.{Dict}
use denote.Param.Send.{Frees}
use denote.RattleType.{RattleType}
use Rattle.std.specs.declared.alloc.Allocator.{Ghosts}
use Rattle.refusing.specs.contracts.allocator.RefusingAllocator.TheImpl.{ghosts}

pub frees : (B : RattleType) (g : Ghosts B.Denot) (d e : Dict) → Frees g g.dealloc_token
    → Frees (ghosts B g d e) (ghosts B g d e).dealloc_token
frees B g d e behind = record { frees = λ heap. behind.frees heap.inner }
