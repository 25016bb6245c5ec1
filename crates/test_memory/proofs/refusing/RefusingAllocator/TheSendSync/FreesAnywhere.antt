use mir.Syntax.{Dict}
use denote.RattleType.{RattleType}
use denote.Param.Send.{Frees}
use Rattle.std.specs.declared.alloc.Allocator.{Ghosts}
use Rattle.test_memory.specs.contracts.refusing.RefusingAllocator.TheImpl.{ghosts}

-- a thread that may return a block to the inner allocator may return it to this one
pub frees : (B : RattleType) (g : Ghosts B.Denot) (d e : Dict) → Frees g g.dealloc_token → Frees (ghosts B g d e) (ghosts B g d e).dealloc_token
frees B g d e f = record { frees = λ heap. f.frees heap.inner }
