-- What a pointer that C keeps owns: nothing, or a value in a block of the heap and the right to free the block.
use Rattle.std.specs.Prelude.{Option, None, Some}
use base.Fml.{Fml, ftrue}
use mir.Syntax.{Ty}
use denote.RattleType.{RattleType}
use denote.RawPtr.{Ptr}
use Rattle.std.specs.declared.alloc.Global.{Global}
use Rattle.std.specs.contracts.impls.GlobalAllocator.TheImpl.{ghosts}
use Rattle.std_alloc.specs.Box.Ownership.{box_owns}

-- the one handle of the heap
abbrev pub heap : Global
heap = record { memory = record { seal = tt } }

-- the right to free a block of it
abbrev pub freeable : Ty → Ptr → Fml
freeable = ghosts.dealloc_token heap

abbrev pub owned : (R : RattleType) → Ptr → Option R.Denot → Fml
owned R p (Some x) = box_owns freeable R p x
owned R p None = ftrue
