-- What a handle holds may go to another thread. Assumes `Logic`.
use base.Shift.{Keyless}
use mir.Raw.{raw}
use denote.Memory.{lone}
use denote.Param.Send.{IsSend, owning_send, sendable}
use denote.RawPtr.{Ptr}
use Rattle.std.proofs.Crossing.{frees}
use Rattle.std.specs.Prelude.{Option, Some, None}
use Rattle.std_alloc.proofs.SendSync.{lies}
use Rattle.flatc_c.proofs.kept.Kept.TheSendSync.{the_send}
use Rattle.flatc_c.specs.Owned.{owned, heap}
use Rattle.flatc_c.specs.contracts.held.Held.{the_row, the_type}
use Rattle.flatc_c.specs.contracts.kept.Kept.{the_row as Kept}

keyless : (p : Ptr) (o : Option Kept.Denot) → Keyless (owned Kept p o)
keyless p None = tt
keyless p (Some x) = (lies Kept the_send p x, frees.frees heap (raw (lone Kept.mir)) p)

pub send : IsSend the_row
send = owning_send the_type (search sendable, tt) (λ held. keyless held.at held.value) (λ k x w. tt)
