-- What a reader that remembers its last read is seen as, and which fault is that of a read.
use Rattle.std.specs.Prelude.{Bool, true, false}
use Rattle.std.specs.declared.result.Result.{Result}
use Rattle.std.specs.declared.result.Result.TheVariants.{Err}
use Rattle.fb_heard.specs.declared.heard.Heard.{Heard}
use Rattle.fb_heard.specs.declared.heard.TakeFault.{TakeFault}
use Rattle.fb_heard.specs.declared.heard.TakeFault.TheVariants.{Failed}

abbrev pub read_failed : {R : Type 0} → Heard R → Bool
read_failed h = h.failed

abbrev pub reader_of : {R : Type 0} → Heard R → R
reader_of h = h.inner

-- whether the bytes can't be had because a read failed
abbrev pub is_failed_read : {A : Type 0} → Result A TakeFault → Bool
is_failed_read (Err (Failed e)) = true
is_failed_read _ = false
