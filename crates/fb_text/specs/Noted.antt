-- What a writer that remembers its last write is seen as.
use Rattle.std.specs.Prelude.{◌≡◌, ◌<◌, ℕ, Bool, true, false, List, length, take, Option, Result, Ok, Err, ⊤}
use Rattle.std.specs.Io.KnownBytes.{Appends}
use Rattle.fb_text.specs.declared.noted.Noted.{Noted}
use Rattle.fb_text.specs.declared.write_buffer.WriteBuffer.{WriteBuffer}

abbrev pub write_failed : {W : Type 0} → Noted W → Bool
write_failed n = n.failed

abbrev pub writer_of : {W : Type 0} → Noted W → W
writer_of n = n.inner

abbrev pub buffer_of : {W : Type 0} → Noted W → WriteBuffer
buffer_of n = n.buffer

-- a write failed, or took none of its bytes
abbrev pub TookNone : {E : Type 0} → Result ℕ E → Type 0
TookNone (Ok n) = n ≡ 0
TookNone (Err e) = ⊤

-- A text was written behind what was there; or only its first bytes were, and the last write failed.
abbrev pub IsWrittenUnlessFailed : List ℕ → Bool → Option (List ℕ) → Option (List ℕ) → Type 0
IsWrittenUnlessFailed text false start known = Appends start known text
IsWrittenUnlessFailed text true start known = (m : ℕ) × (m < length text) × Appends start known (take m text)
