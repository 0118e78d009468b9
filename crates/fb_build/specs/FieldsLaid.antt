-- A table whose fields are laid, and whose first number is not.
use Rattle.std.specs.Prelude.{ℕ, ◌+◌, ◌%◌, ◌≡◌, ◌≤◌, Bool, true, List, Option, length}
use Rattle.fb_layout.specs.Laid.{LaidSchema, Slot}
use Rattle.fb_value.specs.Datum.{Datum}
use Rattle.fb_value.specs.Num.{divides}
use Rattle.fb_build.specs.FieldEnds.{AreCounted}
use Rattle.fb_build.specs.Fields.{EntriesEnd, fields_size}
use Rattle.fb_build.specs.Filled.{AreFilled}
use Rattle.fb_build.specs.Tails.{TailSeen}

-- The slots that are stored and pass a test are laid in front of the last `start` bytes: each field at its end-count,
-- with the value of its entry, and nothing between them. The others have what their references lead to.
pub record AreSlotsLaid (L : LaidSchema) (tail : TailSeen) (laid : ℕ → Slot → Bool) (fs : List Slot)
    (xs : List (Option Datum)) (start : ℕ) (ends : List ℕ) : Type 0 where
  pub each : length ends ≡ length fs
  pub state : EntriesEnd L start tail.most tail.bytes laid fs xs ends
  pub filled : AreFilled L start (length tail.bytes) laid fs xs ends
  pub counted : AreCounted L start laid fs xs ends

-- All that is stored is laid, from a multiple of 4 on.
pub record AreFieldsLaid (L : LaidSchema) (tail : TailSeen) (fs : List Slot) (xs : List (Option Datum)) (start : ℕ)
    (ends : List ℕ) : Type 0 where
  pub slots : AreSlotsLaid L tail (λ k f. true) fs xs start ends
  pub wide : divides 4 tail.most ≡ true
  pub within : start ≤ length tail.bytes
  pub whole : start % 4 ≡ 0
  pub size : length tail.bytes ≡ start + fields_size L fs xs
