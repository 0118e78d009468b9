-- A number at its default isn't stored.
-- From the FlatBuffers documentation, "FlatBuffer Internals": Tables (a field that holds its default isn't stored).
use Rattle.std.specs.Prelude.{◌≡◌, ◌||◌, not, Bool, true, false, Option, None, Some, ℤ}
use Rattle.std.specs.Ordering.{int_eq}
use Rattle.fb_schema.specs.declared.kinds.Base.{Base}
use Rattle.fb_layout.specs.Laid.{Slot, one_of, scalar_kind}
use Rattle.fb_value.specs.Datum.{Datum, a_number}

-- whether a number isn't that which stands for nothing stored
abbrev pub differs : Option ℤ → ℤ → Bool
differs None n = true
differs (Some k) n = not (int_eq k n)

abbrev pub is_stored : Slot → Option Datum → Bool
is_stored f None = false
is_stored f (Some (a_number n)) = f.required || differs f.if_absent n
is_stored f (Some d) = true

-- A slot that stands for a number where nothing is stored is a number's, and isn't required.
pub record HasDefault (f : Slot) : Type 0 where
  pub free : f.required ≡ false
  pub base : Base
  pub scalar : f.shape ≡ one_of (scalar_kind base)
