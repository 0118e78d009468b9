-- What was found in a slot is what its entry is.
use Rattle.std.proofs.Common.{◌≡◌, ℕ, Bool, Option, None, Some, ℤ, refl, ap}
use Rattle.fb_layout.specs.Laid.{LaidSchema, Slot, StoredKind, scalar_kind, struct_kind, stored_kind}
use Rattle.fb_value.specs.Datum.{Datum, an_unknown}
use Rattle.fb_value.specs.Num.{Bytes}
use Rattle.fb_value.specs.Places.{Target, table_part, member_part, text_part, vector_part, ref_place, inline_place}
use Rattle.fb_value.specs.Places.{code_place, unknown_place}
use Rattle.fb_value.specs.Nth.{LiesInSlot}
use Rattle.fb_read.specs.declared.stored.Stored.{Stored}
use Rattle.fb_read.specs.declared.stored.Stored.TheVariants.{Absent, Code, Unknown, Number, Fixed, Text, Table, Member}
use Rattle.fb_read.specs.declared.stored.Stored.TheVariants.{Vector}
use Rattle.fb_read.specs.Stored.{HasAt, number_entry, StoredAs, stored_place, default_in}

-- a slot that names no place has its default, or nothing
pub absent_stored : (L : LaidSchema) (b : Bytes) (f : Slot) (default : Option ℤ) (o : Option Datum)
    → default ≡ f.if_absent → LiesInSlot L b f None o → o ≡ number_entry default
absent_stored L b f default None is lies = rw (is, lies) refl
absent_stored L b f default (Some d) is lies = rw (is, lies.1, lies.2) refl

code_stored : (L : LaidSchema) (b : Bytes) (f : Slot) (u k : ℕ) (needed here : Bool) (q : ℕ) (o : Option Datum)
    → LiesInSlot L b f (Some (record { sort = code_place u k needed here; at = q })) o → o ≡ None
code_stored L b f u k needed here q None lies = refl
code_stored L b f u k needed here q (Some d) lies = absurd lies

unknown_stored : (L : LaidSchema) (b : Bytes) (f : Slot) (c q : ℕ) (o : Option Datum)
    → LiesInSlot L b f (Some (record { sort = unknown_place c; at = q })) o → o ≡ Some (an_unknown c)
unknown_stored L b f c q None lies = absurd lies
unknown_stored L b f c q (Some d) lies = ap Some lies

ref_stored : (L : LaidSchema) (b : Bytes) (f : Slot) (X : Target) (q : ℕ) (o : Option Datum)
    → LiesInSlot L b f (Some (record { sort = ref_place X; at = q })) o → HasAt L b (ref_place X) q o
ref_stored L b f X q None lies = absurd lies
ref_stored L b f X q (Some d) lies = (d, refl, lies)

inline_stored : (L : LaidSchema) (b : Bytes) (f : Slot) (kind : StoredKind) (q : ℕ) (o : Option Datum)
    → LiesInSlot L b f (Some (record { sort = inline_place kind; at = q })) o → HasAt L b (inline_place kind) q o
inline_stored L b f kind q None lies = absurd lies
inline_stored L b f kind q (Some d) lies = (d, refl, lies)

-- what was found in a slot, by the place that it names
pub stored_as : (L : LaidSchema) (b : Bytes) (f : Slot) (s : Stored) (o : Option Datum)
    → (stored_place L s ≡ None → default_in s ≡ f.if_absent) → LiesInSlot L b f (stored_place L s) o → StoredAs L b s o
stored_as L b f (Absent default) o is lies = absent_stored L b f default o (is refl) lies
stored_as L b f (Code code p) o is lies = code_stored L b f code.union.0 code.value_slot code.required code.present p o
    lies
stored_as L b f (Unknown code p) o is lies = unknown_stored L b f code p o lies
stored_as L b f (Number base p) o is lies = inline_stored L b f (scalar_kind base) p o lies
stored_as L b f (Fixed s p) o is lies = inline_stored L b f (struct_kind s.0) p o lies
stored_as L b f (Text p) o is lies = ref_stored L b f text_part p o lies
stored_as L b f (Table t p) o is lies = ref_stored L b f (table_part t.0) p o lies
stored_as L b f (Member code t p) o is lies = ref_stored L b f (member_part code t.0) p o lies
stored_as L b f (Vector kind p) o is lies = ref_stored L b f (vector_part (stored_kind L.schema kind)) p o lies
