-- A slot that has no table, union or vector of tables has no union without a name.
use Rattle.std.proofs.Common.{◌≡◌, ℕ, ◌+◌, List, Bool, true, false, Option, None, Some, refl, if◌then◌else◌}
use Rattle.fb_schema.specs.declared.kinds.Kind.TheVariants.{Scalar, Enum, Struct, Code, Text}
use Rattle.fb_schema.specs.declared.kinds.Shape.{Shape}
use Rattle.fb_schema.specs.declared.kinds.Shape.TheVariants.{One, Many}
use Rattle.fb_layout.specs.Laid.{LaidSchema, Slot, StoredKind, scalar_kind, struct_kind, code_kind, one_of, stored_kind}
use Rattle.fb_layout.specs.Laid.{stored_shape}
use Rattle.fb_value.specs.Datum.{Datum, a_vector}
use Rattle.fb_value.specs.Num.{Bytes}
use Rattle.fb_value.specs.Places.{Sort, ref_place, part_place, inline_place, text_part, vector_part, sort_of}
use Rattle.fb_value.specs.Places.{is_present, slot_number, named_slot}
use Rattle.fb_value.specs.Lies.{Lies, EntryAt}
use Rattle.fb_value.specs.Nth.{LiesInSlot}
use Rattle.fb_json.specs.declared.faults.Place.{Place}
use Rattle.fb_text.specs.Printed.{first_in_entry}
use Rattle.fb_text.specs.Unnamed.{first_unnamed, may_have_unions}
use Rattle.fb_text.proofs.unnamed.OneEntryMore.{is_table, inline_named, text_named, items_named, plain_kind}

vector_named : (L : LaidSchema) (b : Bytes) (kind : StoredKind) (p : ℕ) (at : Place) (d : Datum)
    → is_table kind ≡ false → Lies L b (part_place (vector_part kind)) p d → None ≡ first_unnamed at d
vector_named L b kind p at (a_vector ds) plain lies = items_named L b kind (p + 4) at ds plain lies.2
vector_named L b kind p at _ plain lies = absurd lies

module _ (L : LaidSchema) (b : Bytes) (at : Place) (f : Slot) where
  -- a slot whose place, if it names one, has no such union
  place_named : (deprecated present : Bool) (sort : Sort) (q : ℕ) (o : Option Datum)
      → ((d : Datum) → EntryAt L b sort q d (λ s r. Lies L b s r d) → None ≡ first_unnamed at d)
      → LiesInSlot L b f
      (if deprecated then None else (if present then Some (record { sort = sort; at = q }) else None)) o
      → None ≡ first_in_entry at o
  place_named deprecated present sort q None named lies = refl
  place_named true present sort q (Some d) named lies = rw lies.2 refl
  place_named false true sort q (Some d) named lies = named d lies
  place_named false false sort q (Some d) named lies = rw lies.2 refl

  pub plain_slot : (p k : ℕ) (fs : List Slot) (shape : Shape) (o : Option Datum) → may_have_unions shape ≡ false
      → LiesInSlot L b f (if f.deprecated then None else named_slot L b p k fs (stored_shape L.schema shape)) o
      → None ≡ first_in_entry at o
  plain_slot p k fs (One (Scalar base)) o plain lies =
      place_named f.deprecated (is_present b p k) (inline_place (scalar_kind base)) (p + slot_number b p k) o
      (λ d h. inline_named L b (scalar_kind base) (p + slot_number b p k) at d h.1) lies
  plain_slot p k fs (One (Enum e)) o plain lies =
      let kind = stored_kind L.schema (Enum e) in
      place_named f.deprecated (is_present b p k) (inline_place kind) (p + slot_number b p k) o
      (λ d h. inline_named L b kind (p + slot_number b p k) at d h.1) lies
  plain_slot p k fs (One (Struct s)) o plain lies =
      place_named f.deprecated (is_present b p k) (inline_place (struct_kind s.0)) (p + slot_number b p k) o
      (λ d h. inline_named L b (struct_kind s.0) (p + slot_number b p k) at d h.1) lies
  plain_slot p k fs (One (Code u)) o plain lies =
      place_named f.deprecated (is_present b p k) (sort_of b p k fs (one_of (code_kind u.0))) (p + slot_number b p k) o
      (λ d h. absurd h) lies
  plain_slot p k fs (One Text) o plain lies =
      place_named f.deprecated (is_present b p k) (ref_place text_part) (p + slot_number b p k) o
      (λ d h. text_named L b _ at d h.1) lies
  plain_slot p k fs (Many kind) o plain lies =
      let stored = stored_kind L.schema kind in
      place_named f.deprecated (is_present b p k) (ref_place (vector_part stored)) (p + slot_number b p k) o
      (λ d h. vector_named L b stored _ at d (plain_kind L.schema kind (λ t e. cc)) h.1) lies
  plain_slot p k fs _ o plain lies = cc
