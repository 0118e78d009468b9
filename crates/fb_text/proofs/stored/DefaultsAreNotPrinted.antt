-- Numbers at their defaults aren't printed.
use Rattle.std.proofs.Common.{◌≡◌, ◌||◌, ◌∷◌, [], ℕ, slice_get, Bool, true, false}
use Rattle.std.proofs.Common.{Option, Some, refl}
use Rattle.std.proofs.lemmas.Bool.Decides.{Decides-int_eq}
use Rattle.fb_schema.specs.Schema.{DeclaredField, DeclaredSchema, body_at, slots_in}
use Rattle.fb_layout.specs.Laid.{LaidSchema, Slot, slot_of, slots_of, StoredShape, one_of, scalar_kind, default_of}
use Rattle.fb_layout.specs.Laid.{stored_shape}
use Rattle.fb_value.specs.Datum.{Datum}
use Rattle.fb_read.specs.Stored.{number_entry}
use Rattle.fb_text.specs.Printed.{is_entry_printed}
use Rattle.fb_layout.proofs.slots.SlotsFollowTheirFields.{slot_there}

default_unprinted : (f : DeclaredField) (hidden : Bool) (shape : StoredShape) → (hidden ≡ false → f.optional ≡ false)
    → is_entry_printed false f (number_entry (default_of hidden f.default shape)) ≡ false
default_unprinted f false (one_of (scalar_kind base)) plain =
    rw (plain refl, (Decides-int_eq f.default f.default).1 refl) refl
default_unprinted f _ shape plain = refl

neither : (one two : Bool) → (one || two) ≡ false → two ≡ false
neither false two e = e
neither true two e = cc

-- an entry that is what an absent slot has
unset_unprinted : (S : DeclaredSchema) (f : DeclaredField) (o : Option Datum) → o ≡ number_entry (slot_of S f).if_absent
    → is_entry_printed false f o ≡ false
unset_unprinted S f o e =
    rw e (default_unprinted f (f.deprecated || f.optional) (stored_shape S f.shape) (neither f.deprecated f.optional))

-- a slot behind those that its table's vtable has
pub unprinted_behind : (L K : LaidSchema) (t u k : ℕ) (f : DeclaredField) (o : Option Datum) → K ≡ L → t ≡ u
    → slice_get (slots_in (body_at L.schema t)) k ≡ Some f
    → ((s : Slot) → slice_get (slots_of K u) k ≡ Some s → o ≡ number_entry s.if_absent)
    → is_entry_printed false f o ≡ false
unprinted_behind L K t u k f o layout same there known =
    unset_unprinted L.schema f o
    (known (slot_of L.schema f)
    (rw (layout, ← same) (slot_there L.schema (slots_in (body_at L.schema t)) k f there)))
