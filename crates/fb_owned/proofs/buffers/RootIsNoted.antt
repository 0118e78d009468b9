-- The tape of a root's value is of the room that was found, and means the value.
use Rattle.std.proofs.Common.{◌≡◌, ◌≤◌, ◌+◌, ◌∙◌, ◌∷◌, [], ap, sym, refl, Option, Vec, Global, arith}
use Rattle.fb_schema.specs.declared.kinds.TypeId.{TypeId}
use Rattle.fb_layout.specs.Laid.{LaidSchema, one_of, slots_of, table_kind}
use Rattle.fb_value.specs.Datum.{a_table}
use Rattle.fb_value.specs.Fits.{Fits}
use Rattle.fb_value.specs.Places.{table_part}
use Rattle.fb_value.specs.Room.{entries_room, room, room_of, table_room}
use Rattle.fb_value.specs.UpTo.{at_most_usize}
use Rattle.fb_value.specs.View.{entries_in, entries_view, view}
use Rattle.fb_value.specs.declared.values.Value.{Value, Fields}
use Rattle.fb_value.specs.Bounds.{most_bytes}
use Rattle.fb_value.proofs.types.EachVariantHasItsView.{view-Fields}
use Rattle.fb_tape.specs.Tapes.{Taped, Waits, MeansRoot}
use Rattle.fb_build.specs.Fields.{entries_seen}

-- the room of a root's value
root_room : (L : LaidSchema) (value : Value) (table : TypeId) (v : Vec (Option Value) Global)
    → value ≡ Fields table v
    → table_room L table.0 + entries_room L (slots_of L table.0) (entries_view v.items)
    ≡ room L (one_of (table_kind L.schema.root)) (view value)
root_room L value table v is = rw (is, view-Fields table v) refl

pub record IsNotedRoot (L : LaidSchema) (value : Value) (es : Vec (Option Value) Global) (tape : Taped) : Type 0 where
  pub room : tape.room ≡ room L (one_of (table_kind L.schema.root)) (view value)
  pub value_is : view value ≡ a_table L.schema.root (entries_in (entries_seen es.items))
  pub means : MeansRoot tape (entries_seen es.items)

pub root_noted : (L : LaidSchema) (value : Value) (table : TypeId) (es : Vec (Option Value) Global) (tape : Taped)
    → value ≡ Fields table es → Fits L (one_of (table_kind L.schema.root)) (view value) → tape.layout ≡ L
    → room_of L (view value) ≤ most_bytes
    → Waits tape (record { target = table_part table.0; value = a_table table.0 (entries_view es.items) } ∷ [])
    → at_most_usize tape.room
    ≡ at_most_usize (table_room L table.0 + entries_room L (slots_of L table.0) (entries_view es.items))
    → IsNotedRoot L value es tape
root_noted L value table es tape is fits same low waits sum =
    let root = (rw (is, view-Fields table es) at fits).0 in
    let own = root_room L value table es is in
    record {
      room = omega (arith, sum, own, low);
      value_is = rw (is, view-Fields table es, root) refl;
      means = rw (root ∙ sym (ap (λ M. M.schema.root) same)) at waits;
    }
