-- What is reached from a table that was laid is what its references lead to.
use Rattle.std.proofs.Common.{◌≡◌, ℕ, ◌-◌, ◌<◌, ◌≤◌, true, List, ◌∷◌, length, slice_get, slice_index, Option, Some, ap}
use Rattle.std.proofs.Common.{arith}
use Rattle.fb_layout.specs.Laid.{LaidSchema, Slot, slots_of}
use Rattle.fb_value.specs.Datum.{Datum, a_table}
use Rattle.fb_value.specs.Entries.{EntryFits}
use Rattle.fb_value.specs.Places.{table_part}
use Rattle.fb_value.specs.View.{entries_in}
use Rattle.fb_build.specs.Tails.{TailSeen, Grows}
use Rattle.fb_build.specs.Fields.{EntriesEnd, AreKnown, stored_in}
use Rattle.fb_build.specs.Made.{FieldsLead, named_fields, ends_parts}
use Rattle.fb_build.specs.Paired.{ArePaired}
use Rattle.fb_build.specs.Pieces.{PartAt, reached}
use Rattle.fb_build.proofs.fields.FieldLeadsToItsTarget.{fields_kept}
use Rattle.fb_build.proofs.fields.FieldHasItsValue.{entries_grown, entry_under}
use Rattle.fb_build.proofs.tables.TableHasItsFields.{SlotKnown, p}
use Rattle.fb_build.proofs.tables.TableReachesItsTargets.{table_reached}
use Rattle.fb_build.proofs.tables.TableHasNoSlack.{TableRead}

pub table_leads : (L : LaidSchema) (low c size u : ℕ) (o n : TailSeen) (ends : List ℕ) → Grows o n → length o.bytes < c
    → (within : c ≤ length n.bytes) → TableRead n.bytes (length n.bytes - c) c size u ends
    → (t : ℕ) (xs : List (Option Datum)) (targets : List ℕ) → length (slots_of L t) ≡ length xs
    → ArePaired (slots_of L t) → ((k : ℕ) (f : Slot) (x : Option Datum) → slice_get (slots_of L t) k ≡ Some f
    → slice_get xs k ≡ Some x → EntryFits L f x)
    → AreKnown L (slots_of L t) (stored_in (slots_of L t) xs)
    → EntriesEnd L low o.most o.bytes (λ k f. true) (slots_of L t) (stored_in (slots_of L t) xs) ends
    → FieldsLead o.bytes (λ k f. true) (slots_of L t) (stored_in (slots_of L t) xs) targets ends
    → reached L n.bytes (table_part t) (length n.bytes - c) (a_table t (entries_in xs))
    ≡ record { target = table_part t; at = length n.bytes - c }
    ∷ ends_parts L n.bytes (named_fields (slots_of L t) (stored_in (slots_of L t) xs)) targets
unfolding p
table_leads L low c size u o n ends g behind within read t xs targets long paired fit known state leads =
    let fs = slots_of L t in
    let now = entries_grown L low o n (λ k f. true) fs (stored_in fs xs) ends g state in
    let slot : (k : ℕ) (f : Slot) (x : Option Datum) → slice_get fs k ≡ Some f → slice_get (stored_in fs xs) k ≡ Some x
    → SlotKnown L low n.most n.bytes c within k f x (slice_index ends k) =
    λ k f x fk xk. record {
      simple = (known.each k f x fk xk).0;
      fits = (known.each k f x fk xk).1;
      state = now k f x fk xk;
      under = omega (arith, behind, entry_under L low o.most o.bytes f x (slice_index ends k) (state k f x fk xk));
      number = read.slots k;
    } in
    let later = fields_kept o n (λ k f. true) fs (stored_in fs xs) targets ends g leads in
    ap (λ (zs : List PartAt). record { target = table_part t; at = length n.bytes - c } ∷ zs)
    (table_reached L low n.most n.bytes c within fs xs ends targets long paired fit slot later)
