-- A table or a vector fails where its parts do, and otherwise is what they give.
use Rattle.std.proofs.Common.{◌≡◌, ◌<◌, ◌≤◌, ◌+◌, ◌-◌, ◌||◌, ℕ, zero, suc, Bool, List, Option, Ok, Err, refl, arith}
use Rattle.serde_json.specs.Data.{Members}
use Rattle.fb_schema.specs.Schema.{body_at, slots_in}
use Rattle.fb_schema.specs.declared.kinds.Kind.{Kind}
use Rattle.fb_schema.specs.declared.kinds.Shape.TheVariants.{Many}
use Rattle.fb_layout.specs.Laid.{LaidSchema}
use Rattle.fb_value.specs.Datum.{Datum, a_table, a_vector}
use Rattle.fb_value.specs.View.{parts_in, entries_in}
use Rattle.fb_json.specs.declared.faults.Place.{Place}
use Rattle.fb_json.specs.declared.faults.JsonFault.{JsonFault}
use Rattle.fb_json.specs.Meant.{Look, ItemsMeaner, if_known, names_known, slots_meant, table_meant, type_place}
use Rattle.fb_json.specs.Meant.{vector_meant}
use Rattle.fb_json.proofs.laws.EachStepOfABindSucceeds.{spends}

pub table_fails : (L : LaidSchema) (unknown : Bool) (ms : Members) (look : Look) (t : ℕ) (at : Place)
    (levels left : ℕ) (fault : JsonFault) → 0 < levels → 1 ≤ left
    → if_known (unknown || names_known (body_at L.schema t) ms) (type_place t) ≡ Ok tt
    → slots_meant L look t (slots_in (body_at L.schema t)) 0 0 (levels - 1) (left - 1) ≡ Err fault
    → table_meant L unknown ms look t at levels left ≡ Err fault
unfolding table_meant
table_fails L unknown ms look t at zero left fault some more known fails = absurd (omega (arith, some))
table_fails L unknown ms look t at (suc levels) left fault some more known fails =
    let one_less : suc levels - 1 ≡ levels = omega arith in
    let slots : slots_meant L look t (slots_in (body_at L.schema t)) 0 0 levels (left - 1) ≡ Err fault =
    rw (← one_less) fails in
    rw (spends 1 at left more, known, slots) refl

pub table_gives : (L : LaidSchema) (unknown : Bool) (ms : Members) (look : Look) (t : ℕ) (at : Place)
    (levels left : ℕ) (es : List (Option Datum)) (rest : ℕ) → 0 < levels → 1 ≤ left
    → if_known (unknown || names_known (body_at L.schema t) ms) (type_place t) ≡ Ok tt
    → slots_meant L look t (slots_in (body_at L.schema t)) 0 0 (levels - 1) (left - 1) ≡ Ok (es, rest)
    → table_meant L unknown ms look t at levels left ≡ Ok (a_table t (entries_in es), rest)
unfolding table_meant
table_gives L unknown ms look t at zero left es rest some more known given = absurd (omega (arith, some))
table_gives L unknown ms look t at (suc levels) left es rest some more known given =
    let one_less : suc levels - 1 ≡ levels = omega arith in
    let slots : slots_meant L look t (slots_in (body_at L.schema t)) 0 0 levels (left - 1) ≡ Ok (es, rest) =
    rw (← one_less) given in
    rw (spends 1 at left more, known, slots) refl

-- before its slots a table fails for a member that no slot in use has
pub table_unknown : (L : LaidSchema) (unknown : Bool) (ms : Members) (look : Look) (t : ℕ) (at : Place)
    (levels left : ℕ) (fault : JsonFault) → 0 < levels → 1 ≤ left
    → if_known (unknown || names_known (body_at L.schema t) ms) (type_place t) ≡ Err fault
    → table_meant L unknown ms look t at levels left ≡ Err fault
unfolding table_meant
table_unknown L unknown ms look t at zero left fault some more unknown_one = absurd (omega (arith, some))
table_unknown L unknown ms look t at (suc levels) left fault some more unknown_one =
    rw (spends 1 at left more, unknown_one) refl

-- a vector is what its elements give, and fails where they do
module _ (items : ItemsMeaner) (n : ℕ) (kind : Kind) (at : Place) (levels left : ℕ) where
  pub vector_gives : (xs : List Datum) (rest : ℕ) → n < left → items kind at levels (left - 1 - n) ≡ Ok (xs, rest)
      → vector_meant items n (Many kind) at levels left ≡ Ok (a_vector (parts_in xs), rest)
  unfolding vector_meant
  vector_gives xs rest few given =
      let same : left - (1 + n) ≡ left - 1 - n = omega arith in
      rw (spends (1 + n) at left (omega arith), same, given) refl

  pub vector_fails : (fault : JsonFault) → n < left → items kind at levels (left - 1 - n) ≡ Err fault
      → vector_meant items n (Many kind) at levels left ≡ Err fault
  unfolding vector_meant
  vector_fails fault few fails =
      let same : left - (1 + n) ≡ left - 1 - n = omega arith in
      rw (spends (1 + n) at left (omega arith), same, fails) refl
