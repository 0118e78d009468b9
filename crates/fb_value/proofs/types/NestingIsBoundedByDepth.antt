-- What fits the root and is few tables deep is nested little deeper.
use Rattle.std.proofs.Common.{◌≡◌, ◌↔◌, ℕ, ◌+◌, ◌*◌, ◌<◌, ◌≤◌, List, [], ◌∷◌, length, IsTrue, Option, None, Some}
use Rattle.std.proofs.Common.{slice_get, refl, arith}
use Rattle.std.proofs.lemmas.Option.{slice_get-get_or}
use Rattle.fb_schema.specs.Schema.{DeclaredBody, table_body, DeclaredType, body_in}
use Rattle.fb_schema.specs.Schema.{is_table}
use Rattle.fb_layout.specs.Laid.{LaidSchema, Slot, StoredKind, scalar_kind, struct_kind, table_kind, union_kind}
use Rattle.fb_layout.specs.Laid.{code_kind, text_kind, StoredShape, one_of, vector_of, slots_of, parts_of, struct_at}
use Rattle.fb_layout.specs.WellMade.{IsWellMade}
use Rattle.fb_value.specs.Datum.{Datum, a_number, a_text, a_vector, a_struct, a_table, a_member, an_unknown, Parts}
use Rattle.fb_value.specs.Datum.{no_parts, more_parts, SlotEntries, no_entries, absent_entry, present_entry}
use Rattle.fb_value.specs.Counts.{depth, parts_depth, entries_depth, nesting, parts_nesting, struct_nesting}
use Rattle.fb_value.specs.Counts.{entries_nesting}
use Rattle.fb_value.specs.Fits.{Fits, PartsFit, EachFits, EntriesFit, kind_of_type, FitsKind, FitsRoot}
use Rattle.fb_value.specs.Laws.{NestingOfDepth}
use Rattle.fb_value.proofs.types.StoredKindsAreResolved.{LowerParts, IsElement, IsStored, AreStored, IsResolved}
use Rattle.fb_value.proofs.types.StoredKindsAreResolved.{resolved}

-- a type that stands where none does
no_type : DeclaredType
no_type = record { name = []; body = table_body [] }

module _ (L : LaidSchema) (most : ℕ) (made : IsResolved L most) where
  -- A struct's parts are numbers and structs, which take no level of their own.
  parts_flat : (s : ℕ) (ks : List StoredKind) (os : List ℕ) (ds : Parts) → LowerParts s ks os → PartsFit L ks ds
      → struct_nesting ds ≡ 0
  parts_flat s [] os no_parts lower fit = refl
  parts_flat s (scalar_kind base ∷ ks) (o ∷ os) (more_parts (a_number n) ds) lower fit =
      rw (parts_flat s ks os ds lower fit.1) refl
  parts_flat s (struct_kind t ∷ ks) (o ∷ os) (more_parts (a_struct es) ds) lower fit =
      rw (
        parts_flat t (parts_of L t) (struct_at L t).offsets es (made.lower t) fit.0,
        parts_flat s ks os ds lower.1 fit.1,
      ) refl
  parts_flat s (scalar_kind base ∷ ks) (o ∷ os) (more_parts d ds) lower fit = absurd fit.0
  parts_flat s (struct_kind t ∷ ks) (o ∷ os) (more_parts d ds) lower fit = absurd fit.0
  parts_flat s [] os (more_parts d ds) lower fit = absurd fit
  parts_flat s (k ∷ ks) os no_parts lower fit = absurd fit
  parts_flat s _ _ _ lower fit = absurd lower

  mutual
    -- What a slot may have is nested at most twice as deep as it has tables, and two levels more.
    slot_nested : (shape : StoredShape) (d : Datum) → IsStored most shape → Fits L shape d → nesting d ≤ 2 * depth d + 2
    slot_nested (one_of (scalar_kind base)) (a_number n) stored fit = omega arith
    slot_nested (one_of (struct_kind s)) (a_struct ds) stored fit = let flat =
        parts_flat s (parts_of L s) (struct_at L s).offsets ds (made.lower s) fit in omega (arith, flat)
    slot_nested (one_of text_kind) (a_text bytes) stored fit = omega arith
    slot_nested (one_of (table_kind t)) (a_table type es) stored fit = let within =
        entries_nested (slots_of L t) es (made.stored t) fit.1 in omega (arith, within)
    slot_nested (one_of (union_kind u)) (a_member c d) stored fit = let within = table_nested fit.0 d fit.2 in
        omega (arith, within)
    slot_nested (one_of (union_kind u)) (an_unknown c) stored fit = omega arith
    slot_nested (vector_of kind) (a_vector ds) stored fit = let within = each_nested kind ds stored fit in
        omega (arith, within)
    slot_nested _ _ stored fit = absurd fit

    -- A table is nested at most twice as deep as it has tables, and one level more.
    table_nested : (t : ℕ) (d : Datum) → Fits L (one_of (table_kind t)) d → nesting d ≤ 2 * depth d + 1
    table_nested t (a_table type es) fit = let within = entries_nested (slots_of L t) es (made.stored t) fit.1 in
        omega (arith, within)
    table_nested t _ fit = absurd fit

    -- The same of elements.
    each_nested : (kind : StoredKind) (ds : Parts) → IsElement most kind → EachFits L kind ds
        → parts_nesting ds ≤ 2 * parts_depth ds + 1
    each_nested kind no_parts element fit = omega arith
    each_nested kind (more_parts d ds) element fit =
        let first = element_nested kind d element fit.0 in
        let rest = each_nested kind ds element fit.1 in
        omega (arith, first, rest)

    element_nested : (kind : StoredKind) (d : Datum) → IsElement most kind → Fits L (one_of kind) d
        → nesting d ≤ 2 * depth d + 1
    element_nested (scalar_kind base) (a_number n) element fit = omega arith
    element_nested (struct_kind s) (a_struct ds) element fit = let flat =
        parts_flat s (parts_of L s) (struct_at L s).offsets ds (made.lower s) fit in omega (arith, flat)
    element_nested text_kind (a_text bytes) element fit = omega arith
    element_nested (table_kind t) (a_table type es) element fit = let within =
        entries_nested (slots_of L t) es (made.stored t) fit.1 in omega (arith, within)
    element_nested (union_kind u) d element fit = absurd element
    element_nested (code_kind u) d element fit = absurd element
    element_nested _ _ element fit = absurd fit

    -- Of several entries two levels more.
    entries_nested : (fs : List Slot) (es : SlotEntries) → AreStored most fs → EntriesFit L fs es
        → entries_nesting es ≤ 2 * entries_depth es + 2
    entries_nested [] no_entries stored fit = omega arith
    entries_nested (f ∷ fs) (absent_entry es) stored fit = entries_nested fs es stored.1 fit.1
    entries_nested (f ∷ fs) (present_entry d es) stored fit =
        let first = slot_nested f.shape d stored.0 fit.1 in
        let rest = entries_nested fs es stored.1 fit.2 in
        omega (arith, first, rest)
    entries_nested _ _ stored fit = absurd fit

-- What fits a declared table's kind is what its type may have, and the other way round.
body_fits : (L : LaidSchema) (t : ℕ) (type : DeclaredType) (body : DeclaredBody) (d : Datum) → type.body ≡ body
    → IsTrue (is_table body) → FitsKind L (kind_of_type t (Some type)) d ↔ Fits L (one_of (table_kind t)) d
body_fits L t type (table_body fs) d e is = rw e ((λ h. h), (λ h. h))
body_fits L t type _ d e is = cc

type_fits : (L : LaidSchema) (t : ℕ) (o : Option DeclaredType) (d : Datum) → slice_get L.schema.types t ≡ o
    → t < length L.schema.types → IsTrue (is_table (body_in o))
    → FitsKind L (kind_of_type t o) d ↔ Fits L (one_of (table_kind t)) d
type_fits L t None d e within is = absurd (let there = slice_get-get_or L.schema.types t no_type within in cc)
type_fits L t (Some type) d e within is = body_fits L t type type.body d refl is

-- What fits the root is what its table's kind may have.
pub root_fits : (L : LaidSchema) (d : Datum) → IsWellMade L
    → FitsRoot L d ↔ Fits L (one_of (table_kind L.schema.root)) d
root_fits L d made = type_fits L L.schema.root (slice_get L.schema.types L.schema.root) d refl made.declared.root.0
    made.declared.root.1

-- What fits the root with depth at most 127 is nested at most 300 deep.
pub nesting_of_depth_shown : NestingOfDepth
nesting_of_depth_shown L d made fit h = let within =
    table_nested L (length L.schema.types) (resolved L made) L.schema.root d ((root_fits L d made).0 fit) in
    omega (arith, within)
