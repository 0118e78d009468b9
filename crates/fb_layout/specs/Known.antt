-- Sizes and alignments, computed from type to type: a struct over 65,535 bytes has none.
-- From the FlatBuffers documentation, "FlatBuffer Internals": Structs, Tables.
use Rattle.std.specs.Prelude.{ℕ, ◌+◌, ◌++◌, max, List, [], ◌∷◌, length, Option, None, Some, map, nat_lt, nat_le}
use Rattle.std.specs.Prelude.{slice_get, Result, Ok, Err, if◌then◌else◌}
use Rattle.std.specs.Int.{next_multiple_of}
use Rattle.std.specs.Option.{option_map, option_and_then, option_map_or, unwrap_or, ok_or}
use Rattle.fb_schema.specs.Schema.{DeclaredField, DeclaredBody, table_body, struct_body, DeclaredType, DeclaredSchema}
use Rattle.fb_schema.specs.Alignments.{base_size}
use Rattle.fb_layout.specs.Laid.{LaidSchema, StructLayout, no_struct, StoredKind, scalar_kind, struct_kind, table_kind}
use Rattle.fb_layout.specs.Laid.{union_kind, code_kind, text_kind, StoredShape, one_of, vector_of, stored_shape}
use Rattle.fb_layout.specs.Laid.{kind_in}
use Rattle.fb_layout.specs.declared.extents.Extent.{Extent}
use Rattle.fb_layout.specs.declared.extents.StructSizes.{StructSizes}
use Rattle.fb_layout.specs.declared.faults.LayoutFault.{LayoutFault}
use Rattle.fb_layout.specs.declared.faults.LayoutFault.TheVariants.{StructTooBig, TableTooWide}
use Rattle.fb_layout.specs.declared.tables.TableSizes.{TableSizes}

abbrev pub sizes_seen : StructSizes → StructLayout
sizes_seen s = record { size = s.size; align = s.align; offsets = s.offsets.items }

-- the structs so far
abbrev pub Known : Type 0
Known = List (Option StructLayout)

abbrev pub structs_seen : List (Option StructSizes) → Known
structs_seen structs = map (option_map sizes_seen) structs

-- a number, where it is 65,535 at most
abbrev pub small : ℕ → Option ℕ
small n = if nat_lt n 65536 then Some n else None

-- the least multiple of an alignment that isn't below n
abbrev pub aligned_up : ℕ → ℕ → Option ℕ
aligned_up n align = if nat_lt 0 align then small (next_multiple_of n align) else None

abbrev pub extent_in : Option StructLayout → Option Extent
extent_in sizes = option_map (λ s. record { size = s.size; align = s.align }) sizes

abbrev pub struct_extent : Known → ℕ → Option Extent
struct_extent known s = extent_in (unwrap_or (slice_get known s) (Some no_struct))

abbrev pub reference : Extent
reference = record { size = 4; align = 4 }

abbrev pub extent_of : Known → StoredKind → Option Extent
extent_of known (scalar_kind base) = Some (record { size = base_size base; align = base_size base })
extent_of known (struct_kind s) = struct_extent known s
extent_of known (table_kind t) = Some reference
extent_of known (union_kind u) = Some reference
extent_of known (code_kind u) = Some (record { size = 1; align = 1 })
extent_of known text_kind = Some reference

abbrev pub slot_extent : Known → StoredShape → Option Extent
slot_extent known (one_of kind) = extent_of known kind
slot_extent known (vector_of kind) = Some reference

-- step after step, and none from the first step on that has none
unfoldable pub each_added : {A X : Type 0} → (A → X → Option A) → A → List X → Option A
each_added step a [] = Some a
each_added step a (x ∷ xs) = option_and_then (λ b. each_added step b xs) (step a x)

-- where a field begins after an end, and where it ends
abbrev pub place_behind : ℕ → Extent → Option (ℕ × ℕ)
place_behind end field =
    option_and_then (λ offset. option_map (λ next. (offset, next)) (small (offset + field.size)))
    (aligned_up end field.align)

-- the fields so far, and one more after them: their end stands for a size
abbrev pub placed_behind : StructLayout → Extent → Option StructLayout
placed_behind placed field =
    option_map (λ at. record {
      size = at.1;
      align = max placed.align field.align;
      offsets = placed.offsets ++ at.0 ∷ [];
    }) (place_behind placed.size field)

abbrev pub field_placed : DeclaredSchema → Known → StructLayout → DeclaredField → Option StructLayout
field_placed S known placed f =
    option_and_then (placed_behind placed) (extent_of known (kind_in (stored_shape S f.shape)))

abbrev pub no_fields : StructLayout
no_fields = record { size = 0; align = 0; offsets = [] }

-- the whole struct: its alignment is `force_align` or the greatest of its fields'
abbrev pub whole_struct : Option ℕ → StructLayout → Option StructLayout
whole_struct force placed =
    option_map (λ size. record { size = size; align = unwrap_or force placed.align; offsets = placed.offsets })
    (aligned_up placed.size (unwrap_or force placed.align))

abbrev pub known_struct : DeclaredSchema → Known → DeclaredBody → Option StructLayout
known_struct S known (struct_body fs force) =
    option_and_then (whole_struct force) (each_added (field_placed S known) no_fields fs)
known_struct S known _ = Some no_struct

-- the structs among these types after those that are known
unfoldable pub known_from : DeclaredSchema → Known → List DeclaredType → Known
known_from S known [] = known
known_from S known (type ∷ types) = known_from S (known ++ known_struct S known type.body ∷ []) types

-- the slots so far, and one more: a deprecated one takes nothing
abbrev pub slot_added : DeclaredSchema → Known → TableSizes → DeclaredField → Option TableSizes
slot_added S known sizes f = if f.deprecated then Some sizes else
    option_and_then (λ slot. option_map (λ sum. record { widest = sum; align = max sizes.align slot.align })
    (small (sizes.widest + slot.size))) (slot_extent known (stored_shape S f.shape))

abbrev pub no_slots : TableSizes
no_slots = record { widest = 0; align = 4 }

-- the sum of the slots and the table's first number
abbrev pub whole_table : TableSizes → Option TableSizes
whole_table sizes = option_and_then
    (λ sum. option_map (λ widest. record { widest = widest; align = sizes.align }) (small (4 + sum)))
    (aligned_up sizes.widest 4)

-- the sum of some slots
abbrev pub slots_summed : DeclaredSchema → Known → List DeclaredField → Option TableSizes
slots_summed S known fs = each_added (slot_added S known) no_slots fs

abbrev pub known_table : DeclaredSchema → Known → List DeclaredField → Option TableSizes
known_table S known fs =
    if nat_le (length fs) 32765 then option_and_then whole_table (slots_summed S known fs) else None

-- what a type that is no table takes as one
abbrev pub no_table : TableSizes
no_table = record { widest = 4; align = 4 }

-- a type's sizes as a table, or the rule that it fails
abbrev pub type_sizes : DeclaredSchema → Known → ℕ → DeclaredBody → Result TableSizes LayoutFault
type_sizes S known t (table_body fs) = ok_or (known_table S known fs) (TableTooWide (record { 0 = t }))
type_sizes S known t (struct_body fs force) =
    option_map_or (λ s. Ok no_table) (unwrap_or (slice_get known t) (Some no_struct))
    (Err (StructTooBig (record { 0 = t })))
type_sizes S known t _ = Ok no_table

abbrev pub behind_one : TableSizes → Result (List TableSizes) LayoutFault → Result (List TableSizes) LayoutFault
behind_one sizes (Ok more) = Ok (sizes ∷ more)
behind_one sizes (Err fault) = Err fault

abbrev pub if_sized : Result TableSizes LayoutFault → Result (List TableSizes) LayoutFault
    → Result (List TableSizes) LayoutFault
if_sized (Ok sizes) more = behind_one sizes more
if_sized (Err fault) more = Err fault

-- the sizes of these types, numbered from t on, or the first rule that one fails
unfoldable pub tables_from : DeclaredSchema → Known → ℕ → List DeclaredType → Result (List TableSizes) LayoutFault
tables_from S known t [] = Ok []
tables_from S known t (type ∷ types) = if_sized (type_sizes S known t type.body) (tables_from S known (t + 1) types)

-- the sizes of all types, or the first rule that one fails
abbrev pub tables_known : DeclaredSchema → Known → Result (List TableSizes) LayoutFault
tables_known S known = tables_from S known 0 S.types

-- the layout whose structs are known: one that isn't takes nothing
abbrev pub layout_known : DeclaredSchema → Known → LaidSchema
layout_known S known = record { schema = S; structs = map (λ s. unwrap_or s no_struct) known }
