-- What each layout keeps: its schema is a declared one, and its structs stand as they must.
-- From the FlatBuffers documentation, "FlatBuffer Internals": Structs.
use Rattle.std.specs.Prelude.{ℕ, ◌+◌, ◌≡◌, ◌≤◌, false, List, [], ◌∷◌, length, Option, map, IsTrue}
use Rattle.std.specs.Option.{ForSome, unwrap_or}
use Rattle.fb_schema.specs.Schema.{body_at, force_align_in, is_struct}
use Rattle.fb_schema.specs.WellDeclared.{IsDeclared}
use Rattle.fb_layout.specs.Sizes.{IsLeastMultiple}
use Rattle.fb_layout.specs.Laid.{LaidSchema, StructLayout, no_struct, StoredKind, struct_at, parts_of, slots_of}
use Rattle.fb_layout.specs.Laid.{size_of, align_of}
use Rattle.fb_schema.specs.Alignments.{greatest_in}
use Rattle.fb_layout.specs.Widths.{widest}

-- From position p on each field stands at the least multiple of its alignment that isn't below the end of the one
-- before. The last ends at `end`.
abbrev pub StandInOrder : LaidSchema → ℕ → List StoredKind → List ℕ → ℕ → Type 0
StandInOrder L p [] [] end = p ≡ end
StandInOrder L p (kind ∷ kinds) (o ∷ os) end =
    IsLeastMultiple (align_of L kind) p o × StandInOrder L (o + size_of L kind) kinds os end
StandInOrder L p _ _ end = ⊥

-- the greatest of the alignments of a struct's fields
abbrev pub natural_align : LaidSchema → List StoredKind → ℕ
natural_align L kinds = greatest_in (map (align_of L) kinds)

-- A struct's alignment is `force_align` or the natural one, and its size the least multiple of that.
pub record IsStructLaid (L : LaidSchema) (kinds : List StoredKind) (force : Option ℕ) (r : StructLayout) : Type 0 where
  pub end : ℕ
  pub fields : StandInOrder L 0 kinds r.offsets end
  pub forced : ForSome force (λ a. natural_align L kinds ≤ a)
  pub aligned : r.align ≡ unwrap_or force (natural_align L kinds)
  pub sized : IsLeastMultiple r.align end r.size

-- A table is at most 65,535 bytes wide inline and has at most 32,765 slots.
pub record IsNarrow (L : LaidSchema) (t : ℕ) : Type 0 where
  pub wide : widest L t ≤ 65535
  pub few : length (slots_of L t) ≤ 32765

-- one entry for each type, however great
pub record IsSized (L : LaidSchema) : Type 0 where
  pub one_each : length L.structs ≡ length L.schema.types
  pub structs : (s : ℕ) → IsTrue (is_struct (body_at L.schema s))
      → IsStructLaid L (parts_of L s) (force_align_in (body_at L.schema s)) (struct_at L s)
  -- a type that is no struct takes nothing of its own
  pub others : (t : ℕ) → is_struct (body_at L.schema t) ≡ false → struct_at L t ≡ no_struct

-- A struct takes at most 65,535 bytes.
pub record IsWellMade (L : LaidSchema) : Type 0 where
  pub declared : IsDeclared L.schema
  pub sized : IsSized L
  pub small : (s : ℕ) → (struct_at L s).size ≤ 65535
  pub tables : (t : ℕ) → IsNarrow L t
