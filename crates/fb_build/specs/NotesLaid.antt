-- The fields of a table, as a tape notes them, before and once they are laid.
use Rattle.std.specs.Prelude.{ℕ, ◌+◌, ◌≡◌, ◌≤◌, ◌<◌, ◌++◌, max, false, true, List, ◌∷◌, length, take, slice_index}
use Rattle.std.specs.Prelude.{Option}
use Rattle.std.specs.List.{sum_by}
use Rattle.fb_layout.specs.Laid.{LaidSchema, Slot}
use Rattle.fb_value.specs.Datum.{Datum}
use Rattle.fb_value.specs.Num.{Bytes, divides}
use Rattle.fb_value.specs.Places.{Target, part_place, ref_place}
use Rattle.fb_tape.specs.LayingOrder.{laying_order}
use Rattle.fb_tape.specs.NotedFields.{AreNoted}
use Rattle.fb_tape.specs.declared.ops.NotedField.{NotedField}
use Rattle.fb_tape.specs.declared.ops.NotedField.TheVariants.{Reference, Inline}
use Rattle.fb_build.specs.Fields.{AreKnown, EntriesEnd, stored_align, fields_size}
use Rattle.fb_build.specs.FieldsLaid.{AreFieldsLaid}
use Rattle.fb_build.specs.Lengths.{zeros_to}
use Rattle.fb_build.specs.Made.{LeadsEnd, FieldsLead}
use Rattle.fb_build.specs.Tails.{TailSeen, LaidInTail}

-- how many bytes a field takes in its table
abbrev pub noted_size : NotedField → ℕ
noted_size Reference = 4
noted_size (Inline n) = n

-- how many of the parts that wait it refers to
abbrev pub noted_references : NotedField → ℕ
noted_references Reference = 1
noted_references (Inline n) = 0

abbrev pub notes_size : List NotedField → ℕ
notes_size notes = sum_by noted_size notes

abbrev pub notes_references : List NotedField → ℕ
notes_references notes = sum_by noted_references notes

-- ---- one field

-- what the first of some end-counts names may be referred to here
pub record MayRefer (ends : List ℕ) (o : TailSeen) : Type 0 where
  pub some : 0 < length ends
  pub inside : slice_index ends 0 ≤ length o.bytes
  pub room : 4 ≤ o.free
  pub whole : divides 4 (length o.bytes) ≡ true
  pub wide : divides 4 o.most ≡ true

abbrev pub MayLay : NotedField → Bytes → List ℕ → TailSeen → Type 0
MayLay Reference bytes ends o = MayRefer ends o
MayLay (Inline n) bytes ends o = (n ≤ length bytes) × (n ≤ o.free)

-- A reference was laid to what an end-count names.
pub record Refers (target : ℕ) (a b : TailSeen) : Type 0 where
  pub leads : LeadsEnd b.bytes (length b.bytes) target
  pub lies : (L : LaidSchema) (X : Target) (d : Datum) → LaidInTail L a.most a.bytes (part_place X) target d
      → LaidInTail L b.most b.bytes (ref_place X) (length b.bytes) d

-- From a to b the field was laid, with the first of some bytes or to the first of some end-counts.
abbrev pub LaysField : NotedField → Bytes → List ℕ → TailSeen → TailSeen → Type 0
LaysField Reference bytes ends a b = Refers (slice_index ends 0) a b
LaysField (Inline n) bytes ends a b = b.bytes ≡ take n bytes ++ a.bytes

-- ---- all fields

-- The references among the fields of some slots are, one after the other, to what these end-counts name.
pub record RefersFirst (k : ℕ) (targets ends : List ℕ) (others : List ℕ → Type 0) : Type 0 where
  pub behind : List ℕ
  pub is : ends ≡ slice_index targets k ∷ behind
  pub rest : others behind

abbrev pub AreReferences : List NotedField → List ℕ → List ℕ → List ℕ → Type 0
AreReferences (Reference ∷ notes) (k ∷ ks) targets ends =
    RefersFirst k targets ends (λ es. AreReferences notes ks targets es)
AreReferences (Inline n ∷ notes) (k ∷ ks) targets ends = AreReferences notes ks targets ends
AreReferences _ _ targets ends = Unit {0}

-- The fields of a table with the slots fs, which stores xs, are to be laid: all that they refer to is laid, for each
-- slot at one of the end-counts `targets`.
pub record AreToBeLaid (L : LaidSchema) (fs : List Slot) (xs : List (Option Datum)) (targets : List ℕ)
    (align : ℕ) (notes : List NotedField) (bytes : Bytes) (ends : List ℕ) (o : TailSeen) : Type 0 where
  pub known : AreKnown L fs xs
  pub noted : AreNoted L fs xs (laying_order L fs xs) notes bytes
  pub references : AreReferences notes (laying_order L fs xs) targets ends
  pub align_is : align ≡ max 4 (stored_align L fs xs)
  pub each : length targets ≡ length fs
  pub state : EntriesEnd L 0 o.most o.bytes (λ k f. false) fs xs targets
  pub room : zeros_to align (length o.bytes) + fields_size L fs xs ≤ o.free

-- fields of some table
pub record SomeToBeLaid (align : ℕ) (notes : List NotedField) (bytes : Bytes) (ends : List ℕ) (o : TailSeen)
    : Type 0 where
  pub layout : LaidSchema
  pub slots : List Slot
  pub stored : List (Option Datum)
  pub targets : List ℕ
  pub are : AreToBeLaid layout slots stored targets align notes bytes ends o

-- They are laid, from a multiple on.
pub record AreLaidNow (L : LaidSchema) (fs : List Slot) (xs : List (Option Datum)) (targets : List ℕ) (start : ℕ)
    (o : TailSeen) : Type 0 where
  pub ends : List ℕ
  pub laid : AreFieldsLaid L o fs xs start ends
  pub leads : FieldsLead o.bytes (λ k f. true) fs xs targets ends
