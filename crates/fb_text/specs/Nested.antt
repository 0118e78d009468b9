-- Structs in structs, and the text behind one of them.
-- From the FlatBuffers documentation, "FlatBuffer Internals": Structs (fields stand at fixed offsets).
use Rattle.std.specs.Prelude.{ℕ, zero, suc, ◌+◌, ◌*◌, ◌-◌, ◌^◌, ◌≡◌, ◌<◌, ◌≤◌, ◌++◌, List, [], drop, Bool, true, Option}
use Rattle.std.specs.Prelude.{None, Some, slice_get, slice_index}
use Rattle.fb_schema.specs.declared.kinds.TypeId.{TypeId}
use Rattle.fb_schema.specs.declared.kinds.Kind.TheVariants.{Struct}
use Rattle.fb_schema.specs.declared.kinds.Shape.TheVariants.{One}
use Rattle.fb_schema.specs.Schema.{DeclaredField, body_at, parts_in}
use Rattle.fb_layout.specs.Laid.{LaidSchema, struct_at, size_of, kind_in, stored_shape}
use Rattle.fb_value.specs.Datum.{Datum, Parts, a_struct}
use Rattle.fb_value.specs.Nth.{nth_part}
use Rattle.fb_read.specs.Tails.{parts_from}
use Rattle.fb_text.specs.Indents.{deeper}
use Rattle.fb_text.specs.Texts.{inside, parts_text}
use Rattle.fb_text.specs.Writes.{State, Adds}
use Rattle.fb_text.specs.declared.nested.StructCursor.{StructCursor}

-- a byte of a struct, counted from its begin, belongs to a field
abbrev pub HasByte : LaidSchema → TypeId → ℕ → DeclaredField → ℕ → Type 0
HasByte L t k f byte =
    (slice_index (struct_at L t.0).offsets k ≤ byte)
    × (byte < slice_index (struct_at L t.0).offsets k + size_of L (kind_in (stored_shape L.schema f.shape)))

-- a field of a struct is a struct
pub record HasStruct (L : LaidSchema) (t : TypeId) (ds : Parts) (k : ℕ) (u : TypeId) (es : Parts) : Type 0 where
  pub field : DeclaredField
  pub there : slice_get (parts_in (body_at L.schema t.0)) k ≡ Some field
  pub shape : field.shape ≡ One (Struct u)
  pub part : nth_part ds k ≡ Some (a_struct es)

-- the text of a struct's fields from one on and its closing bracket, where so many structs are around it
abbrev pub fields_text : LaidSchema → Bool → Option (List ℕ) → TypeId → Parts → ℕ → ℕ → Bool → List ℕ
fields_text L defaults indent t ds depth k some =
    parts_text L defaults (deeper (suc depth) indent) (deeper depth indent) some
    (drop k (parts_in (body_at L.schema t.0))) (parts_from k ds)

-- So many structs down in a struct, and so many bytes behind its begin, stands another. Behind that one's text stands a
-- text.
abbrev pub StandsIn : LaidSchema → Bool → Option (List ℕ) → TypeId → Parts → ℕ → ℕ → TypeId → Parts → List ℕ → Type 0
StandsIn L defaults indent t ds zero at u es behind = (at ≡ 0) × (t ≡ u) × (ds ≡ es) × (behind ≡ [])
StandsIn L defaults indent t ds (suc depth) at u es behind =
    (k : ℕ) × (s : TypeId) × (inner : Parts) × (more : ℕ) × (text : List ℕ) × HasStruct L t ds k s inner
    × StandsIn L defaults (inside indent) s inner depth more u es text
    × (at ≡ slice_index (struct_at L t.0).offsets k + more)
    × (behind ≡ text ++ fields_text L defaults indent t ds 0 (suc k) true)

-- where a struct is read, and its begin
pub record IsStructAt {S : Type 0} (shows : S → LaidSchema → Option Datum → Type 0) (L : LaidSchema) (u : TypeId)
    (es : Parts) (at : ℕ) (here : StructCursor S) : Type 0 where
  pub structure : here.structure ≡ u
  pub shown : shows here.shown L (Some (a_struct es))
  pub begin : here.at ≡ at

-- the struct that is printed stands in the outermost
abbrev pub IsAt : {S : Type 0} → (S → LaidSchema → Option Datum → Type 0) → LaidSchema → Bool → Option (List ℕ)
    → TypeId → Parts
    → StructCursor S → Parts → List ℕ → Type 0
IsAt shows L defaults indent t ds here es behind =
    shows here.shown L (Some (a_struct es)) × StandsIn L defaults indent t ds here.depth here.at here.structure es
    behind

-- what is left to print of its text
abbrev pub left_text : {S : Type 0} → LaidSchema → Bool → Option (List ℕ) → StructCursor S → Parts → List ℕ
left_text L defaults indent here es = fields_text L defaults indent here.structure es here.depth here.next here.some

-- The printer goes on at a struct in the outermost: once the rest of its text and all text behind it are added too, a
-- whole text was added.
abbrev pub GoesOn : {S : Type 0} → (S → LaidSchema → Option Datum → Type 0) → LaidSchema → Bool → Option (List ℕ)
    → TypeId
    → Parts → StructCursor S → State → State → List ℕ → Type 0
GoesOn shows L defaults indent t ds here old new text =
    (es : Parts) × (behind : List ℕ) × IsAt shows L defaults indent t ds here es behind
    × ((end : State) → Adds new end (left_text L defaults indent here es ++ behind) → Adds old end text)

-- The printer goes on somewhere, or a whole text was added.
abbrev pub IsNext : {S : Type 0} → (S → LaidSchema → Option Datum → Type 0) → LaidSchema → Bool → Option (List ℕ)
    → TypeId
    → Parts → Option (StructCursor S) → State → State → List ℕ → Type 0
IsNext shows L defaults indent t ds None old new text = Adds old new text
IsNext shows L defaults indent t ds (Some here) old new text = GoesOn shows L defaults indent t ds here old new text

-- What printing goes by that it ends: the struct has a weight, no more than the outermost has, and the structs around
-- it can be counted.
pub record IsBounded {S : Type 0} (weight : S → ℕ) (outer : S) (here : StructCursor S) : Type 0 where
  pub heavy : 0 < weight here.shown
  pub light : weight here.shown ≤ weight outer
  pub few : here.depth + here.left < 2 ^ 64 - 1

-- A number that falls with each step: by one for a field. A struct that is begun takes 400,000 from it and adds
-- 200,000, which the struct's end takes; neither adds more than 65,536 for the fields that are next.
abbrev pub steps_left : {S : Type 0} → StructCursor S → ℕ
steps_left here = here.left * 400000 + (here.depth * 200000 + (65536 - here.next))
