-- What a tape means: which parts wait for who refers to them once its operations are laid one after the other.
-- From the FlatBuffers documentation, "FlatBuffer Internals": Strings and vectors (a count in front of what is counted,
-- a zero after a string), Tables.
use Rattle.std.specs.Prelude.{ℕ, suc, ◌+◌, ◌-◌, ◌*◌, ◌≡◌, ◌≤◌, ◌⊎◌, ◌++◌, max, true, false, List, [], ◌∷◌, length}
use Rattle.std.specs.Prelude.{Option}
use Rattle.std.specs.Prelude.{Some, slice_get}
use Rattle.std.specs.Str.{IsUtf8}
use Rattle.byteorder.specs.Endian.{little_bytes}
use Rattle.fb_layout.specs.Laid.{LaidSchema, StoredKind, one_of, slots_of, align_of}
use Rattle.fb_layout.specs.Widths.{greatest}
use Rattle.fb_value.specs.Counts.{entries_whole}
use Rattle.fb_value.specs.Datum.{Datum, a_text, a_vector, a_table}
use Rattle.fb_value.specs.Fits.{EntriesFit}
use Rattle.fb_value.specs.Num.{Bytes}
use Rattle.fb_value.specs.Places.{table_part, text_part, vector_part}
use Rattle.fb_value.specs.Room.{table_room}
use Rattle.fb_value.specs.View.{parts_in, entries_in}
use Rattle.fb_value.specs.Bounds.{most_bytes}
use Rattle.fb_tape.specs.Alignments.{aligned_to}
use Rattle.fb_tape.specs.InlineBytes.{AreInlineBytes}
use Rattle.fb_tape.specs.LayingOrder.{laying_order}
use Rattle.fb_tape.specs.NamedParts.{NamedPart, elements_apart, entries_apart}
use Rattle.fb_tape.specs.NotedFields.{AreNoted}
use Rattle.fb_tape.specs.StoredFields.{is_reference, stored_in, stored_align, ItemsKnown}
use Rattle.fb_tape.specs.Vtables.{vtable_of}
use Rattle.fb_tape.specs.declared.ops.NotedField.{NotedField}
use Rattle.fb_tape.specs.declared.ops.Op.{Op}
use Rattle.fb_tape.specs.declared.ops.Op.TheVariants.{Data, References, Table}

-- ---- a text, or a vector of numbers or structs

-- A text, its count in front and a zero after it.
pub record IsTextData (part : NamedPart) (align : ℕ) (bytes : Bytes) : Type 0 where
  pub text : Bytes
  pub utf8 : IsUtf8 text
  pub part_is : part ≡ record { target = text_part; value = a_text text }
  pub align_is : align ≡ 4
  pub bytes_are : bytes ≡ little_bytes 4 (length text) ++ (text ++ (0 ∷ []))

-- A number or struct stands first, and `others` holds of what is after it.
pub record IsElementFirst (L : LaidSchema) (kind : StoredKind) (d : Datum) (bytes : Bytes) (others : Bytes → Type 0)
    : Type 0 where
  pub own : Bytes
  pub behind : Bytes
  pub bytes_are : bytes ≡ own ++ behind
  pub inline : AreInlineBytes L kind d own
  pub rest : others behind

-- Numbers or structs, one after the other.
abbrev pub AreElementBytes : LaidSchema → StoredKind → List Datum → Bytes → Type 0
AreElementBytes L kind [] bytes = bytes ≡ []
AreElementBytes L kind (d ∷ ds) bytes = IsElementFirst L kind d bytes (λ behind. AreElementBytes L kind ds behind)

-- A vector of numbers or structs, its count in front.
pub record IsVectorData (L : LaidSchema) (part : NamedPart) (align : ℕ) (bytes : Bytes) : Type 0 where
  pub kind : StoredKind
  pub elements : List Datum
  pub element_bytes : Bytes
  pub part_is : part ≡ record { target = vector_part kind; value = a_vector (parts_in elements) }
  pub align_is : align ≡ max 4 (align_of L kind)
  pub bytes_are : bytes ≡ little_bytes 4 (length elements) ++ element_bytes
  pub stand : AreElementBytes L kind elements element_bytes
  pub inline : is_reference (one_of kind) ≡ false
  pub known : ItemsKnown L kind elements
  pub low : align_of L kind ≤ greatest L

-- The first elements of a vector that is to have so many, and its count in front.
pub record IsUnfinished (L : LaidSchema) (kind : StoredKind) (count : ℕ) (elements : List Datum) (bytes : Bytes)
    : Type 0 where
  pub element_bytes : Bytes
  pub bytes_are : bytes ≡ little_bytes 4 count ++ element_bytes
  pub stand : AreElementBytes L kind elements element_bytes

abbrev pub IsData : LaidSchema → NamedPart → ℕ → Bytes → Type 0
IsData L part align bytes = IsTextData part align bytes ⊎ IsVectorData L part align bytes

-- ---- one operation: of the parts ps that wait it takes some, and then the parts qs wait

-- It lays bytes that refer to nothing.
pub record LaysData (L : LaidSchema) (align size room : ℕ) (ps : List NamedPart) (bytes : Bytes) (qs : List NamedPart)
    : Type 0 where
  pub part : NamedPart
  pub is : IsData L part align bytes
  pub size_is : size ≡ length bytes
  pub enough : size + (align - 1) ≤ room
  pub leaves : qs ≡ ps ++ (part ∷ [])

-- It lays a vector of references to the parts that were laid last.
pub record LaysReferences (L : LaidSchema) (count room : ℕ) (ps qs : List NamedPart) : Type 0 where
  pub kind : StoredKind
  pub elements : List Datum
  pub others : List NamedPart
  pub count_is : count ≡ length elements
  pub references : is_reference (one_of kind) ≡ true
  pub known : ItemsKnown L kind elements
  pub enough : (4 + count * 4) + 3 ≤ room
  pub takes : ps ≡ others ++ elements_apart kind elements
  pub leaves : qs ≡ others ++ (record { target = vector_part kind; value = a_vector (parts_in elements) } ∷ [])

-- It lays a table, whose references are to the parts that were laid last, and its vtable if that isn't laid.
pub record LaysTable (L : LaidSchema) (vtables : List Bytes) (fields align vtable room : ℕ) (ps : List NamedPart)
    (notes : List NotedField) (bytes : Bytes) (qs : List NamedPart) : Type 0 where
  pub table : ℕ
  pub entries : List (Option Datum)
  pub others : List NamedPart
  pub fits : EntriesFit L (slots_of L table) (entries_in entries)
  pub whole : entries_whole (entries_in entries) ≡ true
  pub fields_are : fields ≡ length notes
  pub noted : AreNoted L (slots_of L table) (stored_in (slots_of L table) entries)
      (laying_order L (slots_of L table) (stored_in (slots_of L table) entries)) notes bytes
  pub align_is : align ≡ max 4 (stored_align L (slots_of L table) (stored_in (slots_of L table) entries))
  pub vtable_is : slice_get vtables vtable
      ≡ Some (vtable_of L (slots_of L table) (stored_in (slots_of L table) entries))
  pub enough : table_room L table ≤ room
  pub takes : ps ≡ others ++ entries_apart (slots_of L table) entries
  pub leaves : qs ≡ others ++ (record { target = table_part table; value = a_table table (entries_in entries) } ∷ [])

abbrev pub Lays : LaidSchema → List Bytes → Op → ℕ → List NamedPart → List NotedField → Bytes → List NamedPart → Type 0
Lays L vtables (Data align size) room ps notes bytes qs =
    (notes ≡ []) × LaysData L (aligned_to align) size room ps bytes qs
Lays L vtables (References count) room ps notes bytes qs =
    (notes ≡ []) × (bytes ≡ []) × LaysReferences L count room ps qs
Lays L vtables (Table align fields vtable) room ps notes bytes qs =
    LaysTable L vtables fields (aligned_to align) vtable room ps notes bytes qs

-- ---- operations one after the other

-- Vtables are numbered as they come: a table's is one of the n that came before, or the next.
abbrev pub IsInTurn : ℕ → Op → Type 0
IsInTurn n (Table align fields vtable) = vtable ≤ n
IsInTurn n _ = Unit {0}

abbrev pub known_after : ℕ → Op → ℕ
known_after n (Table align fields vtable) = max n (suc vtable)
known_after n _ = n

-- The operation is first, with what is noted for it, and `others` holds of the others: of the vtables that came, of the
-- room that is left, of the parts that wait, and of what is noted for them.
pub record IsLaidFirst (L : LaidSchema) (vtables : List Bytes) (n : ℕ) (op : Op) (room : ℕ) (ps : List NamedPart)
    (notes : List NotedField) (bytes : Bytes)
    (others : ℕ → ℕ → List NamedPart → List NotedField → Bytes → Type 0) : Type 0 where
  pub own_room : ℕ
  pub room_behind : ℕ
  pub own_notes : List NotedField
  pub notes_behind : List NotedField
  pub own_bytes : Bytes
  pub bytes_behind : Bytes
  pub waiting : List NamedPart
  pub room_is : room ≡ own_room + room_behind
  pub notes_are : notes ≡ own_notes ++ notes_behind
  pub bytes_are : bytes ≡ own_bytes ++ bytes_behind
  pub turn : IsInTurn n op
  pub lays : Lays L vtables op own_room ps own_notes own_bytes waiting
  pub rest : others (known_after n op) room_behind waiting notes_behind bytes_behind

-- Where n vtables came before and the parts ps wait, all vtables have come and the parts qs wait once the operations
-- are laid.
abbrev pub Lay : LaidSchema → List Bytes → ℕ → ℕ → List NamedPart → List Op → List NotedField → Bytes → List NamedPart
    → Type 0
Lay L vtables n room ps [] notes bytes qs =
    (n ≡ length vtables) × (notes ≡ []) × (bytes ≡ []) × (ps ≡ qs)
Lay L vtables n room ps (op ∷ ops) notes bytes qs = IsLaidFirst L vtables n op room ps notes bytes
    (λ m r rs ns bs. Lay L vtables m r rs ops ns bs qs)

-- ---- a tape

-- what contracts see of a tape: its operations with what is noted for them, the bytes of a vector whose elements are
-- still to come, the vtables in the order in which they come, each once, and the rooms of all parts
pub record Taped : Type 0 where
  pub layout : LaidSchema
  pub ops : List Op
  pub notes : List NotedField
  pub bytes : Bytes
  pub unfinished : Bytes
  pub vtables : List Bytes
  pub room : ℕ

-- Once the tape is laid, these parts wait. Nothing is said of one whose parts are too big for a buffer.
abbrev pub Waits : Taped → List NamedPart → Type 0
Waits t ps = t.room ≤ most_bytes → Lay t.layout t.vtables 0 t.room [] t.ops t.notes t.bytes ps

-- The tape means a value of the root table: that alone waits.
abbrev pub MeansRoot : Taped → List (Option Datum) → Type 0
MeansRoot t xs = Waits t (record {
  target = table_part t.layout.schema.root;
  value = a_table t.layout.schema.root (entries_in xs);
} ∷ [])
