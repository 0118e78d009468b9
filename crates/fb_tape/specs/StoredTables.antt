-- The stored fields of a table in the order of laying, and where each will stand in it.
use Rattle.std.specs.Prelude.{ℕ, ◌+◌, ◌-◌, ◌≡◌, ◌≤◌, ◌++◌, ◌==◌, true, List, [], ◌∷◌, length, map, filter, flat_map}
use Rattle.std.specs.Prelude.{sum_by}
use Rattle.std.specs.Prelude.{◌*◌, slice_get, slice_set, slice_index, Option, Some}
use Rattle.byteorder.specs.Endian.{little_bytes}
use Rattle.fb_layout.specs.Laid.{LaidSchema, Slot}
use Rattle.fb_layout.specs.Sizes.{IsAlignment}
use Rattle.fb_layout.specs.Widths.{inline_align}
use Rattle.fb_value.specs.Datum.{Datum}
use Rattle.fb_value.specs.Num.{Bytes}
use Rattle.fb_tape.specs.LayingOrder.{falling_alignments}
use Rattle.fb_tape.specs.NotedFields.{AreNoted}
use Rattle.fb_tape.specs.OpenFields.{OpenField, AreOpen}
use Rattle.fb_tape.specs.StoredFields.{fields_size}
use Rattle.fb_tape.specs.Defaults.{is_stored}
use Rattle.fb_tape.specs.declared.ops.NotedField.{NotedField}
use Rattle.fb_tape.specs.declared.ops.NotedField.TheVariants.{Reference, Inline}

-- the bytes that a field takes in its table
abbrev pub taken_by : NotedField → ℕ
taken_by Reference = 4
taken_by (Inline n) = n

abbrev pub taken : List OpenField → ℕ
taken xs = sum_by (λ x. taken_by x.note) xs

-- the fields of an alignment
abbrev pub at_align : ℕ → List OpenField → List OpenField
at_align a xs = filter (λ x. x.align == a) xs

-- by falling alignment
abbrev pub in_order : List OpenField → List OpenField
in_order xs = flat_map (λ a. at_align a xs) falling_alignments

abbrev pub notes_of : List OpenField → List NotedField
notes_of xs = map (λ x. x.note) xs

abbrev pub bytes_of : List OpenField → Bytes
bytes_of xs = flat_map (λ x. x.bytes) xs

-- Where slots stand in a table of a size, once fields are laid after so many bytes of others: each stands where all
-- that is laid up to it ends, counted from the table's end.
abbrev pub placed : ℕ → ℕ → List OpenField → List ℕ → List ℕ
placed size laid [] slots = slots
placed size laid (x ∷ xs) slots =
    placed size (laid + taken_by x.note) xs (slice_set slots x.slot (size - (laid + taken_by x.note)))

-- a number of two bytes, put into bytes at a place
abbrev pub put_number : Bytes → ℕ → ℕ → Bytes
put_number bytes at n =
    slice_set (slice_set bytes (at + 1) (slice_index (little_bytes 2 n) 1)) at (slice_index (little_bytes 2 n) 0)

-- the same in the bytes of a vtable, which has each slot's number after its own size and its table's
abbrev pub told : ℕ → ℕ → List OpenField → Bytes → Bytes
told size laid [] vtable = vtable
told size laid (x ∷ xs) vtable = told size (laid + taken_by x.note) xs
    (put_number vtable (4 + 2 * x.slot) (size - (laid + taken_by x.note)))

-- what each slot that is stored is aligned to
abbrev pub StoredAligned : LaidSchema → List Slot → List (Option Datum) → Type 0
StoredAligned L fs xs = (k : ℕ) (f : Slot) (x : Option Datum) → slice_get fs k ≡ Some f → slice_get xs k ≡ Some x
    → is_stored f x ≡ true → IsAlignment (inline_align L f.shape)

-- Open fields are what slots store, and fit a table.
pub record AreStored (L : LaidSchema) (fs : List Slot) (xs : List (Option Datum)) (opens : List OpenField)
    : Type 0 where
  pub are : AreOpen L 0 fs xs opens
  pub aligned : StoredAligned L fs xs
  pub small : fields_size L fs xs ≤ 65528
  pub few : length fs ≤ 32765

-- The fields of some slots were noted after others.
pub record AddsNotes (L : LaidSchema) (fs : List Slot) (xs : List (Option Datum)) (ks : List ℕ)
    (notes new_notes : List NotedField) (bytes new_bytes : Bytes) (own_notes : List NotedField) (own_bytes : Bytes)
    : Type 0 where
  pub notes_are : new_notes ≡ notes ++ own_notes
  pub bytes_are : new_bytes ≡ bytes ++ own_bytes
  pub noted : AreNoted L fs xs ks own_notes own_bytes
