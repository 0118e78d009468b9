-- The operations of a tape, one laid after the other.
use Rattle.std.proofs.Common.{◌≡◌, ℕ, suc, ◌+◌, ◌≤◌, ◌<◌, ◌++◌, List, [], ◌∷◌, length, take, drop, Option}
use Rattle.std.proofs.Common.{refl, ap, sym, ◌∙◌, arith, length-append}
use Rattle.std.proofs.lemmas.List.Sums.{sum_by-cons}
use Rattle.std.proofs.Common.{slice_index_or}
use Rattle.std.proofs.Math.Seq.{drop-append_seam, take-append_seam, drop-cons}
use Rattle.fb_layout.specs.Laid.{LaidSchema, Slot}
use Rattle.fb_layout.specs.WellMade.{IsWellMade}
use Rattle.fb_value.specs.Datum.{Datum}
use Rattle.fb_value.specs.Num.{Bytes}
use Rattle.fb_tape.specs.NamedParts.{NamedPart}
use Rattle.fb_tape.specs.NotedFields.{AreNoted, IsNoted}
use Rattle.fb_tape.specs.OpenList.{own_size}
use Rattle.fb_tape.specs.Tapes.{Lays, known_after}
use Rattle.fb_tape.specs.declared.ops.NotedField.{NotedField}
use Rattle.fb_tape.specs.declared.ops.NotedField.TheVariants.{Reference, Inline}
use Rattle.fb_tape.specs.declared.ops.Op.{Op}
use Rattle.fb_tape.specs.declared.ops.Op.TheVariants.{Data, References, Table}
use Rattle.fb_tape.specs.KnownVtables.{EachHasOneNumber}
use Rattle.fb_build.specs.Steps.{Steps}
use Rattle.fb_build.specs.TapeLaid.{op_fields, op_bytes, op_vtable, notes_bytes, MayLayOp, IsLaidUpTo, op_end, ops_end}
use Rattle.fb_build.specs.Waiting.{MayStep, HasVtable}
use Rattle.fb_build.proofs.tail.WhatIsLaidStaysLaid.{grown_long}
use Rattle.fb_build.specs.declared.laying.Laying.{Laying}

-- what a slice of operations has past its end
abbrev pub no_op : Op
no_op = Data (record { less_one = 0 }) 0

-- the next operation and those behind it
pub op_behind : (ops : List Op) (i : ℕ) → i < length ops
    → drop i ops ≡ slice_index_or ops i no_op ∷ drop (i + 1) ops
op_behind ops i low =
    let one : suc i ≡ i + 1 = omega arith in
    rw (← one) (drop-cons ops i no_op low)

-- ---- what an operation has of the fields and bytes

noted_bytes : (L : LaidSchema) (fs : List Slot) (zs : List (Option Datum)) (ks : List ℕ) (notes : List NotedField)
    (bytes : Bytes) → AreNoted L fs zs ks notes bytes → length bytes ≡ notes_bytes notes
noted_bytes L fs zs [] [] bytes noted = ap length noted.1
noted_bytes L fs zs [] (note ∷ notes) bytes noted = let bad : note ∷ notes ≡ [] = noted.0 in cc
noted_bytes L fs zs (k ∷ ks) [] bytes noted = let bad = noted.notes_are in cc
noted_bytes L fs zs (k ∷ ks) (Reference ∷ notes) bytes noted =
    let note_is : noted.note ≡ Reference = (let both = noted.notes_are in cc) in
    let notes_is : noted.notes_behind ≡ notes = (let both = noted.notes_are in cc) in
    let is : IsNoted L noted.field noted.value Reference noted.own = rw note_is at noted.noted in
    let rest = noted_bytes L fs zs ks notes noted.bytes_behind (rw notes_is at noted.rest) in
    let whole = ap length noted.bytes_are in
    let parts = length-append noted.own noted.bytes_behind in
    let none = ap length is.1 in
    let sum = sum_by-cons own_size Reference notes in
    omega (arith, rest, whole, parts, none, sum)
noted_bytes L fs zs (k ∷ ks) (Inline n ∷ notes) bytes noted =
    let note_is : noted.note ≡ Inline n = (let both = noted.notes_are in cc) in
    let notes_is : noted.notes_behind ≡ notes = (let both = noted.notes_are in cc) in
    let is : IsNoted L noted.field noted.value (Inline n) noted.own = rw note_is at noted.noted in
    let rest = noted_bytes L fs zs ks notes noted.bytes_behind (rw notes_is at noted.rest) in
    let whole = ap length noted.bytes_are in
    let parts = length-append noted.own noted.bytes_behind in
    let sum = sum_by-cons own_size (Inline n) notes in
    omega (arith, rest, whole, parts, is.1, sum)

pub own_fields : (L : LaidSchema) (vtables : List Bytes) (op : Op) (room : ℕ) (ps : List NamedPart)
    (notes : List NotedField) (bytes : Bytes) (qs : List NamedPart) → Lays L vtables op room ps notes bytes qs
    → length notes ≡ op_fields op
own_fields L vtables (Table align fields number) room ps notes bytes qs lays = sym lays.fields_are
own_fields L vtables _ room ps notes bytes qs lays = ap length lays.0

own_bytes : (L : LaidSchema) (vtables : List Bytes) (op : Op) (room : ℕ) (ps : List NamedPart)
    (notes : List NotedField) (bytes : Bytes) (qs : List NamedPart) → Lays L vtables op room ps notes bytes qs
    → length bytes ≡ op_bytes op notes
own_bytes L vtables (Data align size) room ps notes bytes qs lays = sym lays.1.size_is
own_bytes L vtables (References count) room ps notes bytes qs lays = ap length lays.1
own_bytes L vtables (Table align fields number) room ps notes bytes qs lays =
    noted_bytes L _ _ _ notes bytes lays.noted

has_vtable : (L : LaidSchema) (vtables : List Bytes) (op : Op) (room : ℕ) (ps : List NamedPart)
    (notes : List NotedField) (bytes : Bytes) (qs : List NamedPart) → Lays L vtables op room ps notes bytes qs
    → HasVtable vtables op (op_vtable vtables op)
has_vtable L vtables (Table align fields number) room ps notes bytes qs lays =
    rw lays.vtable_is refl
has_vtable L vtables _ room ps notes bytes qs lays = tt

op_grow : (vtables : List Bytes) (known : ℕ) (op : Op) (notes : List NotedField) (laid : ℕ)
    → laid ≤ op_end vtables known op notes laid
op_grow vtables known (Data align size) notes laid = omega arith
op_grow vtables known (References count) notes laid = omega arith
op_grow vtables known (Table align fields number) notes laid = omega arith

ops_grow : (vtables : List Bytes) (known : ℕ) (ops : List Op) (notes : List NotedField) (laid : ℕ)
    → laid ≤ ops_end vtables known ops notes laid
ops_grow vtables known [] notes laid = omega arith
ops_grow vtables known (op ∷ ops) notes laid =
    let one = op_grow vtables known op (take (op_fields op) notes) laid in
    let rest = ops_grow vtables (known_after known op) ops (drop (op_fields op) notes)
    (op_end vtables known op (take (op_fields op) notes) laid) in
    omega (arith, one, rest)

-- ---- the next operation

module _ {L : LaidSchema} {vtables : List Bytes} {op : Op} {ops : List Op} {notes : List NotedField}
    {bytes : Bytes} {qs : List NamedPart} {a : Laying} (h : IsLaidUpTo L vtables (op ∷ ops) notes bytes qs a) where
  pub field_count : length h.lay.own_notes ≡ op_fields op
  field_count = own_fields L vtables op _ _ _ _ _ h.lay.lays

  pub byte_count : length h.lay.own_bytes ≡ op_bytes op h.lay.own_notes
  byte_count = own_bytes L vtables op _ _ _ _ _ h.lay.lays

  pub fields_taken : take (op_fields op) notes ≡ h.lay.own_notes
  fields_taken = ap (take (op_fields op)) h.lay.notes_are
      ∙ ap (λ n. take n (h.lay.own_notes ++ h.lay.notes_behind)) (sym field_count)
      ∙ take-append_seam h.lay.own_notes h.lay.notes_behind

  pub fields_left : drop (op_fields op) notes ≡ h.lay.notes_behind
  fields_left = ap (drop (op_fields op)) h.lay.notes_are
      ∙ ap (λ n. drop n (h.lay.own_notes ++ h.lay.notes_behind)) (sym field_count)
      ∙ drop-append_seam h.lay.own_notes h.lay.notes_behind

  pub bytes_taken : take (op_bytes op (take (op_fields op) notes)) bytes ≡ h.lay.own_bytes
  bytes_taken = rw fields_taken (ap (take (op_bytes op h.lay.own_notes)) h.lay.bytes_are
      ∙ ap (λ n. take n (h.lay.own_bytes ++ h.lay.bytes_behind)) (sym byte_count)
      ∙ take-append_seam h.lay.own_bytes h.lay.bytes_behind)

  pub bytes_left : drop (op_bytes op (take (op_fields op) notes)) bytes ≡ h.lay.bytes_behind
  bytes_left = rw fields_taken (ap (drop (op_bytes op h.lay.own_notes)) h.lay.bytes_are
      ∙ ap (λ n. drop n (h.lay.own_bytes ++ h.lay.bytes_behind)) (sym byte_count)
      ∙ drop-append_seam h.lay.own_bytes h.lay.bytes_behind)

  pub fields_within : op_fields op ≤ length notes
  fields_within = omega (
    arith,
    field_count,
    ap length h.lay.notes_are,
    length-append h.lay.own_notes h.lay.notes_behind,
  )

  pub bytes_within : op_bytes op (take (op_fields op) notes) ≤ length bytes
  bytes_within = rw fields_taken (omega (
    arith,
    byte_count,
    ap length h.lay.bytes_are,
    length-append h.lay.own_bytes h.lay.bytes_behind,
  ))

  may_step : IsWellMade L → EachHasOneNumber vtables
      → MayStep L vtables op h.lay.own_room h.parts (op_vtable vtables op) h.lay.own_notes h.lay.own_bytes h.lay.waiting
      a.waiting.items a.places.items a.tail
  may_step made different = record {
    made = made;
    waiting = h.waiting;
    different = different;
    turn = h.lay.turn;
    has = has_vtable L vtables op _ _ _ _ _ h.lay.lays;
    lays = h.lay.lays;
    enough = (let more = ops_grow vtables (known_after (length a.places.items) op) ops (drop (op_fields op) notes)
        (op_end vtables (length a.places.items) op (take (op_fields op) notes) (length a.tail.bytes)) in
        rw (← fields_taken) (omega (arith, more, h.enough)));
  }

  pub may_lay_op : IsWellMade L → EachHasOneNumber vtables → MayLayOp L vtables op (take (op_fields op) notes)
      (take (op_bytes op (take (op_fields op) notes)) bytes) a
  may_lay_op made different = rw (bytes_taken, fields_taken) (record {
    own_room = h.lay.own_room;
    before = h.parts;
    behind = h.lay.waiting;
    may = may_step made different;
  })

  pub op_laid : IsWellMade L → EachHasOneNumber vtables → (b : Laying) → length b.tail.bytes
      ≡ op_end vtables (length a.places.items) op (take (op_fields op) notes) (length a.tail.bytes) → Steps op
      (op_vtable vtables op)
      (take (op_fields op) notes) (take (op_bytes op (take (op_fields op) notes)) bytes) a b
      → IsLaidUpTo L vtables ops (drop (op_fields op) notes)
      (drop (op_bytes op (take (op_fields op) notes)) bytes) qs b
  op_laid made different b long steps =
      let may = may_step made different in
      let given : Steps op (op_vtable vtables op) h.lay.own_notes h.lay.own_bytes a b =
      rw (← bytes_taken, ← fields_taken) steps in
      let grown = grown_long a.tail b.tail given.grows in
      let same : ops_end vtables (length b.places.items) ops h.lay.notes_behind (length b.tail.bytes)
      ≡ ops_end vtables (length a.places.items) (op ∷ ops) notes (length a.tail.bytes) =
      rw (given.come, long, fields_left) refl in
      rw (bytes_left, fields_left) (record {
        parts = h.lay.waiting;
        room_left = h.lay.room_behind;
        lay = rw given.come h.lay.rest;
        waiting = given.waits L vtables h.lay.own_room h.parts h.lay.waiting may;
        enough = omega (arith, same, grown, h.enough);
      })
