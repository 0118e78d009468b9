-- A tape with one operation more.
use Rattle.std.proofs.Common.{ℕ, zero, suc, ◌+◌, ◌≡◌, ◌<◌, inl, inr, ◌++◌, List, [], ◌∷◌, length, Some, slice_get}
use Rattle.std.proofs.Common.{refl, ap, sym, ◌∙◌, arith, append_assoc, length-append, append-nil, add-one}
use Rattle.std.proofs.lemmas.Option.{slice_get_within}
use Rattle.fb_layout.specs.Laid.{LaidSchema}
use Rattle.fb_value.specs.Num.{Bytes}
use Rattle.fb_tape.specs.KnownVtables.{IsNumbered}
use Rattle.fb_tape.specs.NamedParts.{NamedPart}
use Rattle.fb_tape.specs.Tapes.{Taped, Waits, Lays, Lay, IsInTurn, known_after}
use Rattle.fb_tape.specs.declared.ops.NotedField.{NotedField}
use Rattle.fb_tape.specs.declared.ops.Op.{Op}
use Rattle.fb_tape.specs.declared.ops.Alignment.{Alignment}
use Rattle.fb_tape.specs.declared.ops.Op.TheVariants.{Data, References, Table}

-- Each vtable keeps its number.
abbrev pub KeepNumbers : List Bytes → List Bytes → Type 0
KeepNumbers before after = (i : ℕ) (vtable : Bytes) → slice_get before i ≡ Some vtable → slice_get after i ≡ Some vtable

-- An operation lays the same where more vtables are known.
lays_kept : (L : LaidSchema) (before after : List Bytes) → KeepNumbers before after → (op : Op) (room : ℕ)
    (ps : List NamedPart) (notes : List NotedField) (bytes : Bytes) (qs : List NamedPart)
    → Lays L before op room ps notes bytes qs → Lays L after op room ps notes bytes qs
lays_kept L before after keep (Data align size) room ps notes bytes qs h = h
lays_kept L before after keep (References count) room ps notes bytes qs h = h
lays_kept L before after keep (Table align fields vtable) room ps notes bytes qs h =
    record {
      table = h.table;
      entries = h.entries;
      others = h.others;
      fits = h.fits;
      whole = h.whole;
      fields_are = h.fields_are;
      noted = h.noted;
      align_is = h.align_is;
      vtable_is = keep vtable _ h.vtable_is;
      enough = h.enough;
      takes = h.takes;
      leaves = h.leaves;
    }

-- An operation is laid behind all others, which knows the vtables that come after it.
pub one_more : (L : LaidSchema) (before after : List Bytes) (op : Op) (own : ℕ) (own_notes : List NotedField)
    (own_bytes : Bytes) (qs rs : List NamedPart)
    → KeepNumbers before after → IsInTurn (length before) op → known_after (length before) op ≡ length after
    → Lays L after op own qs own_notes own_bytes rs
    → (n room : ℕ) (ps : List NamedPart) (ops : List Op) (notes : List NotedField) (bytes : Bytes)
    → Lay L before n room ps ops notes bytes qs
    → Lay L after n (room + own) ps (ops ++ (op ∷ [])) (notes ++ own_notes) (bytes ++ own_bytes) rs
one_more L before after op own own_notes own_bytes qs rs keep turn next lays n room ps [] notes bytes h = record {
  own_room = own;
  room_behind = room;
  own_notes = own_notes;
  notes_behind = [];
  own_bytes = own_bytes;
  bytes_behind = [];
  waiting = rs;
  room_is = omega arith;
  notes_are = ap (λ (x : List NotedField). x ++ own_notes) h.1 ∙ sym (append-nil own_notes);
  bytes_are = ap (λ (x : Bytes). x ++ own_bytes) h.2 ∙ sym (append-nil own_bytes);
  turn = rw h.0 turn;
  lays = rw h.3 lays;
  rest = (ap (λ k. known_after k op) h.0 ∙ next, refl, refl, refl);
}
one_more L before after op own own_notes own_bytes qs rs keep turn next lays n room ps (first ∷ ops) notes bytes h =
    record {
      own_room = h.own_room;
      room_behind = h.room_behind + own;
      own_notes = h.own_notes;
      notes_behind = h.notes_behind ++ own_notes;
      own_bytes = h.own_bytes;
      bytes_behind = h.bytes_behind ++ own_bytes;
      waiting = h.waiting;
      room_is = omega (arith, h.room_is);
      notes_are = ap (λ (x : List NotedField). x ++ own_notes) h.notes_are
          ∙ append_assoc h.own_notes h.notes_behind own_notes;
      bytes_are = ap (λ (x : Bytes). x ++ own_bytes) h.bytes_are
          ∙ append_assoc h.own_bytes h.bytes_behind own_bytes;
      turn = h.turn;
      lays = lays_kept L before after keep first h.own_room ps h.own_notes h.own_bytes h.waiting h.lays;
      rest = one_more L before after op own own_notes own_bytes qs rs keep turn next lays (known_after n first)
          h.room_behind h.waiting ops h.notes_behind h.bytes_behind h.rest;
    }

-- ---- an operation that brings no vtable

-- Bytes that refer to nothing, or a vector of references.
abbrev pub HasNoVtable : Op → Type 0
HasNoVtable (Table align fields vtable) = ⊥
HasNoVtable _ = Unit {0}

pub part_is_laid : (L : LaidSchema) (vtables : List Bytes) (op : Op) (own : ℕ) (own_notes : List NotedField)
    (own_bytes : Bytes) (qs rs : List NamedPart) → HasNoVtable op → Lays L vtables op own qs own_notes own_bytes rs
    → (n room : ℕ) (ps : List NamedPart) (ops : List Op) (notes : List NotedField) (bytes : Bytes)
    → Lay L vtables n room ps ops notes bytes qs
    → Lay L vtables n (room + own) ps (ops ++ (op ∷ [])) (notes ++ own_notes) (bytes ++ own_bytes) rs
part_is_laid L vtables (Data align size) own own_notes own_bytes qs rs none lays =
    one_more L vtables vtables (Data align size) own own_notes own_bytes qs rs (λ i v e. e) tt refl lays
part_is_laid L vtables (References count) own own_notes own_bytes qs rs none lays =
    one_more L vtables vtables (References count) own own_notes own_bytes qs rs (λ i v e. e) tt refl lays
part_is_laid L vtables (Table align fields vtable) own own_notes own_bytes qs rs none lays = absurd none

-- ---- a table, whose vtable was known before or comes with it

kept_in_front : (before : List Bytes) (new : Bytes) → KeepNumbers before (before ++ (new ∷ []))
kept_in_front [] new i vtable e = cc
kept_in_front (x ∷ before) new zero vtable e = e
kept_in_front (x ∷ before) new (suc i) vtable e = kept_in_front before new i vtable e

pub table_is_laid : (L : LaidSchema) (before after : List Bytes) (vtable : Bytes) (align : Alignment)
    (number fields own : ℕ) (own_notes : List NotedField) (own_bytes : Bytes) (qs rs : List NamedPart)
    → IsNumbered before after vtable number
    → Lays L after (Table align fields number) own qs own_notes own_bytes rs
    → (n room : ℕ) (ps : List NamedPart) (ops : List Op) (notes : List NotedField) (bytes : Bytes)
    → Lay L before n room ps ops notes bytes qs
    → Lay L after n (room + own) ps (ops ++ (Table align fields number ∷ [])) (notes ++ own_notes)
    (bytes ++ own_bytes) rs
table_is_laid L before after vtable align number fields own own_notes own_bytes qs rs is lays =
    let low : number < length after = slice_get_within after number vtable is.is in
    elim is.known [
      | inl same ↦
          let long : length after ≡ length before = ap length same in
          one_more L before after (Table align fields number) own own_notes own_bytes qs rs (λ i v e. rw same e)
          (omega (arith, low, long)) (omega (arith, low, long)) lays
      | inr new ↦
          let long : length after ≡ suc (length before) =
          ap length new.0 ∙ length-append before (vtable ∷ []) ∙ add-one (length before) in
          one_more L before after (Table align fields number) own own_notes own_bytes qs rs
          (λ i v e. rw new.0 (kept_in_front before vtable i v e))
          (omega (arith, new.1)) (omega (arith, new.1, long)) lays
    ]

-- ---- the same of a whole tape

-- A tape has one operation more, with what is noted for it and its room.
pub record AddsOne (before after : Taped) (op : Op) (own : ℕ) (own_notes : List NotedField) (own_bytes : Bytes)
    : Type 0 where
  pub layout : after.layout ≡ before.layout
  pub ops : after.ops ≡ before.ops ++ (op ∷ [])
  pub notes : after.notes ≡ before.notes ++ own_notes
  pub bytes : after.bytes ≡ before.bytes ++ own_bytes
  pub room : after.room ≡ before.room + own

pub part_waits : (before after : Taped) (op : Op) (own : ℕ) (own_notes : List NotedField) (own_bytes : Bytes)
    (qs rs : List NamedPart) → AddsOne before after op own own_notes own_bytes → after.vtables ≡ before.vtables
    → HasNoVtable op → Lays before.layout before.vtables op own qs own_notes own_bytes rs
    → Waits before qs → Waits after rs
part_waits before after op own own_notes own_bytes qs rs adds same none lays waits small =
    rw (adds.layout, same, adds.ops, adds.notes, adds.bytes, adds.room) (
    part_is_laid before.layout before.vtables op own own_notes own_bytes qs rs none lays 0 before.room [] before.ops
    before.notes before.bytes (waits (omega (arith, small, adds.room)))
    )

pub table_waits : (before after : Taped) (vtable : Bytes) (align : Alignment) (number fields own : ℕ)
    (own_notes : List NotedField) (own_bytes : Bytes) (qs rs : List NamedPart)
    → AddsOne before after (Table align fields number) own own_notes own_bytes
    → IsNumbered before.vtables after.vtables vtable number
    → Lays before.layout after.vtables (Table align fields number) own qs own_notes own_bytes rs
    → Waits before qs → Waits after rs
table_waits before after vtable align number fields own own_notes own_bytes qs rs adds is lays waits small =
    rw (adds.layout, adds.ops, adds.notes, adds.bytes, adds.room) (
    table_is_laid before.layout before.vtables after.vtables vtable align number fields own own_notes own_bytes qs rs
    is lays 0 before.room [] before.ops before.notes before.bytes (waits (omega (arith, small, adds.room)))
    )
