-- A text, or a vector of numbers or structs, is laid.
use Rattle.std.proofs.Common.{ℕ, ◌+◌, ◌-◌, ◌*◌, ◌%◌, ◌^◌, ◌≡◌, ◌≤◌, ◌<◌, ◌++◌, ◌↔◌, IsTrue, inl, inr, max, false}
use Rattle.std.proofs.Common.{List, [], ◌∷◌, length, refl, ap, sym, ◌∙◌, arith, append-nil, append_assoc}
use Rattle.std.proofs.Common.{length-append, drop, Result, OnOk}
use Rattle.std.proofs.lemmas.List.{drop-append-le}
use Rattle.std.proofs.lemmas.Result.{on_ok_weaker}
use Rattle.std.specs.Str.{IsUtf8}
use Rattle.byteorder.specs.Endian.{little_bytes}
use Rattle.fb_layout.specs.Laid.{LaidSchema, StoredKind, one_of, size_of, align_of}
use Rattle.fb_layout.specs.Widths.{greatest}
use Rattle.fb_value.specs.Datum.{Datum, a_text, a_vector}
use Rattle.fb_value.specs.Num.{Bytes}
use Rattle.fb_value.specs.Places.{text_part, vector_part}
use Rattle.fb_value.specs.Room.{vector_room}
use Rattle.fb_value.specs.UpTo.{at_most_usize}
use Rattle.fb_value.specs.View.{parts_in}
use Rattle.fb_value.specs.Bounds.{most_bytes}
use Rattle.fb_tape.specs.Alignments.{aligned_to}
use Rattle.fb_tape.specs.InlineBytes.{AreInlineBytes, AddsInline}
use Rattle.fb_tape.specs.NamedParts.{NamedPart}
use Rattle.fb_tape.specs.StoredFields.{is_reference, ItemsKnown}
use Rattle.fb_tape.specs.Tapes.{Taped, Waits, IsData, AreElementBytes, IsUnfinished}
use Rattle.fb_tape.specs.declared.ops.Alignment.{Alignment}
use Rattle.fb_tape.specs.declared.ops.Op.TheVariants.{Data}
use Rattle.fb_tape.proofs.tape.OneMoreIsLaid.{part_waits}
use Rattle.fb_tape.proofs.tape.RoomsAreSummedUp.{with_room, room_known, not_over}
use Rattle.fb_tape.proofs.stored.SizesOfWhatIsStored.{elements_long}

-- The unfinished bytes were noted as laid.
pub record Finishes (before after : Taped) (align : Alignment) (own : Bytes) (room : ℕ) : Type 0 where
  pub layout : after.layout ≡ before.layout
  pub ops : after.ops ≡ before.ops ++ (Data align (length own % 2 ^ 32) ∷ [])
  pub notes : after.notes ≡ before.notes
  pub bytes : after.bytes ≡ before.bytes ++ own
  pub vtables : after.vtables ≡ before.vtables
  pub room_is : after.room ≡ before.room + room

data_waits : (before after : Taped) (part : NamedPart) (align : Alignment) (own : Bytes) (room : ℕ)
    (ps : List NamedPart)
    → Finishes before after align own room → IsData before.layout part (aligned_to align) own
    → length own + (aligned_to align - 1) ≤ room → after.room ≤ most_bytes
    → Waits before ps → Waits after (ps ++ (part ∷ []))
data_waits before after part align own room ps h is enough low waits =
    let small : length own % 2 ^ 32 ≡ length own = omega (arith, h.room_is, low, enough) in
    part_waits before after (Data align (length own % 2 ^ 32)) room [] own ps (ps ++ (part ∷ [])) (record {
      layout = h.layout;
      ops = h.ops;
      notes = h.notes ∙ sym (append-nil before.notes);
      bytes = h.bytes;
      room = h.room_is;
    }) h.vtables tt (
      refl,
      record {
        part = part;
        is = is;
        size_is = small;
        enough = omega (arith, small, enough);
        leaves = refl;
      },
    ) waits

-- the tape t with bytes added, and with its unfinished bytes laid
abbrev pub with_bytes : Taped → Bytes → Taped
with_bytes t own = record t { unfinished = t.unfinished ++ own }

abbrev pub with_data : Taped → Alignment → Taped
with_data t align = record t {
  ops = t.ops ++ (Data align (length t.unfinished % 2 ^ 32) ∷ []);
  bytes = t.bytes ++ t.unfinished;
  unfinished = [];
}

pub finished : (before filled after : Taped) (align : Alignment) (room sum : ℕ) (own : Bytes)
    → filled ≡ record before { room = sum; unfinished = own } → after ≡ with_data filled align
    → sum ≡ before.room + room → Finishes before after align own room
finished before filled after align room sum own e1 e2 e3 = record {
  layout = rw (e2, e1) refl;
  ops = rw (e2, e1) refl;
  notes = rw (e2, e1) refl;
  bytes = rw (e2, e1) refl;
  vtables = rw (e2, e1) refl;
  room_is = rw (e2, e1) e3;
}

text_bytes : (before sized counted most filled : Taped) (text : Bytes) (room : ℕ) → before.unfinished ≡ []
    → sized ≡ with_room before room → counted ≡ with_bytes sized (little_bytes 4 (length text))
    → most ≡ with_bytes counted text → filled ≡ with_bytes most (0 ∷ [])
    → filled ≡ record before { room = room; unfinished = little_bytes 4 (length text) ++ (text ++ (0 ∷ [])) }
text_bytes before sized counted most filled text room none e1 e2 e3 e4 = rw (e4, e3, e2, e1, none, append_assoc) refl

pub text_waits : (before sized counted most filled after : Taped) (text : Bytes) (align : Alignment) (room : ℕ)
    (ps : List NamedPart) → IsUtf8 text → before.unfinished ≡ [] → sized ≡ with_room before room
    → counted ≡ with_bytes sized (little_bytes 4 (length text)) → most ≡ with_bytes counted text
    → filled ≡ with_bytes most (0 ∷ []) → after ≡ with_data filled align → aligned_to align ≡ 4
    → room ≡ before.room + (length text + 8) → Waits before ps
    → Waits after (ps ++ (record { target = text_part; value = a_text text } ∷ []))
text_waits before sized counted most filled after text align room ps utf8 none e1 e2 e3 e4 e5 four sum waits low =
    let own : Bytes = little_bytes 4 (length text) ++ (text ++ (0 ∷ [])) in
    let long : length own ≡ length text + 5 =
    length-append (little_bytes 4 (length text)) (text ++ (0 ∷ []))
    ∙ ap (λ n. 4 + n) (length-append text (0 ∷ [])) ∙ omega arith in
    data_waits before after (record { target = text_part; value = a_text text }) align own (length text + 8) ps
    (finished before filled after align (length text + 8) room own
    (text_bytes before sized counted most filled text room none e1 e2 e3 e4) e5 sum)
    (inl (record { text = text; utf8 = utf8; part_is = refl; align_is = four; bytes_are = refl }))
    (omega (arith, long, four)) low waits low

-- ---- vectors

-- An element more stands behind the others.
one_element_more : (L : LaidSchema) (kind : StoredKind) (d : Datum) (own : Bytes) → AreInlineBytes L kind d own
    → (ds : List Datum) (bytes : Bytes) → AreElementBytes L kind ds bytes
    → AreElementBytes L kind (ds ++ (d ∷ [])) (bytes ++ own)
one_element_more L kind d own inline [] bytes h = record {
  own = own;
  behind = [];
  bytes_are = ap (λ (x : Bytes). x ++ own) h ∙ sym (append-nil own);
  inline = inline;
  rest = refl;
}
one_element_more L kind d own inline (first ∷ ds) bytes h = record {
  own = h.own;
  behind = h.behind ++ own;
  bytes_are = ap (λ (x : Bytes). x ++ own) h.bytes_are ∙ append_assoc h.own h.behind own;
  inline = h.inline;
  rest = one_element_more L kind d own inline ds h.behind h.rest;
}

element_behind : (L : LaidSchema) (kind : StoredKind) (count : ℕ) (ds : List Datum) (d : Datum) (finished : ℕ)
    (before after : Bytes) → finished ≤ length before → AddsInline L kind d before after
    → IsUnfinished L kind count ds (drop finished before)
    → IsUnfinished L kind count (ds ++ (d ∷ [])) (drop finished after)
element_behind L kind count ds d finished before after within added h = record {
  element_bytes = h.element_bytes ++ added.0;
  bytes_are = ap (drop finished) added.1 ∙ drop-append-le finished before added.0 within
      ∙ ap (λ (x : Bytes). x ++ added.0) h.bytes_are
      ∙ append_assoc (little_bytes 4 count) h.element_bytes added.0;
  stand = one_element_more L kind d added.0 added.2 ds h.element_bytes h.stand;
}

-- The tape t is held with these bytes, of which so many are finished.
pub element_added : {T E : Type 0} (r : Result T E) (t : Taped) (L : LaidSchema) (kind : LaidSchema → StoredKind)
    (d : Datum) (finished : ℕ) (before after : Bytes) → finished ≤ length before → L ≡ t.layout
    → drop finished before ≡ t.unfinished → OnOk r (AddsInline L (kind L) d before after)
    → OnOk r ((count : ℕ) (ds : List Datum) → IsUnfinished t.layout (kind t.layout) count ds t.unfinished
    → IsUnfinished t.layout (kind t.layout) count (ds ++ (d ∷ [])) (drop finished after))
element_added r t L kind d finished before after within same held added =
    on_ok_weaker r (λ own count ds begun.
    rw (← same) (element_behind L (kind L) count ds d finished before after within own (rw (← same, ← held) at begun)))
    added

pub vector_waits : (before after : Taped) (kind : StoredKind) (align : Alignment) (ds : List Datum) (own : Bytes)
    (ps : List NamedPart) → aligned_to align ≡ max 4 (align_of before.layout kind)
    → IsUnfinished before.layout kind (length ds) ds own → is_reference (one_of kind) ≡ false
    → ItemsKnown before.layout kind ds → align_of before.layout kind ≤ greatest before.layout
    → Finishes before after align own (vector_room before.layout kind (length ds))
    → after.room ≤ most_bytes → Waits before ps
    → Waits after (ps ++ (record { target = vector_part kind; value = a_vector (parts_in ds) } ∷ []))
vector_waits before after kind align ds own ps widest begun inline known low h small waits =
    let elements = elements_long before.layout kind ds begun.element_bytes begun.stand in
    let long : length own ≡ 4 + length ds * size_of before.layout kind =
    ap length begun.bytes_are ∙ length-append (little_bytes 4 (length ds)) begun.element_bytes
    ∙ ap (λ n. 4 + n) elements in
    data_waits before after (record { target = vector_part kind; value = a_vector (parts_in ds) })
    align own (vector_room before.layout kind (length ds)) ps h
    (inr (record {
      kind = kind;
      elements = ds;
      element_bytes = begun.element_bytes;
      part_is = refl;
      align_is = widest;
      bytes_are = begun.bytes_are;
      stand = begun.stand;
      inline = inline;
      known = known;
      low = low;
    })) (omega (arith, long, widest)) small waits

pub vector_closed : (before sized after : Taped) (kind : StoredKind) (align : Alignment) (count room : ℕ)
    (ds : List Datum) (ps : List NamedPart) → sized ≡ with_room before (at_most_usize (before.room + room))
    → room ≡ at_most_usize (vector_room before.layout kind count) → (IsTrue false ↔ (most_bytes < sized.room))
    → after ≡ with_data sized align → aligned_to align ≡ max (align_of before.layout kind) 4
    → is_reference (one_of kind) ≡ false → align_of before.layout kind ≤ greatest before.layout → count ≡ length ds
    → ItemsKnown before.layout kind ds
    → (before.room + vector_room before.layout kind count ≤ most_bytes
    → IsUnfinished before.layout kind count ds before.unfinished) → Waits before ps
    → Waits after (ps ++ (record { target = vector_part kind; value = a_vector (parts_in ds) } ∷ []))
vector_closed before sized after kind align count room ds ps e1 own over e2 widest inline low many known begun waits
    small =
    let sum = room_known before sized room (vector_room before.layout kind count) e1 own over in
    let fits : before.room + vector_room before.layout kind count ≤ most_bytes =
    omega (arith, sum, not_over sized.room over, ap (λ (t : Taped). t.room) e1) in
    vector_waits before after kind align ds before.unfinished ps (omega (arith, widest)) (rw (← many) (begun fits))
    inline known low (finished before sized after align (vector_room before.layout kind (length ds))
    (at_most_usize (before.room + room)) before.unfinished e1 e2
    (rw (← many) sum)) small waits small
