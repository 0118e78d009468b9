-- Open fields have their bytes one behind the other.
use Rattle.std.proofs.Common.{ℕ, zero, suc, ◌+◌, ◌-◌, ◌≡◌, ◌≤◌, ◌<◌, ◌++◌, List, [], ◌∷◌, length, map, take, drop}
use Rattle.std.proofs.Common.{Some, Result, Ok, Err, OnErr, get_or, option_map, slice_get, refl, ap, sym, ◌∙◌, arith}
use Rattle.std.proofs.Common.{length-append}
use Rattle.std.proofs.lemmas.List.{length-take-le, map-append}
use Rattle.std.proofs.lemmas.List.{take-append-drop, length-map}
use Rattle.std.specs.List.{take-map}
use Rattle.std.proofs.lemmas.Option.{slice_get_read, slice_get-map}
use Rattle.fb_layout.specs.Laid.{LaidSchema, StoredKind, align_of, size_of}
use Rattle.fb_value.specs.Datum.{Datum}
use Rattle.fb_value.specs.Num.{Bytes, part_of}
use Rattle.fb_tape.specs.InlineBytes.{AddsInline, OnlyAdds}
use Rattle.fb_tape.specs.OpenFields.{OpenField, AddsInlineField}
use Rattle.fb_tape.specs.OpenList.{own_size, field_seen, StandInTurn}
use Rattle.fb_tape.specs.declared.open_fields.OpenField.{OpenField as Held}
use Rattle.fb_tape.specs.declared.ops.NotedField.TheVariants.{Inline}
use Rattle.fb_tape.proofs.known_vtables.OneMoreIsKnown.{part_kept}
use Rattle.fb_tape.proofs.known_vtables.OneMoreIsKnown.{part_last}

-- ---- bytes behind

pub turn_wider : (p : ℕ) (xs : List Held) (e f : ℕ) → e ≤ f → StandInTurn p xs e → StandInTurn p xs f
turn_wider p [] e f low h = omega (arith, low, h)
turn_wider p (x ∷ xs) e f low h = (h.0, turn_wider (x.first + own_size x.note) xs e f low h.1)

from_start : (p : ℕ) (xs : List Held) (e : ℕ) → StandInTurn p xs e → p ≤ e
from_start p [] e h = h
from_start p (x ∷ xs) e h =
    let rest = from_start (x.first + own_size x.note) xs e h.1 in omega (arith, rest, h.0)

-- Bytes behind change no field.
pub seen_kept : (bytes own : Bytes) (p : ℕ) (xs : List Held) (e : ℕ) → e ≤ length bytes → StandInTurn p xs e
    → map (field_seen (bytes ++ own)) xs ≡ map (field_seen bytes) xs
seen_kept bytes own p [] e low h = refl
seen_kept bytes own p (x ∷ xs) e low h =
    let ends = from_start (x.first + own_size x.note) xs e h.1 in
    let same : field_seen (bytes ++ own) x ≡ field_seen bytes x =
    ap (λ (b : Bytes). let y : OpenField = record { slot = x.slot; align = x.align; note = x.note; bytes = b } in y)
    (part_kept bytes own x.first (own_size x.note) (omega (arith, ends, low))) in
    let rest = seen_kept bytes own (x.first + own_size x.note) xs e low h.1 in
    rw (same, rest) refl

pub kept_inside : (xs : List Held) (before after : Bytes) → OnlyAdds before after → StandInTurn 0 xs (length before)
    → StandInTurn 0 xs (length after)
kept_inside xs before after added h =
    let long = ap length added.1 ∙ length-append before added.0 in
    turn_wider 0 xs (length before) (length after) (omega (arith, long)) h

pub kept_seen : (xs : List Held) (before after : Bytes) → OnlyAdds before after → StandInTurn 0 xs (length before)
    → map (field_seen after) xs ≡ map (field_seen before) xs
kept_seen xs before after added h = rw added.1 (seen_kept before added.0 0 xs (length before) (omega arith) h)

-- so that a call that fails leaves the fields as they were
pub fails_as_before : {T E : Type 0} (r : Result T E) (before after : Bytes) (xs ys : List Held) (seen : List OpenField)
    → OnlyAdds before after → StandInTurn 0 xs (length before) → ys ≡ xs → map (field_seen before) xs ≡ seen
    → OnErr r (map (field_seen after) ys ≡ seen)
fails_as_before (Ok x) before after xs ys seen added h same is = tt
fails_as_before (Err x) before after xs ys seen added h same is = rw same (kept_seen xs before after added h ∙ is)

-- ---- one field more

pub turn_more : (p : ℕ) (xs : List Held) (x : Held) (e f : ℕ) → StandInTurn p xs e → e ≤ x.first
    → x.first + own_size x.note ≤ f → StandInTurn p (xs ++ (x ∷ [])) f
turn_more p [] x e f h low high = (omega (arith, h, low), high)
turn_more p (y ∷ xs) x e f h low high = (h.0, turn_more (y.first + own_size y.note) xs x e f h.1 low high)

pub seen_more : (bytes own : Bytes) (xs : List Held) (x : Held) → StandInTurn 0 xs (length bytes)
    → map (field_seen (bytes ++ own)) (xs ++ (x ∷ [])) ≡ map (field_seen bytes) xs ++ (field_seen (bytes ++ own) x ∷ [])
seen_more bytes own xs x h =
    map-append (field_seen (bytes ++ own)) xs (x ∷ [])
    ∙ ap (λ (ys : List OpenField). ys ++ (field_seen (bytes ++ own) x ∷ []))
    (seen_kept bytes own 0 xs (length bytes) (omega arith) h)

-- ---- fewer fields

pub first_turn : (p : ℕ) (xs : List Held) (k : ℕ) (x : Held) (e : ℕ) → slice_get xs k ≡ Some x → StandInTurn p xs e
    → StandInTurn p (take k xs) x.first
first_turn p [] k x e at h = cc
first_turn p (y ∷ xs) zero x e at h = let same : y ≡ x = cc in omega (arith, h.0, ap (λ (z : Held). z.first) same)
first_turn p (y ∷ xs) (suc k) x e at h = (h.0, first_turn (y.first + own_size y.note) xs k x e at h.1)

pub turn_taken : (p : ℕ) (xs : List Held) (k e : ℕ) → StandInTurn p xs e → StandInTurn p (take k xs) e
turn_taken p [] zero e h = h
turn_taken p [] (suc k) e h = h
turn_taken p (x ∷ xs) zero e h = from_start p (x ∷ xs) e h
turn_taken p (x ∷ xs) (suc k) e h = (h.0, turn_taken (x.first + own_size x.note) xs k e h.1)

pub ends_within : (p : ℕ) (xs : List Held) (k : ℕ) (x : Held) (e : ℕ) → slice_get xs k ≡ Some x → StandInTurn p xs e
    → x.first + own_size x.note ≤ e
ends_within p [] k x e at h = cc
ends_within p (y ∷ xs) zero x e at h =
    let same : y ≡ x = cc in
    let rest = from_start (y.first + own_size y.note) xs e h.1 in rw (← same) rest
ends_within p (y ∷ xs) (suc k) x e at h = ends_within (y.first + own_size y.note) xs k x e at h.1

-- ---- a number or a struct more

pub inline_inside : (L : LaidSchema) (kind : StoredKind) (d : Datum) (before after : Bytes) (xs ys : List Held)
    (x : Held) → StandInTurn 0 xs (length before) → AddsInline L kind d before after → ys ≡ xs ++ (x ∷ [])
    → x.note ≡ Inline (size_of L kind) → x.first ≡ length before → StandInTurn 0 ys (length after)
inline_inside L kind d before after xs ys x h added more note_is first_is =
    let long = ap length added.1 ∙ length-append before added.0 in
    rw more (turn_more 0 xs x (length before) (length after) h (omega (arith, first_is))
    (omega (arith, first_is, long, added.2.long, ap own_size note_is)))

pub inline_field_added : (L : LaidSchema) (slot : ℕ) (kind : StoredKind) (d : Datum) (bytes after : Bytes)
    (xs ys : List Held) (x : Held) → StandInTurn 0 xs (length bytes) → AddsInline L kind d bytes after
    → ys ≡ xs ++ (x ∷ []) → x.slot ≡ slot → x.align ≡ align_of L kind → x.note ≡ Inline (size_of L kind)
    → x.first ≡ length bytes
    → AddsInlineField L slot kind d (map (field_seen bytes) xs) (map (field_seen after) ys)
inline_field_added L slot kind d bytes after xs ys x h added more slot_is align_is note_is first_is =
    let whole : after ≡ bytes ++ added.0 = added.1 in
    let long : own_size x.note ≡ length added.0 = ap own_size note_is ∙ sym added.2.long in
    let own : part_of (bytes ++ added.0) x.first (own_size x.note) ≡ added.0 =
    rw (first_is, long) (part_last bytes added.0) in (
      field_seen after x,
      rw (more, whole) (seen_more bytes added.0 xs x h),
      record {
        slot_is = slot_is;
        align_is = align_is;
        note_is = note_is ∙ ap (λ (n : ℕ). Inline n) (sym added.2.long ∙ ap length (sym own)
            ∙ ap (λ (b : Bytes). length (part_of b x.first (own_size x.note))) (sym whole));
        inline = rw (whole, own) added.2;
      },
    )

-- ---- fewer fields

turn_first : (xs : List Held) (k : ℕ) (x : Held) (bytes : Bytes) → slice_get xs k ≡ Some x
    → StandInTurn 0 xs (length bytes) → x.first ≤ length bytes
turn_first xs k x bytes at h = let ends = ends_within 0 xs k x (length bytes) at h in omega (arith, ends)

pub truncated_inside : (xs : List Held) (k : ℕ) (x : Held) (bytes : Bytes) → slice_get xs k ≡ Some x
    → StandInTurn 0 xs (length bytes) → StandInTurn 0 (take k xs) (length (take x.first bytes))
truncated_inside xs k x bytes at h =
    let low = turn_first xs k x bytes at h in
    rw (length-take-le x.first bytes low) (first_turn 0 xs k x (length bytes) at h)

pub truncated_seen : (xs : List Held) (k : ℕ) (x : Held) (bytes : Bytes) → slice_get xs k ≡ Some x
    → StandInTurn 0 xs (length bytes)
    → map (field_seen (take x.first bytes)) (take k xs) ≡ take k (map (field_seen bytes) xs)
truncated_seen xs k x bytes at h =
    let whole : take x.first bytes ++ drop x.first bytes ≡ bytes = take-append-drop x.first bytes in
    let inside = truncated_inside xs k x bytes at h in
    sym (ap (λ (b : Bytes). map (field_seen b) (take k xs)) (sym whole)
    ∙ seen_kept (take x.first bytes) (drop x.first bytes) 0 (take k xs) (length (take x.first bytes)) (omega arith)
    inside) ∙ sym (take-map (field_seen bytes) k xs)

-- ---- one field

pub found_field : (bytes : Bytes) (xs : List Held) (seen : List OpenField) (k : ℕ) (x : Held)
    → map (field_seen bytes) xs ≡ seen → k < length seen → x ≡ get_or xs k x → slice_get xs k ≡ Some x
found_field bytes xs seen k x is low found =
    let long : length xs ≡ length seen = sym (length-map xs (field_seen bytes)) ∙ ap length is in
    slice_get_read xs (length xs) k x refl (omega (arith, low, long)) found

pub field_is : (bytes : Bytes) (xs : List Held) (seen : List OpenField) (k : ℕ) (x : Held)
    → map (field_seen bytes) xs ≡ seen → slice_get xs k ≡ Some x → slice_get seen k ≡ Some (field_seen bytes x)
field_is bytes xs seen k x is at =
    ap (λ ys. slice_get ys k) (sym is) ∙ slice_get-map (field_seen bytes) xs k ∙ ap (option_map (field_seen bytes)) at

-- its bytes, read from an equal list
pub bytes_read : (bytes read : Bytes) (xs : List Held) (seen : List OpenField) (k size : ℕ) (x : Held) (y : OpenField)
    → map (field_seen bytes) xs ≡ seen → slice_get xs k ≡ Some x → read ≡ bytes → size ≡ own_size x.note
    → slice_get seen k ≡ Some y → take ((x.first + size) - x.first) (drop x.first read) ≡ y.bytes
bytes_read bytes read xs seen k size x y is at same size_is there =
    let long : (x.first + size) - x.first ≡ own_size x.note = omega (arith, size_is) in
    let found = field_is bytes xs seen k x is at in
    let whole : field_seen bytes x ≡ y = cc in
    rw (long, same, ← whole) refl
