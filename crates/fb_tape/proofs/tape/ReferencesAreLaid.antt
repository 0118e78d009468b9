-- A vector of references is laid.
use Rattle.std.proofs.Common.{ℕ, ◌+◌, ◌*◌, ◌≡◌, ◌≤◌, ◌<◌, ◌++◌, ◌↔◌, IsTrue, true, false, List, [], ◌∷◌, length}
use Rattle.std.proofs.Common.{refl, ap, sym, ◌∙◌, arith, append-nil}
use Rattle.fb_layout.specs.Laid.{StoredKind, table_kind, union_kind, text_kind}
use Rattle.fb_layout.specs.Laid.{LaidSchema, one_of}
use Rattle.fb_value.specs.Datum.{Datum, a_vector}
use Rattle.fb_value.specs.Places.{vector_part}
use Rattle.fb_value.specs.Room.{vector_room}
use Rattle.fb_value.specs.UpTo.{at_most_usize}
use Rattle.fb_value.specs.View.{parts_in}
use Rattle.fb_value.specs.Bounds.{most_bytes}
use Rattle.fb_tape.specs.NamedParts.{NamedPart, elements_apart}
use Rattle.fb_tape.specs.StoredFields.{is_reference, ItemsKnown}
use Rattle.fb_tape.specs.Tapes.{Taped, Waits}
use Rattle.fb_tape.specs.declared.ops.Op.{Op}
use Rattle.fb_tape.specs.declared.ops.Op.TheVariants.{References}
use Rattle.fb_tape.proofs.tape.OneMoreIsLaid.{AddsOne, part_waits}
use Rattle.fb_tape.proofs.tape.RoomsAreSummedUp.{with_room, room_known}

-- Each reference takes four bytes.
references_room : (L : LaidSchema) (kind : StoredKind) (n : ℕ) → is_reference (one_of kind) ≡ true
    → (4 + n * 4) + 3 ≤ vector_room L kind n
references_room L (table_kind t) n is = omega arith
references_room L (union_kind u) n is = omega arith
references_room L text_kind n is = omega arith
references_room L _ n is = cc

references_wait : (before after : Taped) (kind : StoredKind) (count : ℕ) (others : List NamedPart)
    (ds : List Datum) → is_reference (one_of kind) ≡ true
    → AddsOne before after (References count) (vector_room before.layout kind count) [] []
    → after.vtables ≡ before.vtables → count ≡ length ds → ItemsKnown before.layout kind ds
    → Waits before (others ++ elements_apart kind ds)
    → Waits after (others ++ (record { target = vector_part kind; value = a_vector (parts_in ds) } ∷ []))
references_wait before after kind count others ds is adds same many known waits =
    part_waits before after (References count) (vector_room before.layout kind count) [] []
    (others ++ elements_apart kind ds)
    (others ++ (record { target = vector_part kind; value = a_vector (parts_in ds) } ∷ [])) adds same tt (
      refl,
      refl,
      record {
        kind = kind;
        elements = ds;
        others = others;
        count_is = many;
        references = is;
        known = known;
        enough = references_room before.layout kind count is;
        takes = refl;
        leaves = refl;
      },
    ) waits

-- Its room was added, and then the operation.
pub references_noted : (before sized seen : Taped) (ops : List Op) (kind : StoredKind) (count room : ℕ)
    (others : List NamedPart) (ds : List Datum) → is_reference (one_of kind) ≡ true
    → sized ≡ with_room before (at_most_usize (before.room + room))
    → room ≡ at_most_usize (vector_room before.layout kind count) → (IsTrue false ↔ (most_bytes < sized.room))
    → seen ≡ sized → ops ≡ seen.ops ++ (References count ∷ []) → count ≡ length ds → ItemsKnown before.layout kind ds
    → Waits before (others ++ elements_apart kind ds)
    → Waits (record seen { ops = ops }) (others ++ (record {
      target = vector_part kind;
      value = a_vector (parts_in ds);
    } ∷ []))
references_noted before sized seen ops kind count room others ds is e1 own over same more many known waits =
    let sum = room_known before sized room (vector_room before.layout kind count) e1 own over in
    let whole : seen ≡ with_room before (at_most_usize (before.room + room)) = same ∙ e1 in
    references_wait before (record seen { ops = ops }) kind count others ds is (record {
      layout = ap (λ (t : Taped). t.layout) whole;
      ops = more ∙ ap (λ (t : Taped). t.ops ++ (References count ∷ [])) whole;
      notes = ap (λ (t : Taped). t.notes) whole ∙ sym (append-nil before.notes);
      bytes = ap (λ (t : Taped). t.bytes) whole ∙ sym (append-nil before.bytes);
      room = ap (λ (t : Taped). t.room) whole ∙ sum;
    }) (ap (λ (t : Taped). t.vtables) whole) many known waits
