-- How many bytes a reference takes, and the elements of a vector.
use Rattle.std.proofs.Common.{◌≡◌, ℕ, zero, suc, ◌*◌, ◌<◌, List, [], ◌∷◌, length, slice_get, Some, true, refl, ap, ◌∙◌}
use Rattle.std.proofs.Common.{arith, length-append}
use Rattle.fb_layout.specs.Laid.{LaidSchema, StoredKind, StoredShape, size_of, text_kind, table_kind, union_kind, one_of}
use Rattle.fb_layout.specs.Laid.{vector_of}
use Rattle.fb_layout.specs.Widths.{inline_size}
use Rattle.fb_value.specs.Datum.{Datum}
use Rattle.fb_value.specs.Num.{Bytes}
use Rattle.fb_tape.specs.StoredFields.{is_reference}
use Rattle.fb_tape.specs.Tapes.{AreElementBytes}

pub reference_size : (L : LaidSchema) (shape : StoredShape) → is_reference shape ≡ true → inline_size L shape ≡ 4
reference_size L (vector_of kind) is = refl
reference_size L (one_of text_kind) is = refl
reference_size L (one_of (table_kind t)) is = refl
reference_size L (one_of (union_kind u)) is = refl
reference_size L _ is = cc

pub elements_long : (L : LaidSchema) (kind : StoredKind) (ds : List Datum) (bytes : Bytes)
    → AreElementBytes L kind ds bytes → length bytes ≡ length ds * size_of L kind
elements_long L kind [] bytes h = ap length h ∙ omega arith
elements_long L kind (d ∷ ds) bytes h =
    let rest = elements_long L kind ds h.behind h.rest in
    let whole = ap length h.bytes_are ∙ length-append h.own h.behind in
    omega (arith, whole, rest, h.inline.long)

pub got : {A : Type 0} (xs : List A) (i : ℕ) → i < length xs → (x : A) × (slice_get xs i ≡ Some x)
got [] i low = absurd (omega (arith, low))
got (x ∷ xs) zero low = (x, refl)
got (x ∷ xs) (suc i) low = got xs i (omega (arith, low))
