-- Parts are as great, have their vtables and are aligned as before once bytes are laid in front.
use Rattle.std.proofs.Common.{◌≡◌, ℕ, ◌+◌, ◌*◌, ◌++◌, List, length, map, slice_index, Some, refl, ap}
use Rattle.std.proofs.lemmas.List.{get_or-append-add}
use Rattle.fb_schema.specs.Alignments.{greatest_in}
use Rattle.fb_layout.specs.Laid.{LaidSchema, StoredKind, slots_of, size_of}
use Rattle.fb_layout.specs.Widths.{inline_align}
use Rattle.fb_value.specs.Num.{Bytes}
use Rattle.fb_value.specs.Places.{table_part, text_part, vector_part, part_place}
use Rattle.fb_value.specs.Rules.{Aligned, KeepsBy}
use Rattle.fb_build.specs.Stored.{StoredSlot}
use Rattle.fb_build.specs.Made.{StaysInFront}
use Rattle.fb_value.proofs.tails.SameBytesReadTheSameFurtherOn.{number_moved, vtable_moved}
use Rattle.fb_build.proofs.covered.PartsAreReachedFurtherOn.{table_inside, table_slots}
use Rattle.fb_build.proofs.covered.ReachedVtablesAreInside.{table_size}
use Rattle.fb_build.proofs.covered.TightTableStaysTightFurtherOn.{stored_moved}

moved_bytes : (front s : Bytes) (i : ℕ) → slice_index (front ++ s) (length front + i) ≡ slice_index s i
moved_bytes front s i = get_or-append-add front s i 0

pub text_stays : (L : LaidSchema) (s : Bytes) (p : ℕ) → StaysInFront L s (record { target = text_part; at = p })
text_stays L s p = record {
  size = λ front. ap (λ n. (4 + n) + 1) (number_moved s (front ++ s) (length front) (moved_bytes front s) p 4);
  vtable = λ front. refl;
  align = λ front. refl;
}

pub vector_stays : (L : LaidSchema) (s : Bytes) (kind : StoredKind) (p : ℕ)
    → StaysInFront L s (record { target = vector_part kind; at = p })
vector_stays L s kind p = record {
  size = λ front. ap (λ n. 4 + n * size_of L kind)
      (number_moved s (front ++ s) (length front) (moved_bytes front s) p 4);
  vtable = λ front. refl;
  align = λ front. refl;
}

pub table_stays : (al : Aligned) (L : LaidSchema) (s : Bytes) (t p : ℕ) → KeepsBy al L s (part_place (table_part t)) p
    → StaysInFront L s (record { target = table_part t; at = p })
table_stays al L s t p h =
    let inside = table_inside al L s t p h in
    record {
      size = λ front. table_size L s (front ++ s) (length front) (moved_bytes front s) p inside;
      vtable = λ front. ap (λ (q : ℕ). Some q)
          (vtable_moved s (front ++ s) (length front) (moved_bytes front s) p inside);
      align = λ front. ap (λ (xs : List StoredSlot). greatest_in (map (λ x. inline_align L x.slot.shape) xs))
          (stored_moved L s (front ++ s) (length front) (moved_bytes front s) p
          (table_slots L al s (front ++ s) (length front) (moved_bytes front s) t p h) 0 (slots_of L t));
    }
