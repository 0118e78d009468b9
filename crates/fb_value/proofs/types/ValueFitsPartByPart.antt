-- What fits, part by part.
use Rattle.std.proofs.Common.{◌≡◌, ◌↔◌, ℕ, suc, List, [], ◌∷◌, length, Option, None, Some, refl, sym, ap}
use Rattle.fb_layout.specs.Laid.{LaidSchema, Slot, slots_of, parts_of, StoredKind, struct_kind, table_kind, StoredShape}
use Rattle.fb_layout.specs.Laid.{one_of}
use Rattle.fb_value.specs.Datum.{a_struct, a_table, Parts, SlotEntries}
use Rattle.fb_value.specs.Wanted.{struct_wanted, table_wanted}
use Rattle.fb_value.specs.View.{parts_view, entries_view}
use Rattle.fb_value.specs.Fits.{Fits, PartsFit, EntriesFit}
use Rattle.fb_value.specs.declared.values.Value.{Value}

-- one for each
pub parts_count : (L : LaidSchema) (ks : List StoredKind) (vs : List Value) → PartsFit L ks (parts_view vs)
    → length ks ≡ length vs
parts_count L [] [] h = refl
parts_count L [] (v ∷ vs) h = absurd h
parts_count L (k ∷ ks) [] h = absurd h
parts_count L (k ∷ ks) (v ∷ vs) h = ap (λ n. suc n) (parts_count L ks vs h.1)

pub entries_count : (L : LaidSchema) (fs : List Slot) (es : List (Option Value)) → EntriesFit L fs (entries_view es)
    → length fs ≡ length es
entries_count L [] [] h = refl
entries_count L [] (None ∷ es) h = absurd h
entries_count L [] (Some v ∷ es) h = absurd h
entries_count L (f ∷ fs) [] h = absurd h
entries_count L (f ∷ fs) (None ∷ es) h = ap (λ n. suc n) (entries_count L fs es h.1)
entries_count L (f ∷ fs) (Some v ∷ es) h = ap (λ n. suc n) (entries_count L fs es h.2)

-- ---- by what a shape wants

pub struct_fits : (L : LaidSchema) (shape : StoredShape) (s : ℕ) (ds : Parts) → struct_wanted shape ≡ Some s
    → Fits L shape (a_struct ds) ↔ PartsFit L (parts_of L s) ds
struct_fits L (one_of (struct_kind t)) s ds e = let same : t ≡ s = cc in rw same ((λ h. h), (λ h. h))
struct_fits L _ s ds e = cc

pub table_fits : (L : LaidSchema) (shape : StoredShape) (t : ℕ) (es : SlotEntries)
    → Fits L shape (a_table t es) ↔ ((table_wanted shape ≡ Some t) × EntriesFit L (slots_of L t) es)
table_fits L (one_of (table_kind u)) t es = (
  (λ h. (ap Some (sym h.0), rw h.0 h.1)),
  (λ h. let same : t ≡ u = cc in (same, rw (sym same) h.1)),
)
table_fits L _ t es = ((λ h. absurd h), (λ h. cc))
