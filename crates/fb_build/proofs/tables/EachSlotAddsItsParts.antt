-- What a slot names: a part that is stored, or nothing.
use Rattle.std.proofs.Common.{◌≡◌, ℕ, true, []}
use Rattle.std.proofs.Common.{Option, None, Some, refl}
use Rattle.fb_layout.specs.Laid.{LaidSchema, Slot, StoredShape, scalar_kind, struct_kind, table_kind}
use Rattle.fb_layout.specs.Laid.{union_kind, code_kind, text_kind, one_of, vector_of}
use Rattle.fb_value.specs.Datum.{Datum, a_number}
use Rattle.fb_value.specs.Num.{Bytes}
use Rattle.fb_value.specs.Places.{Target}
use Rattle.fb_build.specs.Fields.{SlotFits, is_stored, stored_here, coded, target_for}
use Rattle.fb_build.specs.Made.{named_stored}
use Rattle.fb_build.specs.Made.{parts_at}

-- ---- slots

-- A number names nothing, where it fits.
number_names_nothing : (L : LaidSchema) (shape : StoredShape) (n : _) → SlotFits L shape (a_number n) → (X : Target)
    → target_for shape (a_number n) ≡ Some X → ⊥
number_names_nothing L (one_of (table_kind b)) n fits X is = fits
number_names_nothing L (one_of text_kind) n fits X is = fits
number_names_nothing L (vector_of b) n fits X is = fits
number_names_nothing L _ n fits X is = cc

pub target_is_stored : (L : LaidSchema) (f : Slot) (d : Datum) (X : Target) → SlotFits L f.shape d
    → target_for f.shape d ≡ Some X → is_stored f (Some d) ≡ true
target_is_stored L f (a_number n) X fits is = absurd (number_names_nothing L f.shape n fits X is)
target_is_stored L f _ X fits is = refl

-- ---- what a value names as a slot, and by itself

pub coded_names_nothing : (L : LaidSchema) (s : Bytes) (f : Slot) (u : ℕ) (code : Option ℕ) (e : ℕ)
    → f.shape ≡ one_of (code_kind u) → parts_at L s (named_stored f (coded code)) e ≡ []
coded_names_nothing L s f u None e is = refl
coded_names_nothing L s f u (Some c) e is = rw is refl

-- a slot without an entry names nothing
pub nothing_named : (L : LaidSchema) (s : Bytes) (f : Slot) (code : Option ℕ) (e : ℕ)
    → parts_at L s (named_stored f (stored_here f.shape code None)) e ≡ []
nothing_named L s f code e = by_shape f.shape refl
  where
    by_shape : (shape : StoredShape) → f.shape ≡ shape
        → parts_at L s (named_stored f (stored_here shape code None)) e ≡ []
    by_shape (one_of (scalar_kind b)) is = refl
    by_shape (one_of (struct_kind t)) is = refl
    by_shape (one_of (table_kind t)) is = refl
    by_shape (one_of (union_kind u)) is = refl
    by_shape (one_of (code_kind u)) is = coded_names_nothing L s f u code e is
    by_shape (one_of text_kind) is = refl
    by_shape (vector_of kind) is = refl
