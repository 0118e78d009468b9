-- A place that keeps its rules keeps them under a schema that agrees.
use Rattle.std.proofs.Common.{◌≡◌, ℕ, suc, ◌<◌, List, [], ◌∷◌}
use Rattle.std.proofs.Common.{refl}
use Rattle.fb_value.specs.Num.{Bytes}
use Rattle.fb_layout.specs.Laid.{LaidSchema, Slot, StoredKind, scalar_kind, struct_kind}
use Rattle.fb_layout.specs.Laid.{StoredShape, one_of, slots_of, size_of, align_of}
use Rattle.fb_value.specs.Places.{table_part, member_part, vector_part, Sort, part_place}
use Rattle.fb_value.specs.Places.{inline_place}
use Rattle.fb_value.specs.Rules.{Keeps, fault_by, is_union, is_missing, first_missing}
use Rattle.fb_conform.specs.Twins.{to_new}
use Rattle.fb_conform.proofs.laws.OldTypesByTheirNewNumbers.{moved_kind, moved_shape, moved_sort, KnownKind, KnownSort}
use Rattle.fb_conform.proofs.laws.LayoutsAgree.{SlotStays, Grown, types_in, Agrees}

pub union_moved : (to : ℕ → ℕ) (s : StoredShape) → is_union (moved_shape to s) ≡ is_union s
union_moved to (one_of (scalar_kind base)) = refl
union_moved to _ = refl

missing_same : (to : ℕ → ℕ) (n : ℕ) (b : Bytes) (p k : ℕ) (f g : Slot) → SlotStays to n f g
    → is_missing b p k g ≡ is_missing b p k f
missing_same to n b p k f g stays = rw (stays.required, stays.shape, union_moved to f.shape) refl

missing_moved : (to : ℕ → ℕ) (n : ℕ) (b : Bytes) (p k : ℕ) (fs gs : List Slot) → Grown to n fs gs
    → first_missing b p k gs ≡ first_missing b p k fs
missing_moved to n b p k [] [] grown = refl
missing_moved to n b p k [] (g ∷ gs) grown = rw grown.0 (missing_moved to n b p (suc k) [] gs grown.1)
missing_moved to n b p k (f ∷ fs) (g ∷ gs) grown =
    rw (missing_same to n b p k f g grown.0, missing_moved to n b p (suc k) fs gs grown.1) refl
missing_moved to n b p k (f ∷ fs) [] grown = absurd grown

module _ (A B : LaidSchema) (agrees : Agrees A B) where
  pub size_moved : (kind : StoredKind) → KnownKind (types_in A) kind
      → size_of B (moved_kind (to_new A B) kind) ≡ size_of A kind
  size_moved (struct_kind s) known = (agrees.structs s known).size
  size_moved _ known = refl

  pub align_moved : (kind : StoredKind) → KnownKind (types_in A) kind
      → align_of B (moved_kind (to_new A B) kind) ≡ align_of A kind
  align_moved (struct_kind s) known = (agrees.structs s known).align
  align_moved _ known = refl

  table_keeps : (b : Bytes) (t p : ℕ) → t < types_in A → Keeps A b (part_place (table_part t)) p
      → Keeps B b (part_place (table_part (to_new A B t))) p
  unfolding fault_by
  table_keeps b t p known keeps =
      rw (missing_moved (to_new A B) (types_in A) b p 0 (slots_of A t) (slots_of B (to_new A B t))
      (agrees.slots t known)) keeps

  pub keeps_moved : (b : Bytes) (s : Sort) (p : ℕ) → KnownSort (types_in A) s → Keeps A b s p
      → Keeps B b (moved_sort (to_new A B) s) p
  unfolding fault_by
  keeps_moved b (part_place (table_part t)) p known keeps = table_keeps b t p known keeps
  keeps_moved b (part_place (member_part c t)) p known keeps = table_keeps b t p known keeps
  keeps_moved b (part_place (vector_part kind)) p known keeps = rw (size_moved kind known, align_moved kind known) keeps
  keeps_moved b (inline_place kind) p known keeps = rw (size_moved kind known, align_moved kind known) keeps
  keeps_moved b _ p known keeps = keeps

  pub keeps_back : (b : Bytes) (s : Sort) (p : ℕ) → KnownSort (types_in A) s → Keeps B b (moved_sort (to_new A B) s) p
      → Keeps A b s p
  unfolding fault_by
  keeps_back b (part_place (table_part t)) p known keeps =
      rw (← missing_moved (to_new A B) (types_in A) b p 0 (slots_of A t) (slots_of B (to_new A B t))
      (agrees.slots t known)) keeps
  keeps_back b (part_place (member_part c t)) p known keeps =
      rw (← missing_moved (to_new A B) (types_in A) b p 0 (slots_of A t) (slots_of B (to_new A B t))
      (agrees.slots t known)) keeps
  keeps_back b (part_place (vector_part kind)) p known keeps =
      rw (← size_moved kind known, ← align_moved kind known) keeps
  keeps_back b (inline_place kind) p known keeps = rw (← size_moved kind known, ← align_moved kind known) keeps
  keeps_back b _ p known keeps = keeps
