-- Two layouts of which values of the one can be moved to the other: what both agree on with an older one.
use Rattle.std.specs.Prelude.{ℕ, ◌≡◌, ◌<◌, List, [], ◌∷◌, None, Some, ℤ, true, false}
use Rattle.fb_schema.specs.declared.kinds.Base.{Base}
use Rattle.fb_layout.specs.Laid.{LaidSchema, Slot, StoredKind, scalar_kind, union_kind, StoredShape, one_of, slots_of}
use Rattle.fb_layout.specs.Laid.{size_of, member_by_code}
use Rattle.fb_value.specs.Datum.{Datum, a_number, a_member, an_unknown, SlotEntries, absent_entry}
use Rattle.fb_value.specs.Lies.{LiesInline}
use Rattle.fb_value.specs.Num.{Bytes}
use Rattle.fb_value.specs.Places.{Sort, next_required}
use Rattle.fb_value.specs.Reads.{default_entry}
use Rattle.fb_value.specs.Rules.{Keeps, is_union}
use Rattle.fb_conform.specs.Carry.{new_slots}
use Rattle.fb_conform.specs.Movement.{Movement}
use Rattle.fb_conform.proofs.laws.LayoutsAgree.{types_in}
use Rattle.fb_conform.proofs.laws.OldTypesByTheirNewNumbers.{moved_kind, moved_shape, moved_sort, KnownKind, KnownShape}
use Rattle.fb_conform.proofs.laws.OldTypesByTheirNewNumbers.{KnownSort}

-- One slot here and there; v and w are the numbers that a type of the older layout has here and there.
pub record SlotPasses (v w : ℕ → ℕ) (n : ℕ) (m : Movement) (g h : Slot) : Type 0 where
  pub shape : StoredShape
  pub known : KnownShape n shape
  pub here : g.shape ≡ moved_shape v shape
  pub there : h.shape ≡ moved_shape w shape
  pub absent : g.deprecated ≡ false → h.deprecated ≡ false → h.if_absent ≡ g.if_absent
  pub number : (i : ℤ) → g.if_absent ≡ Some i → (base : Base) × (shape ≡ one_of (scalar_kind base))
  pub left : g.deprecated ≡ true → g.if_absent ≡ None
  pub gone : h.deprecated ≡ true → h.if_absent ≡ None
  pub free : g.deprecated ≡ true → h.deprecated ≡ false → (ss : SlotEntries)
      → m.absent h ss ≡ default_entry h.if_absent ss

abbrev pub SlotsPass : (ℕ → ℕ) → (ℕ → ℕ) → ℕ → Movement → List Slot → List Slot → Type 0
SlotsPass v w n m [] hs = m.added hs ≡ new_slots hs
SlotsPass v w n m (g ∷ gs) [] = Unit {0}
SlotsPass v w n m (g ∷ gs) (h ∷ hs) = SlotPasses v w n m g h × (next_required hs ≡ next_required gs)
    × SlotsPass v w n m gs hs

-- Values pass from V to W; `needs` is what has to hold that one must be whole.
pub record Passes (A V W : LaidSchema) (v w : ℕ → ℕ) (m : Movement) (needs : Type 0) : Type 0 where
  pub type : (t : ℕ) → t < types_in A → m.type (v t) ≡ w t
  pub there : (t : ℕ) → m.slots t ≡ slots_of W t
  pub slots : (t : ℕ) → t < types_in A → SlotsPass v w (types_in A) m (slots_of V (v t)) (slots_of W (w t))
  pub keeps : (b : Bytes) (s : Sort) (p : ℕ) → KnownSort (types_in A) s → Keeps V b (moved_sort v s) p
      → Keeps W b (moved_sort w s) p
  pub size : (kind : StoredKind) → KnownKind (types_in A) kind
      → size_of W (moved_kind w kind) ≡ size_of V (moved_kind v kind)
  pub inline : (b : Bytes) (kind : StoredKind) (p : ℕ) (d : Datum) → KnownKind (types_in A) kind
      → LiesInline V b (moved_kind v kind) p d → LiesInline W b (moved_kind w kind) p d
  pub member : (u c t z : ℕ) → u < types_in A → member_by_code V (v u) c ≡ Some t → member_by_code W (w u) c ≡ Some z
      → (x : ℕ) × (x < types_in A) × (t ≡ v x) × (z ≡ w x)
  pub stays : (u c z : ℕ) (d e : Datum) → member_by_code W (w u) c ≡ Some z
      → m.known (one_of (union_kind (w u))) (a_member c d) e ≡ e
  pub lost : (u c t : ℕ) (d e : Datum) → u < types_in A → member_by_code V (v u) c ≡ Some t
      → member_by_code W (w u) c ≡ None → m.known (one_of (union_kind (w u))) (a_member c d) e ≡ an_unknown c
  pub new : (u c z : ℕ) → u < types_in A → member_by_code V (v u) c ≡ None → member_by_code W (w u) c ≡ Some z → needs
  pub number : (u : ℕ) (n : ℤ) (e : Datum) → m.known (one_of (union_kind u)) (a_number n) e ≡ e
  pub other : (u c : ℕ) (e : Datum) → m.known (one_of (union_kind u)) (an_unknown c) e ≡ e
  pub plain : (s : StoredShape) (d e : Datum) → is_union s ≡ false → m.known s d e ≡ e
  pub absent : (g : Slot) (ss : SlotEntries) → g.if_absent ≡ None → m.absent g ss ≡ absent_entry ss
