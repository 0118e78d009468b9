-- A value that lies under a layout lies, moved, under another to which values pass.
use Rattle.std.proofs.Common.{◌≡◌, ℕ, suc, ◌+◌, ◌-◌, ◌<◌, ◌≤◌, ◌==◌, Bool, true, false, cond, List, [], ◌∷◌}
use Rattle.std.proofs.Common.{Option, None, Some, slice_get, ℤ, refl, sym, ap, subst, ◌∙◌, arith}
use Rattle.fb_value.specs.Datum.{Datum, a_text, a_vector, a_table, a_member, Parts, no_parts}
use Rattle.fb_value.specs.Datum.{more_parts, SlotEntries, no_entries, absent_entry, present_entry, count}
use Rattle.fb_value.specs.Num.{Bytes, num}
use Rattle.fb_layout.specs.Laid.{LaidSchema, Slot, StoredKind, table_kind, union_kind}
use Rattle.fb_layout.specs.Laid.{text_kind, StoredShape, one_of, slots_of, size_of, member_by_code}
use Rattle.fb_value.specs.Places.{Target, table_part, member_part, text_part, vector_part, Sort, ref_place, part_place}
use Rattle.fb_value.specs.Places.{inline_place, Place, named_slot, named_slots, named_elements, target_of}
use Rattle.fb_value.specs.Places.{next_required, slot_number, code_at}
use Rattle.fb_value.specs.Rules.{Keeps, fault_by}
use Rattle.fb_value.specs.Lies.{LiesInline, AbsentEntry, PresentEntry, Element, Lies, LiesItems, LiesSlots, LiesAt}
use Rattle.fb_value.specs.Reads.{default_entry}
use Rattle.fb_value.specs.OldSlots.{OnlyOldBehind, is_in_use}
use Rattle.fb_conform.specs.Carry.{new_slots}
use Rattle.fb_conform.specs.Movement.{Movement, move, move_items, move_slots, unless_gone}
use Rattle.fb_conform.proofs.laws.OldTypesByTheirNewNumbers.{moved_kind, moved_shape, moved_target, moved_sort}
use Rattle.fb_conform.proofs.laws.OldTypesByTheirNewNumbers.{KnownKind, KnownSort}
use Rattle.fb_conform.proofs.laws.LayoutsAgree.{types_in}
use Rattle.fb_conform.proofs.laws.MovedEntryLiesInItsSlot.{inline_stays, OnlyFrom, OnlyAt, only_next, Knows}
use Rattle.fb_conform.proofs.laws.MovedEntryLiesInItsSlot.{behind_moved, none_absent, absent_used, present_used}
use Rattle.fb_conform.proofs.laws.MovedIsNoLarger.{count_moved}
use Rattle.fb_conform.proofs.laws.MovementsBetweenLayouts.{SlotPasses, SlotsPass, Passes}
use Rattle.fb_conform.proofs.laws.SlotsNameTheSamePlaces.{empty_union, union_is}
use Rattle.fb_conform.proofs.laws.WholeValuesHaveNoUnknownCode.{IsWhole, AreWhole, SlotsWhole}
use Rattle.fb_value.proofs.rules.UnusedSlotHasNoPlace.{no_place}

-- a slot in which nothing stands
nothing_there : (W : LaidSchema) (b : Bytes) (p k : ℕ) (hs : List Slot) (s : StoredShape) → slot_number b p k ≡ 0
    → named_slot W b p k hs s ≡ None
nothing_there W b p k hs (one_of (union_kind u)) e =
    union_is b p k (code_at b p (k - 1)) (member_by_code W u (code_at b p (k - 1)))
    ∙ rw e (empty_union (code_at b p (k - 1) == 0) (code_at b p (k - 1)) (p + 0)
    (member_by_code W u (code_at b p (k - 1))))
nothing_there W b p k hs _ e = rw e refl

default_slot : (W : LaidSchema) (b : Bytes) (h : Slot) (hs : List Slot) (o : Option ℤ) (x : Option Place)
    (ys : List (Option Place)) (ss : SlotEntries) → h.if_absent ≡ o → x ≡ None → LiesSlots W b hs ys ss
    → LiesSlots W b (h ∷ hs) (x ∷ ys) (default_entry o ss)
default_slot W b h hs None x ys ss is none rest = rw none (is, rest)
default_slot W b h hs (Some n) x ys ss is none rest = rw none ((n, is, refl), rest)

-- slots that only the other layout has
new_lie : (W : LaidSchema) (b : Bytes) (p k : ℕ) (hs : List Slot) → ((j : ℕ) → k ≤ j → slot_number b p j ≡ 0)
    → LiesSlots W b hs (named_slots W b p k hs) (new_slots hs)
unfolding named_slots
new_lie W b p k [] empty = tt
new_lie W b p k (h ∷ hs) empty =
    default_slot W b h hs h.if_absent _ _ _ refl
    (no_place h.deprecated _ (nothing_there W b p k hs h.shape (empty k (omega arith))))
    (new_lie W b p (suc k) hs (λ j past. empty j (omega arith)))

same_target : (X Y : Target) → Some Y ≡ Some X → X ≡ Y
same_target X Y e = cc

module _ (A V W : LaidSchema) (v w : ℕ → ℕ) (m : Movement) (needs : Type 0) (ways : Passes A V W v w m needs)
    (b : Bytes) where
  From : Place → Type 0
  From = OnlyFrom A V W v w m needs ways b

  At : Sort → ℕ → Type 0
  At = OnlyAt A V W v w m needs ways b

  -- an element: a reference, or what stands in its place
  element_moved : (kind : StoredKind) (p : ℕ) (d : Datum) → KnownKind (types_in A) kind
      → ((X : Target) → target_of kind ≡ Some X → At (ref_place X) p) → Knows A V W v w m needs ways b d (move m d)
      → (LiesInline V b (moved_kind v kind) p d → LiesInline W b (moved_kind w kind) p (move m d))
      → Element V b (moved_kind v kind) p (target_of (moved_kind v kind)) d (λ s q. Lies V b s q d)
      → Element W b (moved_kind w kind) p (target_of (moved_kind w kind)) (move m d) (λ s q. Lies W b s q (move m d))
  unfolding At
  element_moved text_kind p d known only knows inlined lies =
      behind_moved A V W v w m needs ways b (ref_place text_part) p d _ tt (only text_part refl) knows lies
  element_moved (table_kind t) p d known only knows inlined lies =
      behind_moved A V W v w m needs ways b (ref_place (table_part t)) p d _ known (only (table_part t) refl) knows lies
  element_moved _ p d known only knows inlined lies = inlined lies

  inline_moved : (kind : StoredKind) (p : ℕ) (d : Datum) → KnownKind (types_in A) kind
      → LiesInline V b (moved_kind v kind) p d → LiesInline W b (moved_kind w kind) p (move m d)
  inline_moved kind p d known lies = rw (inline_stays V b m (moved_kind v kind) p d lies) (ways.inline b kind p d known
      lies)

  -- the elements of a vector of references
  Elements : StoredKind → ℕ → ℕ → Type 0
  Elements kind p n = (X : Target) → target_of kind ≡ Some X → (size_of V (moved_kind v kind) ≡ 4)
      × ((j : ℕ) (y : Place) → slice_get (named_elements (moved_target v X) p n) j ≡ Some (Some y) → From y)

  elements_next : (kind : StoredKind) (p n : ℕ) → Elements kind p (suc n)
      → Elements kind (p + size_of V (moved_kind v kind)) n
  unfolding Elements named_elements
  elements_next kind p n only X e =
      let h = only X e in (
        h.0,
        λ j y names. h.1 (suc j) y
            (rw (← h.0) names),
      )

  elements_first : (kind : StoredKind) (p n : ℕ) → Elements kind p (suc n) → (X : Target) → target_of kind ≡ Some X
      → At (ref_place X) p
  unfolding Elements named_elements At From OnlyAt
  elements_first kind p n only X e = (only X e).1 0 (record { sort = ref_place (moved_target v X); at = p }) refl

  vector_only : (kind : StoredKind) (p : ℕ) → At (part_place (vector_part kind)) p
      → Keeps V b (part_place (vector_part (moved_kind v kind))) p → Elements kind (p + 4) (num b p 4)
  unfolding Elements At From OnlyAt
  vector_only text_kind p only keeps X e = (
    refl,
    λ j y names. only_next A V W v w m needs ways b (record { sort = part_place (vector_part text_kind); at = p })
        j y only keeps
        (rw (same_target X text_part e) at names),
  )
  vector_only (table_kind t) p only keeps X e = (
    refl,
    λ j y names. only_next A V W v w m needs ways b
        (record { sort = part_place (vector_part (table_kind (v t))); at = p }) j y only keeps
        (rw (same_target X (table_part t) e) at names),
  )
  vector_only _ p only keeps X e = cc

  -- a member is its table, under a code
  as_member : (c t p : ℕ) → From (record { sort = part_place (member_part c t); at = p })
      → From (record { sort = part_place (table_part t); at = p })
  unfolding From OnlyFrom fault_by
  as_member c t p only [] X q u j leads is free =
      let sorts : part_place (table_part t) ≡ part_place X = ap (λ (z : Place). z.sort) leads in
      let same : table_part t ≡ X = cc in
      let there : p ≡ q = ap (λ (z : Place). z.at) leads in
      rw (← there) (only [] (member_part c t) p u j refl (rw (← same) at is) free)
  as_member c t p only (k ∷ path) X q u j leads is free = only (k ∷ path) X q u j leads is free

  -- slots that aren't in use are empty
  Unused : ℕ → ℕ → List Slot → Type 0
  Unused p k gs = (j i : ℕ) → i ≡ k + j → is_in_use (slice_get gs j) ≡ false → slot_number b p i ≡ 0

  -- the places that slots name
  Below : ℕ → ℕ → List Slot → Type 0
  Below p k gs = (j : ℕ) (y : Place) → slice_get (named_slots V b p k gs) j ≡ Some (Some y) → From y

  table_unused : (t p : ℕ) → From (record { sort = part_place (table_part t); at = p }) → Unused p 0 (slots_of V t)
  unfolding From OnlyFrom Unused
  table_unused t p only j i is free = let h : slot_number b p j ≡ 0 = only [] (table_part t) p t j refl refl free in
      subst (λ (z : ℕ). slot_number b p z ≡ 0) (omega arith) h

  -- the entry in a slot, in front of the later ones
  module _ (p k : ℕ) (g h : Slot) (gs hs : List Slot) (passes : SlotPasses v w (types_in A) m g h)
      (next : next_required hs ≡ next_required gs) (empty : g.deprecated ≡ true → slot_number b p k ≡ 0)
      (ys : List (Option Place)) (ss : SlotEntries) (rest : LiesSlots W b hs ys ss) where
    abbrev Entries : SlotEntries → Type 0
    Entries es = LiesSlots W b (h ∷ hs) (cond h.deprecated None (named_slot W b p k hs h.shape) ∷ ys) es

    gone_slot : h.deprecated ≡ true → Entries (absent_entry ss)
    gone_slot gone = rw gone (passes.gone gone, rest)

    slot_absent : (c e : Bool) → g.deprecated ≡ c → h.deprecated ≡ e
        → AbsentEntry V b g (cond c None (named_slot V b p k gs g.shape)) → Entries (m.absent h ss)
    slot_absent c true is gone entry = rw (ways.absent h ss (passes.gone gone)) (gone_slot gone)
    slot_absent true false is used entry =
        rw (passes.free is used ss) (default_slot W b h hs h.if_absent _ ys ss refl
        (no_place h.deprecated _ (nothing_there W b p k hs h.shape (empty is))) rest)
    slot_absent false false is used entry =
        let same = passes.absent is used in
        let from : AbsentEntry V b g (named_slot V b p k gs (moved_shape v passes.shape)) = rw passes.here at entry in
        let none = none_absent A V W v w m needs ways b p k g h gs hs next same passes.shape g.if_absent refl
        passes.number from in
        let there = absent_used A V W v w m needs ways b p k g h gs hs next same passes.shape passes.known none from in
        let in_front : LiesSlots W b (h ∷ hs) (named_slot W b p k hs h.shape ∷ ys) (m.absent h ss) =
        rw (ways.absent h ss (same ∙ none))
        (rw passes.there there, rest) in
        subst (λ (z : Bool). LiesSlots W b (h ∷ hs) (cond z None (named_slot W b p k hs h.shape) ∷ ys) (m.absent h ss))
        (sym used) in_front

    slot_present : (c e : Bool) (d : Datum) → g.deprecated ≡ c → h.deprecated ≡ e → (needs → IsWhole d)
        → ((y : Place) → cond c None (named_slot V b p k gs g.shape) ≡ Some y → From y)
        → Knows A V W v w m needs ways b d (move m d)
        → PresentEntry V b g (cond c None (named_slot V b p k gs g.shape)) d (λ s q. Lies V b s q d)
        → Entries (unless_gone h.deprecated (m.known h.shape d (move m d)) ss)
    unfolding From
    slot_present true e d is used whole only knows entry =
        let bad : None ≡ Some entry.0 = sym (passes.left is) ∙ entry.1 in cc
    slot_present false true d is gone whole only knows entry = rw gone (passes.gone gone, rest)
    slot_present false false d is used whole only knows entry =
        let same = passes.absent is used in
        let from : PresentEntry V b g (named_slot V b p k gs (moved_shape v passes.shape)) d (λ s q. Lies V b s q d) =
        rw passes.here at entry in
        let below : (y : Place) → named_slot V b p k gs (moved_shape v passes.shape) ≡ Some y
        → OnlyFrom A V W v w m needs ways b y = rw passes.here at only in
        let there = present_used A V W v w m needs ways b p k g h gs hs next same passes.shape d passes.known whole
        below knows from in
        let in_front : PresentEntry W b h (named_slot W b p k hs h.shape) (m.known h.shape d (move m d))
        (λ s q. Lies W b s q (m.known h.shape d (move m d))) =
        rw passes.there there in
        rw used (in_front, rest)

  mutual
    unfolding named_slots Below Unused Knows OnlyAt At From Elements

    lies_moved : (s : Sort) (p : ℕ) (d : Datum) → KnownSort (types_in A) s → At s p → (needs → IsWhole d)
        → Lies V b (moved_sort v s) p d → Lies W b (moved_sort w s) p (move m d)
    lies_moved (inline_place kind) p d known only whole lies =
        (ways.keeps b (inline_place kind) p known lies.0, inline_moved kind p d known lies.1)
    lies_moved (part_place text_part) p (a_text bytes) known only whole lies =
        (ways.keeps b (part_place text_part) p known lies.0, lies.1)
    lies_moved (part_place (vector_part kind)) p (a_vector ds) known only whole lies = (
      ways.keeps b (part_place (vector_part kind)) p known lies.0,
      count_moved m ds ∙ lies.1,
      items_moved kind (p + 4) ds known
          (rw lies.1 (vector_only kind p only lies.0)) whole lies.2,
    )
    lies_moved (part_place (table_part t)) p (a_table type ss) known only whole lies =
        let same : m.type type ≡ w t = ap m.type lies.1 ∙ ways.type t known in
        let below : Below p 0 (slots_of V (v t)) =
        λ j y names. only_next A V W v w m needs ways b (record { sort = part_place (table_part (v t)); at = p }) j y
        only lies.0 names in
        let there = slots_moved p 0 (slots_of V (v t)) (slots_of W (w t)) ss (ways.slots t known) below
        (table_unused (v t) p only) whole lies.2 in (
          ways.keeps b (part_place (table_part t)) p known lies.0,
          same,
          rw (ways.there (m.type type) ∙ ap (slots_of W) same) there,
        )
    lies_moved (part_place (member_part c t)) p (a_member c2 d) known only whole lies =
        (lies.0, lies_moved (part_place (table_part t)) p d known (as_member c (v t) p only) whole lies.1)
    lies_moved _ p _ known only whole lies = absurd lies

    items_moved : (kind : StoredKind) (p : ℕ) (ds : Parts) → KnownKind (types_in A) kind → Elements kind p (count ds)
        → (needs → AreWhole ds) → LiesItems V b (moved_kind v kind) p ds
        → LiesItems W b (moved_kind w kind) p (move_items m ds)
    items_moved kind p no_parts known only whole lies = tt
    items_moved kind p (more_parts d ds) known only whole lies =
        let rest = items_moved kind (p + size_of V (moved_kind v kind)) ds known (elements_next kind p (count ds) only)
        (λ need. (whole need).1) lies.1 in (
          element_moved kind p d known (elements_first kind p (count ds) only)
              (λ s q known2 only2 lies2. lies_moved s q d known2 only2 (λ need. (whole need).0) lies2)
              (λ h. inline_moved kind p d known h) lies.0,
          rw (ways.size kind known) rest,
        )

    slots_moved : (p k : ℕ) (gs hs : List Slot) (ss : SlotEntries) → SlotsPass v w (types_in A) m gs hs
        → Below p k gs → Unused p k gs → (needs → SlotsWhole ss) → LiesSlots V b gs (named_slots V b p k gs) ss
        → LiesSlots W b hs (named_slots W b p k hs) (move_slots m hs ss)
    slots_moved p k [] hs no_entries passes below unused whole lies =
        rw passes (new_lie W b p k hs (λ j past. unused (j - k) j (omega arith) refl))
    slots_moved p k (g ∷ gs) [] (absent_entry ss) passes below unused whole lies = tt
    slots_moved p k (g ∷ gs) [] (present_entry d ss) passes below unused whole lies = tt
    slots_moved p k (g ∷ gs) (h ∷ hs) (absent_entry ss) passes below unused whole lies =
        let rest = slots_moved p (suc k) gs hs ss passes.2 (λ j y e. below (suc j) y e)
        (λ j i e free. unused (suc j) i (omega arith) free) whole lies.1 in
        slot_absent p k g h gs hs passes.0 passes.1 (λ gone. unused 0 k (omega arith) (rw gone refl)) _ _ rest
        g.deprecated h.deprecated refl refl lies.0
    slots_moved p k (g ∷ gs) (h ∷ hs) (present_entry d ss) passes below unused whole lies =
        let rest = slots_moved p (suc k) gs hs ss passes.2 (λ j y e. below (suc j) y e)
        (λ j i e free. unused (suc j) i (omega arith) free) (λ need. (whole need).1) lies.1 in
        slot_present p k g h gs hs passes.0 passes.1 (λ gone. unused 0 k (omega arith) (rw gone refl)) _ _ rest
        g.deprecated h.deprecated d refl refl (λ need. (whole need).0) (λ y e. below 0 y (ap Some e))
        (λ s q known only lies2. lies_moved s q d known only (λ need. (whole need).0) lies2) lies.0
    slots_moved p k _ hs _ passes below unused whole lies = absurd lies

  -- the whole, behind the root's reference
  pub root_moved : (front root : ℕ) (d : Datum) → root < types_in A → V.schema.root ≡ v root → W.schema.root ≡ w root
      → (needs → IsWhole d) → OnlyOldBehind front V b
      → LiesAt V b (ref_place (table_part V.schema.root)) front d
      → LiesAt W b (ref_place (table_part W.schema.root)) front (move m d)
  unfolding OnlyFrom Knows OnlyAt At
  root_moved front root d known here there whole only lies =
      let from : OnlyFrom A V W v w m needs ways b (record {
        sort = ref_place (table_part (v root));
        at = front;
      }) =
      rw (← here) (λ path X q t k leads is free. only path X q t k leads is free) in
      rw (← there) at (behind_moved A V W v w m needs ways b (ref_place (table_part root)) front d (move m d) known from
      (λ s q known2 below at. lies_moved s q d known2 below whole at)
      (rw (← here) lies))
