-- The entry of a slot that both layouts use lies, moved, in that slot there.
use Rattle.std.proofs.Common.{◌≡◌, ℕ, ◌+◌, ◌-◌, ◌<◌, ◌⊎◌, inl, inr, ◌==◌, Bool, true, false, cond, List, ◌∷◌, Option}
use Rattle.std.proofs.Common.{None}
use Rattle.std.proofs.Common.{Some, slice_get, ℤ, refl, ap, ◌∙◌}
use Rattle.fb_schema.specs.declared.kinds.Base.{Base}
use Rattle.fb_value.specs.Datum.{Datum, a_number, a_struct, a_member, an_unknown}
use Rattle.fb_value.specs.Num.{Bytes, num}
use Rattle.fb_layout.specs.Laid.{LaidSchema, Slot, StoredKind, scalar_kind, struct_kind, union_kind}
use Rattle.fb_layout.specs.Laid.{StoredShape, one_of, slots_of, member_by_code}
use Rattle.fb_value.specs.Places.{Target, member_part, Sort, ref_place, part_place, inline_place, code_place}
use Rattle.fb_value.specs.Places.{unknown_place, Place, named_slot, next_required, is_present, slot_number, code_at}
use Rattle.fb_value.specs.Rules.{Keeps, is_union}
use Rattle.fb_value.specs.Lies.{LiesInline, Behind, EntryAt, IsCode, AbsentEntry, PresentEntry, Lies}
use Rattle.fb_value.specs.Reached.{Path, Names, Leads}
use Rattle.fb_value.specs.OldSlots.{table_of, is_in_use}
use Rattle.fb_conform.specs.Movement.{Movement, move}
use Rattle.fb_conform.proofs.laws.OldTypesByTheirNewNumbers.{moved_shape, moved_target, moved_sort, moved_place}
use Rattle.fb_conform.proofs.laws.OldTypesByTheirNewNumbers.{KnownShape, KnownSort}
use Rattle.fb_conform.proofs.laws.LayoutsAgree.{types_in}
use Rattle.fb_conform.proofs.laws.MovementsBetweenLayouts.{Passes}
use Rattle.fb_conform.proofs.laws.RulesHoldUnderBothLayouts.{union_moved}
use Rattle.fb_conform.proofs.laws.SlotsNameTheSamePlaces.{MovedPlace, UnionAt, Numbered, zero_test, empty_union}
use Rattle.fb_conform.proofs.laws.SlotsNameTheSamePlaces.{slot_moved, place_known, no_code, union_is}
use Rattle.fb_conform.proofs.laws.WholeValuesHaveNoUnknownCode.{IsWhole}

pub inline_stays : (V : LaidSchema) (b : Bytes) (m : Movement) (kind : StoredKind) (p : ℕ) (d : Datum)
    → LiesInline V b kind p d → move m d ≡ d
inline_stays V b m (scalar_kind base) p (a_number n) lies = refl
inline_stays V b m (struct_kind s) p (a_struct ds) lies = refl
inline_stays V b m _ p _ lies = absurd lies

union_or_plain : (s : StoredShape) → (is_union s ≡ false) ⊎ ((u : ℕ) × (s ≡ one_of (union_kind u)))
union_or_plain (one_of (union_kind u)) = inr (u, refl)
union_or_plain _ = inl refl

module _ (A V W : LaidSchema) (v w : ℕ → ℕ) (m : Movement) (needs : Type 0) (ways : Passes A V W v w m needs)
    (b : Bytes) where
  -- nothing stands in unknown slots from a place on
  unfoldable pub OnlyFrom : Place → Type 0
  OnlyFrom x = (path : Path) (X : Target) (q t k : ℕ) → Leads V b x path (record { sort = part_place X; at = q })
      → table_of X ≡ Some t
      → is_in_use (slice_get (slots_of V t) k) ≡ false → slot_number b q k ≡ 0

  pub only_next : (x : Place) (k : ℕ) (y : Place) → OnlyFrom x → Keeps V b x.sort x.at → Names V b x k y → OnlyFrom y
  unfolding OnlyFrom
  only_next x k y only keeps names path X q t j leads = only (k ∷ path) X q t j (keeps, y, names, leads)

  unfoldable pub OnlyAt : Sort → ℕ → Type 0
  OnlyAt s p = OnlyFrom (record { sort = moved_sort v s; at = p })

  -- what is known of a part of the value
  unfoldable pub Knows : Datum → Datum → Type 0
  Knows d d2 = (s : Sort) (q : ℕ) → KnownSort (types_in A) s → OnlyAt s q → Lies V b (moved_sort v s) q d
      → Lies W b (moved_sort w s) q d2

  pub behind_moved : (s : Sort) (p : ℕ) (d d2 : Datum) → KnownSort (types_in A) s → OnlyAt s p → Knows d d2
      → Behind V b (moved_sort v s) p (λ s q. Lies V b s q d) → Behind W b (moved_sort w s) p (λ s q. Lies W b s q d2)
  unfolding Knows OnlyAt
  behind_moved (ref_place X) p d d2 known only knows lies = (
    ways.keeps b (ref_place X) p known lies.0,
    knows (part_place X) (p + num b p 4) known
        (only_next (record { sort = ref_place (moved_target v X); at = p }) 0
        (record { sort = part_place (moved_target v X); at = p + num b p 4 }) only lies.0 refl) lies.1,
  )
  behind_moved (part_place X) p d d2 known only knows lies = knows (part_place X) p known only lies
  behind_moved (inline_place kind) p d d2 known only knows lies = knows (inline_place kind) p known only lies
  behind_moved _ p d d2 known only knows lies = absurd lies

  entry_moved : (s : Sort) (p : ℕ) (d : Datum) → KnownSort (types_in A) s → OnlyAt s p → Knows d (move m d)
      → EntryAt V b (moved_sort v s) p d (λ s q. Lies V b s q d)
      → EntryAt W b (moved_sort w s) p (move m d) (λ s q. Lies W b s q (move m d))
  entry_moved (ref_place X) p d known only knows lies = behind_moved (ref_place X) p d _ known only knows lies
  entry_moved (part_place X) p d known only knows lies = behind_moved (part_place X) p d _ known only knows lies
  entry_moved (inline_place kind) p d known only knows lies =
      behind_moved (inline_place kind) p d _ known only knows lies
  entry_moved (code_place u k required here) p d known only knows lies = absurd lies
  entry_moved (unknown_place c) p d known only knows lies = ap (move m) lies

  code_moved : (s : Sort) (p : ℕ) → KnownSort (types_in A) s → IsCode V b (moved_sort v s) p
      → IsCode W b (moved_sort w s) p
  code_moved (code_place u k required here) p known lies = ways.keeps b (code_place u k required here) p known lies
  code_moved _ p known lies = absurd lies

  absent_moved : (g h : Slot) (x : Option Place) → h.if_absent ≡ g.if_absent
      → ((y : Place) → x ≡ Some y → KnownSort (types_in A) y.sort) → AbsentEntry V b g (MovedPlace v x)
      → AbsentEntry W b h (MovedPlace w x)
  absent_moved g h None same known entry = same ∙ entry
  absent_moved g h (Some y) same known entry = code_moved y.sort y.at (known y refl) entry

  present_moved : (g h : Slot) (x : Option Place) (d : Datum) → h.if_absent ≡ g.if_absent
      → ((y : Place) → x ≡ Some y → KnownSort (types_in A) y.sort) → ((y : Place) → x ≡ Some y → OnlyAt y.sort y.at)
      → Knows d (move m d) → PresentEntry V b g (MovedPlace v x) d (λ s q. Lies V b s q d)
      → PresentEntry W b h (MovedPlace w x) (move m d) (λ s q. Lies W b s q (move m d))
  present_moved g h None d same known only knows entry = (entry.0, same ∙ entry.1, ap (move m) entry.2)
  present_moved g h (Some y) d same known only knows entry =
      entry_moved y.sort y.at d (known y refl) (only y refl) knows entry

  -- a union's value: its code may have no member on one side
  module _ (g h : Slot) (u c q : ℕ) (same : h.if_absent ≡ g.if_absent) where
    abbrev Known : Datum → Datum
    Known d = m.known (one_of (union_kind (w u))) d (move m d)

    number_known : (d : Datum) (n : ℤ) → d ≡ a_number n → Known d ≡ a_number n
    number_known d n e = rw e (ways.number (w u) n (a_number n))

    other_known : (d : Datum) → d ≡ an_unknown c → Known d ≡ an_unknown c
    other_known d e = rw e (ways.other (w u) c (an_unknown c))

    none_present : (d : Datum) → Numbered g.if_absent d → Numbered h.if_absent (Known d)
    none_present d entry = (entry.0, same ∙ entry.1, number_known d entry.0 entry.2)

    not_whole : (d : Datum) → d ≡ an_unknown c → IsWhole d → ⊥
    not_whole d e whole = rw e at whole

    member_lost : (t p : ℕ) (d : Datum) → u < types_in A → member_by_code V (v u) c ≡ Some t
        → member_by_code W (w u) c ≡ None → Lies V b (part_place (member_part c t)) p d → Known d ≡ an_unknown c
    member_lost t p (a_member c2 d) known here there lies =
        rw lies.0 (ways.lost u c t d (move m (a_member c d)) known here there)
    member_lost t p _ known here there lies = absurd lies

    member_stays : (t z p : ℕ) (d : Datum) → member_by_code W (w u) c ≡ Some z
        → Lies V b (part_place (member_part c t)) p d → Known d ≡ move m d
    member_stays t z p (a_member c2 d) there lies = rw lies.0 (ways.stays u c z d (move m (a_member c d)) there)
    member_stays t z p _ there lies = absurd lies

    union_present : (zero_code here : Bool) (o r : Option ℕ) (d : Datum) → u < types_in A
        → member_by_code V (v u) c ≡ o → member_by_code W (w u) c ≡ r → (zero_code ≡ true → c ≡ 0)
        → (needs → IsWhole d) → ((y : Place) → UnionAt zero_code c q here o ≡ Some y → OnlyFrom y)
        → Knows d (move m d) → PresentEntry V b g (UnionAt zero_code c q here o) d (λ s q. Lies V b s q d)
        → PresentEntry W b h (UnionAt zero_code c q here r) (Known d) (λ s q. Lies W b s q (Known d))
    unfolding OnlyAt
    union_present zero_code false o r d known is_here is_there zero_is whole only knows entry =
        rw (empty_union zero_code c q r) (none_present d (rw (empty_union zero_code c q o) at entry))
    union_present true true None None d known is_here is_there zero_is whole only knows entry = none_present d entry
    union_present false true None None d known is_here is_there zero_is whole only knows entry = other_known d entry
    union_present true true None (Some z) d known is_here is_there zero_is whole only knows entry =
        absurd (no_code W (w u) c z (zero_is refl) is_there)
    union_present false true None (Some z) d known is_here is_there zero_is whole only knows entry =
        absurd (not_whole d entry (whole (ways.new u c z known is_here is_there)))
    union_present true true (Some t) None d known is_here is_there zero_is whole only knows entry =
        absurd (no_code V (v u) c t (zero_is refl) is_here)
    union_present false true (Some t) None d known is_here is_there zero_is whole only knows entry =
        member_lost t (q + num b q 4) d known is_here is_there entry.1
    union_present zero_code true (Some t) (Some z) d known is_here is_there zero_is whole only knows entry =
        let both = ways.member u c t z known is_here is_there in
        let below : OnlyFrom (record { sort = ref_place (member_part c (v both.0)); at = q }) =
        rw (← both.2) (only (record { sort = ref_place (member_part c t); at = q }) refl) in
        let lies : Behind V b (ref_place (member_part c (v both.0))) q (λ s q. Lies V b s q d) =
        rw (← both.2) entry in
        let there = behind_moved (ref_place (member_part c both.0)) q d (move m d) both.1 below knows lies in
        rw (member_stays t z (q + num b q 4) d is_there entry.1) (rw both.3 there)

    union_absent : (zero_code here : Bool) (o r : Option ℕ) → member_by_code W (w u) c ≡ r
        → (zero_code ≡ true → c ≡ 0) → g.if_absent ≡ None → AbsentEntry V b g (UnionAt zero_code c q here o)
        → AbsentEntry W b h (UnionAt zero_code c q here r)
    union_absent zero_code false o r is_there zero_is none entry =
        rw (empty_union zero_code c q r) (same ∙ none)
    union_absent true true None None is_there zero_is none entry = same ∙ none
    union_absent true true None (Some z) is_there zero_is none entry =
        absurd (no_code W (w u) c z (zero_is refl) is_there)
    union_absent false true None r is_there zero_is none entry = absurd entry
    union_absent zero_code true (Some t) r is_there zero_is none entry = absurd entry

  -- the entry of a slot that is in use in both
  module _ (p k : ℕ) (g h : Slot) (gs hs : List Slot) (next : next_required hs ≡ next_required gs)
      (same : h.if_absent ≡ g.if_absent) where
    moved_some : (x : Option Place) (y : Place) → x ≡ Some y → MovedPlace v x ≡ Some (moved_place v y)
    moved_some None y e = cc
    moved_some (Some z) y e = let same : z ≡ y = cc in ap (λ x. Some (moved_place v x)) same

    -- what has a default is a number, and names no code's place
    pub none_absent : (s : StoredShape) (o : Option ℤ) → g.if_absent ≡ o
        → ((i : ℤ) → g.if_absent ≡ Some i → (base : Base) × (s ≡ one_of (scalar_kind base)))
        → AbsentEntry V b g (named_slot V b p k gs (moved_shape v s)) → g.if_absent ≡ None
    none_absent s None is number entry = is
    none_absent s (Some i) is number entry =
        let shape = number i is in
        by shape.0 (is_present b p k)
        (rw shape.1 at entry)
      where
        by : (base : Base) (here : Bool)
            → AbsentEntry V b g (cond here
            (Some (record { sort = inline_place (scalar_kind base); at = p + slot_number b p k })) None)
            → g.if_absent ≡ None
        by base true entry = absurd entry
        by base false entry = entry

    pub absent_used : (s : StoredShape) → KnownShape (types_in A) s → g.if_absent ≡ None
        → AbsentEntry V b g (named_slot V b p k gs (moved_shape v s))
        → AbsentEntry W b h (named_slot W b p k hs (moved_shape w s))
    absent_used s known none entry = elim (union_or_plain s) [
      | inl plain ↦ rw (slot_moved A W b w p k gs hs s plain next)
          (absent_moved g h (named_slot A b p k gs s) same (λ y e. place_known A b p k gs s y plain known e)
          (rw (← slot_moved A V b v p k gs gs s plain refl) entry))
      | inr union ↦ of_union union.0 (rw union.1 at entry) union.1
    ]
      where
        of_union : (u : ℕ) → AbsentEntry V b g (named_slot V b p k gs (one_of (union_kind (v u))))
            → s ≡ one_of (union_kind u) → AbsentEntry W b h (named_slot W b p k hs (moved_shape w s))
        of_union u entry is =
            let c = code_at b p (k - 1) in
            rw is (rw (union_is b p k c (member_by_code W (w u) c))
            (union_absent g h u c (p + slot_number b p k) same (c == 0) (is_present b p k)
            (member_by_code V (v u) c) (member_by_code W (w u) c) refl (zero_test c) none
            (rw (← union_is b p k c (member_by_code V (v u) c)) entry)))

    pub present_used : (s : StoredShape) (d : Datum) → KnownShape (types_in A) s → (needs → IsWhole d)
        → ((y : Place) → named_slot V b p k gs (moved_shape v s) ≡ Some y → OnlyFrom y) → Knows d (move m d)
        → PresentEntry V b g (named_slot V b p k gs (moved_shape v s)) d (λ s q. Lies V b s q d)
        → PresentEntry W b h (named_slot W b p k hs (moved_shape w s)) (m.known (moved_shape w s) d (move m d))
        (λ x q. Lies W b x q (m.known (moved_shape w s) d (move m d)))
    unfolding OnlyAt
    present_used s d known whole only knows entry = elim (union_or_plain s) [
      | inl plain ↦
          let place = slot_moved A V b v p k gs gs s plain refl in
          let there = present_moved g h (named_slot A b p k gs s) d same
          (λ y e. place_known A b p k gs s y plain known e)
          (λ y e. only (moved_place v y) (place ∙ moved_some _ y e)) knows
          (rw (← place) entry) in
          rw (ways.plain (moved_shape w s) d (move m d) (union_moved w s ∙ plain))
          (rw (slot_moved A W b w p k gs hs s plain next) there)
      | inr union ↦ of_union union.0 union.1
    ]
      where
        of_union : (u : ℕ) → s ≡ one_of (union_kind u)
            → PresentEntry W b h (named_slot W b p k hs (moved_shape w s)) (m.known (moved_shape w s) d (move m d))
            (λ x q. Lies W b x q (m.known (moved_shape w s) d (move m d)))
        of_union u is =
            let c = code_at b p (k - 1) in
            let here = union_is b p k c (member_by_code V (v u) c) in
            let within : KnownShape (types_in A) (one_of (union_kind u)) = rw is at known in
            let from : PresentEntry V b g (named_slot V b p k gs (one_of (union_kind (v u)))) d
            (λ s q. Lies V b s q d) =
            rw is at entry in
            let below : (y : Place) → named_slot V b p k gs (one_of (union_kind (v u))) ≡ Some y → OnlyFrom y =
            rw is at only in
            rw is (rw (union_is b p k c (member_by_code W (w u) c))
            (union_present g h u c (p + slot_number b p k) same (c == 0) (is_present b p k)
            (member_by_code V (v u) c) (member_by_code W (w u) c) d within refl refl (zero_test c) whole
            (λ y e. below y (here ∙ e)) knows
            (rw (← here) from)))
