-- What lies in bytes also lies where the same bytes stand further on.
use Rattle.std.proofs.Common.{◌≡◌, ℕ, ◌+◌, ◌-◌, ◌*◌, ◌^◌, ◌<◌, ◌≤◌, ◌⊎◌, inl, inr, Bool, true, false, not, ◌&&◌, ◌||◌}
use Rattle.std.proofs.Common.{◌==◌, nat_lt, nat_le, List, [], ◌∷◌, length, drop, map, slice_index, Option, None, Some}
use Rattle.std.proofs.Common.{option_map, refl, ap, sym, ◌∙◌, subst, arith, length-take, length-drop, min, ℤ}
use Rattle.std.proofs.lemmas.List.{ext_get_or, get_or-take, get_or-drop}
use Rattle.std.proofs.lemmas.Bool.{not-true, leb-true, ltb-true, le-leb, lt-ltb, and_parts, and_from, or_cases, or_left}
use Rattle.std.proofs.lemmas.Bool.{or_right, not_from_false}
use Rattle.fb_schema.specs.declared.kinds.Base.{Base}
use Rattle.fb_schema.specs.Alignments.{base_size}
use Rattle.fb_layout.specs.Laid.{LaidSchema, Slot, StoredKind, scalar_kind, struct_kind, slots_of, parts_of, struct_at}
use Rattle.fb_layout.specs.Laid.{size_of, align_of}
use Rattle.fb_value.specs.Datum.{Datum, a_number, a_text, a_vector, a_struct, a_table, a_member, Parts, no_parts}
use Rattle.fb_value.specs.Datum.{more_parts, SlotEntries, no_entries, absent_entry, present_entry}
use Rattle.fb_value.specs.Num.{divides, Bytes, num, part_of, scalar_of}
use Rattle.fb_value.specs.Places.{Target, table_part, member_part, text_part, vector_part, Sort, ref_place, part_place}
use Rattle.fb_value.specs.Places.{inline_place, code_place, unknown_place, Place, vtable, slot_number, named_slots}
use Rattle.fb_value.specs.Places.{target_of}
use Rattle.fb_value.specs.Rules.{Aligned, fault_by, KeepsBy, has_vtable_by}
use Rattle.fb_value.specs.Lies.{LiesInline, LiesParts, BehindBy, IsCodeBy, AbsentEntryBy, EntryBy, PresentEntryBy}
use Rattle.fb_value.specs.Lies.{ElementBy, LiesBy, LiesItemsBy, LiesSlotsBy}
use Rattle.fb_value.specs.EachTable.{EachNamed, EachElement, EachTable, EachItem, EachEntry, EachTableAt}
use Rattle.fb_value.proofs.rules.RulesHoldOneByOne.{rule_held, hold, no_rules}
use Rattle.fb_value.proofs.tails.SameBytesReadTheSameFurtherOn.{moved, still_inside, number_moved, number_from}
use Rattle.fb_value.proofs.tails.SameBytesReadTheSameFurtherOn.{vtable_moved}
use Rattle.fb_value.proofs.tails.SameBytesReadTheSameFurtherOn.{slot_moved, missing_moved, all_named}

six : (a b c d e f : Bool) → (a && b && c && d && e && f) ≡ true
    → (a ≡ true) × (b ≡ true) × (c ≡ true) × (d ≡ true) × (e ≡ true) × (f ≡ true)
six a b c d e f h =
    let h5 = and_parts (a && b && c && d && e) f h in
    let h4 = and_parts (a && b && c && d) e h5.0 in
    let h3 = and_parts (a && b && c) d h4.0 in
    let h2 = and_parts (a && b) c h3.0 in
    let h1 = and_parts a b h2.0 in
    (h1.0, h1.1, h2.1, h3.1, h4.1, h5.1)

pub six_from : (a b c d e f : Bool) → a ≡ true → b ≡ true → c ≡ true → d ≡ true → e ≡ true → f ≡ true
    → (a && b && c && d && e && f) ≡ true
six_from a b c d e f ha hb hc hd he hf =
    and_from _ _ (and_from _ _ (and_from _ _ (and_from _ _ (and_from _ _ ha hb) hc) hd) he) hf

module _ (L : LaidSchema) (al al2 : Aligned) (b c : Bytes) (k : ℕ)
    (long : k + length b ≤ length c)
    (bytes : (i : ℕ) → slice_index c (k + i) ≡ slice_index b i)
    (same : (a p : ℕ) → p ≤ length b → al a p ≡ true → al2 a (k + p) ≡ true) where
  part_moved : (q p n : ℕ) → q ≡ k + p → p + n ≤ length b → part_of c q n ≡ part_of b p n
  part_moved q p n e within =
      ext_get_or 0 (part_of c q n) (part_of b p n) (simp (length-take, length-drop) (omega (arith, long)))
      (λ i below.
      let low : i < n = let is : length (part_of c q n) ≡ min n (length c - q) = simp (length-take, length-drop) refl in
      omega (arith, is) in
      let at : slice_index c (q + i) ≡ slice_index b (p + i) = ap (λ j. slice_index c j) (omega (arith, e))
      ∙ bytes (p + i) in
      get_or-take n (drop q c) i 0 low ∙ get_or-drop q c i 0 ∙ at
      ∙ sym (get_or-take n (drop p b) i 0 low ∙ get_or-drop p b i 0))

  ref_keeps : (X : Target) (p : ℕ) → KeepsBy al L b (ref_place X) p → KeepsBy al2 L c (ref_place X) (k + p)
  unfolding fault_by
  ref_keeps X p h =
      let a = rule_held _ _ _ h in
      let w = rule_held _ _ _ a.1 in
      let z = rule_held _ _ _ w.1 in
      let within : p + 4 ≤ length b = leb-true _ _ w.0 in
      hold _ _ _ (same 4 p (omega (arith, within)) a.0)
      (hold _ _ _ (le-leb _ _ (omega (arith, long, within)))
      (hold _ _ _ (rw (number_moved b c k bytes p 4) z.0) no_rules))

  inline_keeps : (kind : StoredKind) (p : ℕ) → KeepsBy al L b (inline_place kind) p
      → KeepsBy al2 L c (inline_place kind) (k + p)
  unfolding fault_by
  inline_keeps kind p h =
      let a = rule_held _ _ _ h in
      let w = rule_held _ _ _ a.1 in
      let within : p + size_of L kind ≤ length b = leb-true _ _ w.0 in
      hold _ _ _ (same (align_of L kind) p (omega (arith, within)) a.0)
      (hold _ _ _ (le-leb _ _ (omega (arith, long, within))) no_rules)

  code_keeps : (u j : ℕ) (required here : Bool) (p : ℕ) → KeepsBy al L b (code_place u j required here) p
      → KeepsBy al2 L c (code_place u j required here) (k + p)
  unfolding fault_by
  code_keeps u j required here p h =
      let w = rule_held _ _ _ h in
      let within : p + 1 ≤ length b = leb-true _ _ w.0 in
      let r = rule_held _ _ _ w.1 in
      let m = rule_held _ _ _ r.1 in
      hold _ _ _ (le-leb _ _ (omega (arith, long, within)))
      (hold _ _ _ (rw (number_moved b c k bytes p 1) r.0) (hold _ _ _ (rw (number_moved b c k bytes p 1) m.0) no_rules))

  text_keeps : (p : ℕ) → KeepsBy al L b (part_place text_part) p → (p + 4) + num b p 4 ≤ length b
  unfolding fault_by
  text_keeps p h = leb-true _ _ (and_parts _ _ (rule_held _ _ _ (rule_held _ _ _ h).1).0).1

  text_kept : (p : ℕ) → KeepsBy al L b (part_place text_part) p → KeepsBy al2 L c (part_place text_part) (k + p)
  unfolding fault_by
  text_kept p h =
      let a = rule_held _ _ _ h in
      let w = rule_held _ _ _ a.1 in
      let ws = and_parts _ _ w.0 in
      let z = rule_held _ _ _ w.1 in
      let zs = and_parts _ _ z.0 in
      let u = rule_held _ _ _ z.1 in
      let within : p + 4 ≤ length b = leb-true _ _ ws.0 in
      let whole : (p + 4) + num b p 4 ≤ length b = leb-true _ _ ws.1 in
      let short : (p + 4) + num b p 4 < length b = ltb-true _ _ zs.0 in
      let last : slice_index c (((k + p) + 4) + num b p 4) ≡ slice_index b ((p + 4) + num b p 4) =
      ap (λ i. slice_index c i) (omega arith) ∙ bytes ((p + 4) + num b p 4) in
      let all : part_of c ((k + p) + 4) (num b p 4) ≡ part_of b (p + 4) (num b p 4) =
      part_moved ((k + p) + 4) (p + 4) (num b p 4) (omega arith) whole in
      let within2 : (k + p) + 4 ≤ length c = omega (arith, long, within) in
      let whole2 : ((k + p) + 4) + num b p 4 ≤ length c = omega (arith, long, whole) in
      let short2 : ((k + p) + 4) + num b p 4 < length c = omega (arith, long, short) in
      rw (number_moved b c k bytes p 4)
      (hold _ _ _ (same 4 p (omega (arith, within)) a.0)
      (hold _ _ _ (and_from _ _ (le-leb _ _ within2) (le-leb _ _ whole2))
      (hold _ _ _ (and_from _ _ (lt-ltb _ _ short2) (rw last zs.1))
      (hold _ _ _ (rw all u.0) no_rules))))

  start_kept : (kind : StoredKind) (n q p : ℕ) → q ≡ k + p → p ≤ length b
      → (nat_lt (length b) p || (n == 0) || al (align_of L kind) p) ≡ true
      → (nat_lt (length c) q || (n == 0) || al2 (align_of L kind) q) ≡ true
  start_kept kind n q p e within h = by_first (or_cases _ _ h)
    where
      by_rest : (nat_lt (length b) p ≡ true) ⊎ ((n == 0) ≡ true) → (nat_lt (length c) q || (n == 0)) ≡ true
      by_rest (inl past) = absurd (omega (arith, within, ltb-true _ _ past))
      by_rest (inr is) = or_right _ _ is

      by_first : ((nat_lt (length b) p || (n == 0)) ≡ true) ⊎ (al (align_of L kind) p ≡ true)
          → (nat_lt (length c) q || (n == 0) || al2 (align_of L kind) q) ≡ true
      by_first (inl is) = or_left _ _ (by_rest (or_cases _ _ is))
      by_first (inr is) = or_right _ _
          (rw (← e) at (same (align_of L kind) p within is))

  vector_kept : (kind : StoredKind) (p : ℕ) → KeepsBy al L b (part_place (vector_part kind)) p
      → KeepsBy al2 L c (part_place (vector_part kind)) (k + p)
  unfolding fault_by
  vector_kept kind p h =
      let a = rule_held _ _ _ h in
      let parts = and_parts _ _ a.0 in
      let w = rule_held _ _ _ a.1 in
      let ws = and_parts _ _ w.0 in
      let within : p + 4 ≤ length b = leb-true _ _ ws.0 in
      let whole : (p + 4) + num b p 4 * size_of L kind ≤ length b = leb-true _ _ ws.1 in
      let within2 : (k + p) + 4 ≤ length c = omega (arith, long, within) in
      let whole2 : ((k + p) + 4) + num b p 4 * size_of L kind ≤ length c = omega (arith, long, whole) in
      rw (number_moved b c k bytes p 4)
      (hold _ _ _ (and_from _ _ (same 4 p (omega (arith, within)) parts.0)
      (start_kept kind (num b p 4) ((k + p) + 4) (p + 4) (omega arith) within parts.1))
      (hold _ _ _ (and_from _ _ (le-leb _ _ within2) (le-leb _ _ whole2)) no_rules))

  -- what a table's rules say of its vtable
  table_low : (t p : ℕ) → KeepsBy al L b (part_place (table_part t)) p
      → (nat_lt (num b p 4) (2 ^ 31) && nat_lt p (num b p 4)) ≡ false
  unfolding fault_by
  table_low t p h =
      let v = (rule_held _ _ _ (rule_held _ _ _ (rule_held _ _ _ h).1).1).0 in
      not-true _ (and_parts _ _ (and_parts _ _ (and_parts _ _ (and_parts _ _ (and_parts _ _ v).0).0).0).0).0

  table_slots : (t p : ℕ) → KeepsBy al L b (part_place (table_part t)) p → (j : ℕ)
      → slot_number c (k + p) j ≡ slot_number b p j
  table_slots t p h j = slot_moved b c k bytes p j (vtable_moved b c k bytes p (table_low t p h))

  size_kept : (q n : ℕ) → (q + n ≤ length b) → nat_le ((k + q) + n) (length c) ≡ true
  size_kept q n h = le-leb _ _ (omega (arith, long, h))

  good_moved : (p : ℕ) → has_vtable_by al b p ≡ true → has_vtable_by al2 c (k + p) ≡ true
  good_moved p h =
      let s = num b p 4 in
      let q = vtable b p in
      let n = num b q 2 in
      let parts = six (not (nat_lt s (2 ^ 31) && nat_lt p s)) (al 2 q) (nat_le (q + 2) (length b)) (divides 2 n)
      (nat_le 4 n) (nat_le (q + n) (length b)) h in
      let low = not-true (nat_lt s (2 ^ 31) && nat_lt p s) parts.0 in
      let v : vtable c (k + p) ≡ k + q = vtable_moved b c k bytes p low in
      let number : num c (k + p) 4 ≡ s = number_moved b c k bytes p 4 in
      let size : num c (vtable c (k + p)) 2 ≡ n = number_from b c k bytes (vtable c (k + p)) q 2 v in
      let start : q + 2 ≤ length b = leb-true (q + 2) (length b) parts.2 in
      let end : q + n ≤ length b = leb-true (q + n) (length b) parts.5 in
      let first : not (nat_lt (num c (k + p) 4) (2 ^ 31) && nat_lt (k + p) (num c (k + p) 4)) ≡ true =
      rw number (not_from_false _ (still_inside (nat_lt s (2 ^ 31)) s p k low)) in
      let even : al2 2 (vtable c (k + p)) ≡ true = rw v (same 2 q (omega (arith, start)) parts.1) in
      let start2 : nat_le (vtable c (k + p) + 2) (length c) ≡ true = rw v (size_kept q 2 start) in
      let even2 : divides 2 (num c (vtable c (k + p)) 2) ≡ true = rw size parts.3 in
      let four : nat_le 4 (num c (vtable c (k + p)) 2) ≡ true = rw size parts.4 in
      let end2 : nat_le (vtable c (k + p) + num c (vtable c (k + p)) 2) (length c) ≡ true =
      rw (size, v) (size_kept q n end) in
      six_from _ _ _ _ _ _ first even start2 even2 four end2

  table_kept : (t p : ℕ) → KeepsBy al L b (part_place (table_part t)) p
      → KeepsBy al2 L c (part_place (table_part t)) (k + p)
  unfolding fault_by
  table_kept t p h =
      let a = rule_held _ _ _ h in
      let w = rule_held _ _ _ a.1 in
      let within : p + 4 ≤ length b = leb-true _ _ w.0 in
      let good = rule_held _ _ _ w.1 in
      let missing = rule_held _ _ _ good.1 in
      hold _ _ _ (same 4 p (omega (arith, within)) a.0)
      (hold _ _ _ (size_kept p 4 within)
      (hold _ _ _ (good_moved p good.0)
      (hold _ _ _ (rw (missing_moved b c k bytes L p (table_slots t p h) 0 (slots_of L t)) missing.0) no_rules)))

  number_lies : (base : Base) (p : ℕ) (n : ℤ) → n ≡ scalar_of base (num b p (base_size base))
      → n ≡ scalar_of base (num c (k + p) (base_size base))
  number_lies base p n h = h ∙ ap (scalar_of base) (sym (number_moved b c k bytes p (base_size base)))

  mutual
    pub inline_lies : (kind : StoredKind) (p : ℕ) (d : Datum) → LiesInline L b kind p d → LiesInline L c kind (k + p) d
    inline_lies (scalar_kind base) p (a_number n) h = number_lies base p n h
    inline_lies (struct_kind s) p (a_struct ds) h = fields_lie (parts_of L s) (struct_at L s).offsets p ds h
    inline_lies _ p _ h = absurd h

    fields_lie : (ks : List StoredKind) (os : List ℕ) (p : ℕ) (ds : Parts) → LiesParts L b ks os p ds
        → LiesParts L c ks os (k + p) ds
    fields_lie (kd ∷ ks) (o ∷ os) p (more_parts d ds) h = (
      subst (λ (q : ℕ). LiesInline L c kd q d) (omega arith) (inline_lies kd (p + o) d h.0),
      fields_lie ks os p ds h.1,
    )
    fields_lie [] os p no_parts h = tt
    fields_lie _ _ p _ h = absurd h

  Known : Datum → Type 0
  Known d = (s : Sort) (q : ℕ) → LiesBy al L b s q d → LiesBy al2 L c s (k + q) d

  behind_lies : (s : Sort) (p : ℕ) (d : Datum) → Known d → BehindBy al L b s p (λ s q. LiesBy al L b s q d)
      → BehindBy al2 L c s (k + p) (λ s q. LiesBy al2 L c s q d)
  unfolding Known
  behind_lies (ref_place X) p d known h =
      let at : k + (p + num b p 4) ≡ (k + p) + num c (k + p) 4 = omega (arith, number_moved b c k bytes p 4) in (
        ref_keeps X p h.0,
        rw (← at) (known (part_place X) (p + num b p 4) h.1),
      )
  behind_lies (part_place X) p d known h = known (part_place X) p h
  behind_lies (inline_place kind) p d known h = known (inline_place kind) p h
  behind_lies _ p d known h = absurd h

  element_lies : (kind : StoredKind) (p : ℕ) (X : Option Target) (d : Datum) → Known d
      → ElementBy al L b kind p X d (λ s q. LiesBy al L b s q d)
      → ElementBy al2 L c kind (k + p) X d (λ s q. LiesBy al2 L c s q d)
  element_lies kind p None d known h = inline_lies kind p d h
  element_lies kind p (Some X) d known h = behind_lies (ref_place X) p d known h

  absent_lies : (f : Slot) (x : Option Place) → AbsentEntryBy al L b f x
      → AbsentEntryBy al2 L c f (option_map (moved k) x)
  absent_lies f None h = h
  absent_lies f (Some x) h = code_lies x.sort x.at h
    where
      code_lies : (s : Sort) (p : ℕ) → IsCodeBy al L b s p → IsCodeBy al2 L c s (k + p)
      code_lies (code_place u j required here) p h = code_keeps u j required here p h
      code_lies (ref_place X) p h = absurd h
      code_lies (part_place X) p h = absurd h
      code_lies (inline_place kind) p h = absurd h
      code_lies (unknown_place e) p h = absurd h

  entry_lies : (s : Sort) (p : ℕ) (d : Datum) → Known d → EntryBy al L b s p d (λ s q. LiesBy al L b s q d)
      → EntryBy al2 L c s (k + p) d (λ s q. LiesBy al2 L c s q d)
  entry_lies (unknown_place e) p d known h = h
  entry_lies (ref_place X) p d known h = behind_lies (ref_place X) p d known h
  entry_lies (part_place X) p d known h = behind_lies (part_place X) p d known h
  entry_lies (inline_place kind) p d known h = behind_lies (inline_place kind) p d known h
  entry_lies (code_place u j required here) p d known h = absurd h

  present_lies : (f : Slot) (x : Option Place) (d : Datum) → Known d
      → PresentEntryBy al L b f x d (λ s q. LiesBy al L b s q d)
      → PresentEntryBy al2 L c f (option_map (moved k) x) d (λ s q. LiesBy al2 L c s q d)
  present_lies f None d known h = h
  present_lies f (Some x) d known h = entry_lies x.sort x.at d known h

  mutual
    unfolding Known

    pub lies_moved : (s : Sort) (p : ℕ) (d : Datum) → LiesBy al L b s p d → LiesBy al2 L c s (k + p) d
    lies_moved (inline_place kind) p d h = (inline_keeps kind p h.0, inline_lies kind p d h.1)
    lies_moved (part_place text_part) p (a_text bs) h =
        let all : part_of c ((k + p) + 4) (num b p 4) ≡ part_of b (p + 4) (num b p 4) =
        part_moved ((k + p) + 4) (p + 4) (num b p 4) (omega arith) (text_keeps p h.0) in
        (text_kept p h.0, rw (number_moved b c k bytes p 4, all) h.1)
    lies_moved (part_place (vector_part kind)) p (a_vector ds) h =
        let at : k + (p + 4) ≡ (k + p) + 4 = omega arith in (
          vector_kept kind p h.0,
          rw (number_moved b c k bytes p 4) h.1,
          rw (← at) (items_lie kind (p + 4) ds h.2),
        )
    lies_moved (part_place (table_part t)) p (a_table type ss) h =
        let xs = named_slots L b p 0 (slots_of L t) in (
          table_kept t p h.0,
          h.1,
          rw (all_named b c k bytes L p (table_slots t p h.0) 0 (slots_of L t))
              (slots_lie (slots_of L t) xs ss h.2),
        )
    lies_moved (part_place (member_part e t)) p (a_member e2 d) h =
        (h.0, lies_moved (part_place (table_part t)) p d h.1)
    lies_moved _ p _ h = absurd h

    pub items_lie : (kind : StoredKind) (p : ℕ) (ds : Parts) → LiesItemsBy al L b kind p ds
        → LiesItemsBy al2 L c kind (k + p) ds
    items_lie kind p no_parts h = tt
    items_lie kind p (more_parts d ds) h =
        let at : k + (p + size_of L kind) ≡ (k + p) + size_of L kind = omega arith in (
          element_lies kind p (target_of kind) d (λ s q is. lies_moved s q d is) h.0,
          rw (← at) (items_lie kind (p + size_of L kind) ds h.1),
        )

    slots_lie : (fs : List Slot) (xs : List (Option Place)) (ss : SlotEntries) → LiesSlotsBy al L b fs xs ss
        → LiesSlotsBy al2 L c fs (map (option_map (moved k)) xs) ss
    slots_lie [] [] no_entries h = tt
    slots_lie (f ∷ fs) (x ∷ xs) (absent_entry ss) h = (absent_lies f x h.0, slots_lie fs xs ss h.1)
    slots_lie (f ∷ fs) (x ∷ xs) (present_entry d ss) h =
        (present_lies f x d (λ s q is. lies_moved s q d is) h.0, slots_lie fs xs ss h.1)
    slots_lie _ _ _ h = absurd h

  pub at_moved : (s : Sort) (p : ℕ) (d : Datum) → BehindBy al L b s p (λ s q. LiesBy al L b s q d)
      → BehindBy al2 L c s (k + p) (λ s q. LiesBy al2 L c s q d)
  unfolding Known
  at_moved s p d h = behind_lies s p d (λ s q is. lies_moved s q d is) h

  -- ---- what holds of each table

  -- P of a table at its position gives Q of it further on
  module _ (P Q : ℕ → ℕ → Type 0) (step : (t p : ℕ) → ((j : ℕ) → slot_number c (k + p) j ≡ slot_number b p j) → P t p
      → Q t (k + p)) where
    EachKnown : Datum → Type 0
    EachKnown d = (s : Sort) (q : ℕ) → LiesBy al L b s q d → EachTable L b P s q d → EachTable L c Q s (k + q) d

    each_behind : (s : Sort) (p : ℕ) (d : Datum) → EachKnown d → BehindBy al L b s p (λ s q. LiesBy al L b s q d)
        → EachTableAt L b P s p d → EachTableAt L c Q s (k + p) d
    unfolding EachKnown
    each_behind (ref_place X) p d known lies each =
        let at : k + (p + num b p 4) ≡ (k + p) + num c (k + p) 4 = omega (arith, number_moved b c k bytes p 4) in
        rw (← at) (known (part_place X) (p + num b p 4) lies.1 each)
    each_behind (part_place X) p d known lies each = known (part_place X) p lies each
    each_behind _ p d known lies each = tt

    each_entry : (s : Sort) (p : ℕ) (d : Datum) → EachKnown d → EntryBy al L b s p d (λ s q. LiesBy al L b s q d)
        → EachTableAt L b P s p d → EachTableAt L c Q s (k + p) d
    each_entry (ref_place X) p d known lies each = each_behind (ref_place X) p d known lies each
    each_entry (part_place X) p d known lies each = each_behind (part_place X) p d known lies each
    each_entry _ p d known lies each = tt

    each_named : (f : Slot) (x : Option Place) (d : Datum) → EachKnown d
        → PresentEntryBy al L b f x d (λ s q. LiesBy al L b s q d) → EachNamed b x (λ s q. EachTable L b P s q d)
        → EachNamed c (option_map (moved k) x) (λ s q. EachTable L c Q s q d)
    each_named f None d known lies each = tt
    each_named f (Some x) d known lies each = each_entry x.sort x.at d known lies each

    each_element : (kind : StoredKind) (p : ℕ) (X : Option Target) (d : Datum) → EachKnown d
        → ElementBy al L b kind p X d (λ s q. LiesBy al L b s q d) → EachElement b X p (λ s q. EachTable L b P s q d)
        → EachElement c X (k + p) (λ s q. EachTable L c Q s q d)
    each_element kind p None d known lies each = tt
    each_element kind p (Some X) d known lies each = each_behind (ref_place X) p d known lies each

    mutual
      unfolding EachKnown

      each_moved : (s : Sort) (p : ℕ) (d : Datum) → LiesBy al L b s p d → EachTable L b P s p d
          → EachTable L c Q s (k + p) d
      each_moved (inline_place kind) p d lies each = tt
      each_moved (part_place text_part) p (a_text bs) lies each = tt
      each_moved (part_place (vector_part kind)) p (a_vector ds) lies each =
          let at : k + (p + 4) ≡ (k + p) + 4 = omega arith in
          rw (← at) (each_items kind (p + 4) ds lies.2 each)
      each_moved (part_place (table_part t)) p (a_table type ss) lies each =
          let xs = named_slots L b p 0 (slots_of L t) in
          let slots = table_slots t p lies.0 in (
            step t p slots each.0,
            rw (all_named b c k bytes L p slots 0 (slots_of L t))
                (each_slots (slots_of L t) xs ss lies.2 each.1),
          )
      each_moved (part_place (member_part e t)) p (a_member e2 d) lies each =
          each_moved (part_place (table_part t)) p d lies.1 each
      each_moved _ p _ lies each = absurd lies

      pub each_items : (kind : StoredKind) (p : ℕ) (ds : Parts) → LiesItemsBy al L b kind p ds
          → EachItem L b P kind p ds → EachItem L c Q kind (k + p) ds
      each_items kind p no_parts lies each = tt
      each_items kind p (more_parts d ds) lies each =
          let at : k + (p + size_of L kind) ≡ (k + p) + size_of L kind = omega arith in (
            each_element kind p (target_of kind) d (λ s q is each. each_moved s q d is each) lies.0 each.0,
            rw (← at) (each_items kind (p + size_of L kind) ds lies.1 each.1),
          )

      each_slots : (fs : List Slot) (xs : List (Option Place)) (ss : SlotEntries) → LiesSlotsBy al L b fs xs ss
          → EachEntry L b P xs ss → EachEntry L c Q (map (option_map (moved k)) xs) ss
      each_slots [] [] no_entries lies each = tt
      each_slots (f ∷ fs) (x ∷ xs) (absent_entry ss) lies each = each_slots fs xs ss lies.1 each
      each_slots (f ∷ fs) (x ∷ xs) (present_entry d ss) lies each =
          (each_named f x d (λ s q is each. each_moved s q d is each) lies.0 each.0, each_slots fs xs ss lies.1 each.1)
      each_slots _ _ _ lies each = absurd lies

    pub each_at_moved : (s : Sort) (p : ℕ) (d : Datum) → BehindBy al L b s p (λ s q. LiesBy al L b s q d)
        → EachTableAt L b P s p d → EachTableAt L c Q s (k + p) d
    unfolding EachKnown
    each_at_moved s p d lies each = each_behind s p d (λ s q is each. each_moved s q d is each) lies each
