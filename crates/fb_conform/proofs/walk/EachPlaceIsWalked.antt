-- The walk over the header, over a type and over a slot.
use Rattle.std.proofs.Common.{◌≡◌, ◌≢◌, ℕ, zero, suc, ◌+◌, ◌<◌, ◌≤◌, inl, inr, List, [], length, map, Option, None}
use Rattle.std.proofs.Common.{Some}
use Rattle.std.proofs.Common.{◌⊎◌, Bool, true, IsTrue, ◌↔◌, Result, refl, sym, ap, ◌∙◌, arith}
use Rattle.std.specs.Bool.{⊤}
use Rattle.std.proofs.lemmas.Bool.{cases_lt}
use Rattle.std.proofs.lemmas.List.{length-map}
use Rattle.std.proofs.lemmas.Option.{slice_get_past}
use Rattle.fb_schema.specs.Schema.{DeclaredField, DeclaredSchema, body_at, slots_in}
use Rattle.fb_schema.specs.Seen.{field_seen, type_seen}
use Rattle.fb_schema.specs.declared.types.FieldInfo.{FieldInfo}
use Rattle.fb_schema.specs.declared.types.TypeInfo.{TypeInfo}
use Rattle.fb_layout.specs.Laid.{LaidSchema}
use Rattle.fb_conform.specs.declared.breaches.Breach.{Breach}
use Rattle.fb_conform.specs.declared.breaches.Breach.TheVariants.{RootChanged, IdentifierChanged, TypeGone}
use Rattle.fb_conform.specs.declared.breaches.Breach.TheVariants.{FieldTypeChanged, DefaultChanged, RequiredChanged}
use Rattle.fb_conform.specs.declared.breaches.Breach.TheVariants.{DeprecatedTakenBack}
use Rattle.fb_conform.specs.BreachTable.{number_of, slot_of}
use Rattle.fb_conform.specs.ByName.{SameShape}
use Rattle.fb_conform.specs.Conforms.{SameDefault, is_required, Kept}
use Rattle.fb_conform.specs.declared.difference.Difference.{Difference}
use Rattle.fb_conform.specs.declared.difference.Difference.TheVariants.{Breach as Broken, Moved}
use Rattle.fb_conform.specs.declared.names.MovedName.{MovedName}
use Rattle.fb_conform.specs.Listed.{MayMiss, Lists, Walks, part, place, number, IsBelow, IsAhead, IsUpTo, IsAny}
use Rattle.fb_conform.specs.Listed.{IsOfTypesBelow, IsOfSlotsBelow, IsOfNamesBelow}
use Rattle.fb_conform.specs.Names.{IsMoved}
use Rattle.fb_conform.specs.Order.{type_place, slot_place}
use Rattle.fb_conform.specs.Twins.{twin, Twins, SlotTwins, TableTwins, TableSlot}
use Rattle.fb_conform.proofs.twins.TypesAreFoundByTheirNames.{twin_declared}
use Rattle.fb_conform.proofs.walk.EachBreachHasItsPlace.{id, place as slot_number, numbered, header}
use Rattle.fb_conform.proofs.walk.DifferencesAreReportedInOrder.{moved_at, same_name, breach_in, name_at, more}
use Rattle.fb_conform.proofs.walk.DifferencesAreReportedInOrder.{numbers_passed, place_passed, part_passed}
use Rattle.fb_conform.proofs.walk.DifferencesAreReportedInOrder.{walked_on, one_walked}
use Rattle.fb_conform.proofs.walk.OtherBreachesAreKept.{own_number, IsOther, not_tables, untwinned, body_kept, no_slots}
use Rattle.fb_conform.proofs.walk.OtherBreachesAreKept.{slot_kept, tables_own, pair_decides}

module _ (A B : LaidSchema) (wants : Difference → Bool) where
  -- nothing is ahead of the root
  pub root_start : (xs : List Difference) → xs ≡ [] → Lists A B wants (IsAhead (Broken RootChanged)) xs
  root_start xs none = rw none (record {
    among = λ d there. absurd (omega (arith, there.1));
    differs = λ d there. absurd (omega (arith, there.1));
    all = λ d ahead. absurd (first d ahead);
    order = λ i j d less within. absurd (omega (arith, within));
  })
    where
      first : (d : Difference) → IsAhead (Broken RootChanged) d → ⊥
      first (Broken r) ahead = grind (arith, ahead, numbered r)
      first (Moved m) ahead = grind (arith, ahead)

  -- nothing more is in no type
  pub header_end : (xs : List Difference) → Lists A B wants (IsUpTo (Broken IdentifierChanged)) xs
      → Lists A B wants (IsOfTypesBelow 0) xs
  header_end xs =
      more A B wants (IsUpTo (Broken IdentifierChanged)) (IsOfTypesBelow 0) xs (λ d upto. grind (arith, upto))
      (λ d below. inl (at d below))
    where
      at : (d : Difference) → IsOfTypesBelow 0 d → IsUpTo (Broken IdentifierChanged) d
      at (Broken r) below = grind (arith, below, header r)
      at (Moved m) below = grind (arith, below)

  -- past the last type nothing differs
  pub types_end : (n : ℕ) (xs : List Difference) (S : DeclaredSchema) (types : List TypeInfo)
      → map type_seen types ≡ S.types → S ≡ A.schema → length types ≤ n → Lists A B wants (IsOfTypesBelow n) xs
      → Lists A B wants IsAny xs
  types_end n xs S types seen same few =
      let past : length A.schema.types ≤ n = rw (← same, ← seen) (simp length-map few) in
      more A B wants (IsOfTypesBelow n) IsAny xs (λ d below. tt) (λ d any. by past d)
    where
      kept : length A.schema.types ≤ n → (r : Breach) (t : ℕ) → type_place r ≡ t → n + 1 ≤ t → Kept A B r
      kept past r zero type not = absurd (omega arith)
      kept past r (suc t) type not =
          untwinned A B t (λ u twins. omega (arith, past, not, twin_declared A.schema B.schema t u twins)) r
          (type ∙ omega arith) (λ same known. absurd (omega (arith, past, not, known)))

      by : length A.schema.types ≤ n → (d : Difference) → IsOfTypesBelow n d ⊎ MayMiss A B wants d
      by past (Broken r) = elim (cases_lt (type_place r) (n + 1)) [
        | inl less ↦ inl (inl (omega (arith, less)))
        | inr not ↦ inr (λ wanted. kept past r (type_place r) refl (omega (arith, not)))
      ]
      by past (Moved m) = elim (cases_lt m.type_id.0 n) [
        | inl less ↦ inl (inl (omega (arith, less)))
        | inr not ↦ inr (λ wanted moved.
            let known = twin_declared A.schema B.schema m.type_id.0 moved.type moved.twins in
            omega (arith, past, not, known))
      ]

  -- past the breaches of a type of which none stands from a place on
  breaches_passed : (t k : ℕ) (xs : List Difference)
      → ((r : Breach) → type_place r ≡ t + 1 → k ≤ slot_place r → Kept A B r)
      → Lists A B wants (IsBelow (t + t + 2) k 0) xs → Lists A B wants (IsOfNamesBelow t 0) xs
  breaches_passed t k xs kept =
      part_passed A B wants (t + t + 2) (t + t + 3) k xs (omega arith)
      (λ d at later. breach_in (λ e. k ≤ place e → MayMiss A B wants e) t (λ r type past wanted. kept r type past)
      d at later)

  -- what may be left out of a slot
  slot_missed : (t k : ℕ) (o p : Option DeclaredField) → TableSlot A.schema B.schema t k o p → (d : Difference)
      → part d ≡ t + t + 2 → place d ≡ k + 1 → IsOther o p (number d) → MayMiss A B wants d
  slot_missed t k o p slot d at =
      breach_in (λ e. place e ≡ k + 1 → IsOther o p (number e) → MayMiss A B wants e) t
      (λ r type there other wanted. slot_kept A B t k o p slot r type there other) d at

  -- ---- names

  -- past the names of a type of which none is moved from a place on, or wanted
  pub names_passed : (t k : ℕ) (xs : List Difference)
      → ((m : MovedName) → m.type_id.0 ≡ t → k ≤ m.slot → MayMiss A B wants (Moved m))
      → Lists A B wants (IsOfNamesBelow t k) xs → Lists A B wants (IsOfTypesBelow (t + 1)) xs
  names_passed t k xs miss =
      part_passed A B wants (t + t + 3) (t + 1 + (t + 1) + 2) k xs (omega arith)
      (λ d at later. name_at (λ e. k ≤ place e → MayMiss A B wants e) t miss d at later)

  -- one place in which a name isn't moved
  pub name_passed : (t k : ℕ) (xs : List Difference) → (IsMoved A B (moved_at t k) → ⊥)
      → Lists A B wants (IsOfNamesBelow t k) xs → Lists A B wants (IsOfNamesBelow t (k + 1)) xs
  name_passed t k xs kept =
      place_passed A B wants (t + t + 3) k 0 xs
      (λ d at there low. name_at (λ e. place e ≡ k → MayMiss A B wants e) t
      (λ m type slot wanted. rw (same_name m (moved_at t k) type slot) kept) d at there)

  module _ {E : Type 0} (stops : List Difference → Difference → E → Type 0) (t : ℕ) (xs ys : List Difference)
      (result : Result ⊤ E) where
    -- one in which it is
    pub name_walked : (k : ℕ) → Lists A B wants (IsOfNamesBelow t k) xs
        → (Lists A B wants (IsAhead (Moved (moved_at t k))) xs
        → Walks A B wants stops (IsUpTo (Moved (moved_at t k))) ys result)
        → Walks A B wants stops (IsOfNamesBelow t (k + 1)) ys result
    name_walked k =
        one_walked A B wants stops (Moved (moved_at t k)) xs ys result
        (λ e at there other. name_at (λ d. ¬ (number d ≡ 0) → MayMiss A B wants d) t
        (λ m type not. absurd (not refl)) e at other)

    -- ---- breaches

    -- past a place of a type at which one breach alone may be
    breach_walked : (k : ℕ) (b : Breach) → type_place b ≡ t + 1 → slot_place b ≡ k
        → ((r : Breach) → type_place r ≡ t + 1 → slot_place r ≡ k → number_of r ≢ number_of b → Kept A B r)
        → Lists A B wants (IsBelow (t + t + 2) k 0) xs
        → (Lists A B wants (IsAhead (Broken b)) xs → Walks A B wants stops (IsUpTo (Broken b)) ys result)
        → Walks A B wants stops (IsBelow (t + t + 2) (k + 1) 0) ys result
    breach_walked k b type slot others before walks =
        let here : type_place b + type_place b ≡ t + t + 2 = omega (arith, type) in
        rw (← here, ← slot) (one_walked A B wants stops (Broken b) xs ys result
        (λ e at there other. breach_in (λ d. place d ≡ slot_place b → number d ≢ number_of b → MayMiss A B wants d) t
        (λ r in_type at_slot not wanted. others r in_type (at_slot ∙ slot) not) e (at ∙ here) there other)
        (rw (here, slot) before) walks)

    -- a type that is gone
    pub gone_walked : twin A.schema B.schema t ≡ None → Lists A B wants (IsOfTypesBelow t) xs
        → (Lists A B wants (IsAhead (Broken (TypeGone (id t)))) xs
        → Walks A B wants stops (IsUpTo (Broken (TypeGone (id t)))) ys result)
        → Walks A B wants stops (IsOfTypesBelow (t + 1)) ys result
    gone_walked gone before walks =
        let never : (u : ℕ) → Twins A.schema B.schema t u → ⊥ =
        λ u twins. let bad : None ≡ Some u = sym gone ∙ twins in cc in
        walked_on A B wants stops (IsBelow (t + t + 2) 1 0) (IsOfTypesBelow (t + 1)) ys result
        (λ listed. names_passed t 0 ys
        (λ m type later wanted moved. never moved.type (rw (← type) moved.twins))
        (breaches_passed t 1 ys (λ r type past. untwinned A B t never r type
        (λ same. absurd (omega (arith, past, ap slot_place same)))) listed))
        (breach_walked 0 (TypeGone (id t)) refl refl
        (λ r type slot other. untwinned A B t never r type (λ same. absurd (other (ap number_of same)))) before walks)

    -- two types that aren't both tables
    pub body_walked : (u : ℕ) → Twins A.schema B.schema t u → (b : Breach) → type_place b ≡ t + 1 → slot_place b ≡ 0
        → 92 < number_of b → own_number (body_at A.schema t) (body_at B.schema u) ≡ number_of b
        → Lists A B wants (IsOfTypesBelow t) xs
        → (Lists A B wants (IsAhead (Broken b)) xs → Walks A B wants stops (IsUpTo (Broken b)) ys result)
        → Walks A B wants stops (IsOfNamesBelow t 0) ys result
    body_walked u twins b type slot more own before walks =
        walked_on A B wants stops (IsBelow (t + t + 2) 1 0) (IsOfNamesBelow t 0) ys result
        (breaches_passed t 1 ys (no_slots A B t u twins
        (not_tables (body_at A.schema t) (body_at B.schema u) (omega (arith, more, own)))))
        (breach_walked 0 b type slot
        (λ r at there other. body_kept A B t u twins r at there (λ same. other (same ∙ own))) before walks)

    -- a slot of which one breach alone may stand
    pub slot_walked : (k : ℕ) (o p : Option DeclaredField) → TableSlot A.schema B.schema t k o p → (b : Breach)
        → type_place b ≡ t + 1 → slot_place b ≡ k + 1 → ((n : ℕ) → n ≢ number_of b → IsOther o p n)
        → Lists A B wants (IsOfSlotsBelow t k) xs
        → (Lists A B wants (IsAhead (Broken b)) xs → Walks A B wants stops (IsUpTo (Broken b)) ys result)
        → Walks A B wants stops (IsOfSlotsBelow t (k + 1)) ys result
    slot_walked k o p slot b type place others =
        breach_walked (k + 1) b type place
        (λ r at there other. slot_kept A B t k o p slot r at there (others (number_of r) other))

  -- two fields in one slot
  module _ {t k : ℕ} {f g : DeclaredField} (slot : TableSlot A.schema B.schema t k (Some f) (Some g)) where
    -- what a test of the two says of a breach
    decides : {kept : Bool} (P : DeclaredField → DeclaredField → Type 0) → IsTrue kept ↔ P f g
        → IsTrue kept ↔ ((a b : DeclaredField) → SlotTwins A.schema B.schema t k a b → P a b)
    decides {kept} P =
        pair_decides A B t k kept P f g
        (record { type = slot.type; twins = slot.tables.twins; old = slot.old; new = slot.new })

    pub shape_decides : {kept : Bool} → IsTrue kept ↔ SameShape A.schema B.schema f.shape g.shape
        → IsTrue kept ↔ Kept A B (FieldTypeChanged (id t) k)
    shape_decides = decides (λ a b. SameShape A.schema B.schema a.shape b.shape)

    pub default_decides : {kept : Bool} → IsTrue kept ↔ SameDefault f g
        → IsTrue kept ↔ Kept A B (DefaultChanged (id t) k)
    default_decides = decides (λ a b. SameDefault a b)

    pub required_decides : {kept : Bool} → IsTrue kept ↔ (is_required g ≡ is_required f)
        → IsTrue kept ↔ Kept A B (RequiredChanged (id t) k)
    required_decides = decides (λ a b. is_required b ≡ is_required a)

    pub deprecated_decides : {kept : Bool} → IsTrue kept ↔ (f.deprecated ≡ true → g.deprecated ≡ true)
        → IsTrue kept ↔ Kept A B (DeprecatedTakenBack (id t) k)
    deprecated_decides = decides (λ a b. a.deprecated ≡ true → b.deprecated ≡ true)

    -- from the slot to their first breach, and from the last on
    pub fields_start : {xs : List Difference} → Lists A B wants (IsOfSlotsBelow t k) xs
        → Lists A B wants (IsAhead (Broken (FieldTypeChanged (id t) k))) xs
    fields_start {xs} before =
        let here : t + 1 + (t + 1) ≡ t + t + 2 = omega arith in
        rw here (numbers_passed A B wants (t + t + 2) (k + 1) 0 96 xs (omega arith)
        (λ d at there low high. slot_missed t k (Some f) (Some g) slot d at there (inl high)) before)

    pub fields_end : {xs : List Difference} → Lists A B wants (IsUpTo (Broken (DeprecatedTakenBack (id t) k))) xs
        → Lists A B wants (IsOfSlotsBelow t (k + 1)) xs
    fields_end {xs} before =
        let here : t + 1 + (t + 1) ≡ t + t + 2 = omega arith in
        place_passed A B wants (t + t + 2) (k + 1) 100 xs
        (λ d at there past. slot_missed t k (Some f) (Some g) slot d at there (inr past)) (rw here at before)

  module _ (t k : ℕ) (xs : List Difference) where
    -- a slot that neither table has
    pub slot_absent : TableSlot A.schema B.schema t k None None → Lists A B wants (IsOfSlotsBelow t k) xs
        → Lists A B wants (IsOfSlotsBelow t (k + 1)) xs
    slot_absent slot =
        place_passed A B wants (t + t + 2) (k + 1) 0 xs
        (λ d at there low. slot_missed t k None None slot d at there tt)

    -- past the last slot of both tables no breach stands
    pub slots_end : (u : ℕ) (was is : List FieldInfo) → TableTwins A.schema B.schema t u
        → map field_seen was ≡ slots_in (body_at A.schema t) → map field_seen is ≡ slots_in (body_at B.schema u)
        → length was ≤ k → length is ≤ k → Lists A B wants (IsOfSlotsBelow t k) xs
        → Lists A B wants (IsOfNamesBelow t 0) xs
    slots_end u was is tables old new few_old few_new =
        breaches_passed t (k + 1) xs (λ r type past. by r type (slot_of r) refl past)
      where
        by : (r : Breach) → type_place r ≡ t + 1 → (o : Option ℕ) → slot_of r ≡ o → k + 1 ≤ slot_place r → Kept A B r
        by r type None at past = absurd (omega (arith, past, ap slot_number at))
        by r type (Some j) at past =
            let far : k ≤ j = omega (arith, past, ap slot_number at) in
            slot_kept A B t j None None (record {
              type = u;
              tables = tables;
              old = rw (← old) (slice_get_past (map field_seen was) j (simp length-map (omega (arith, few_old, far))));
              new = rw (← new) (slice_get_past (map field_seen is) j (simp length-map (omega (arith, few_new, far))));
            }) r type (ap slot_number at) tt

  -- two tables have no breach of their own
  pub tables_start : (t u : ℕ) (xs : List Difference) → TableTwins A.schema B.schema t u
      → Lists A B wants (IsOfTypesBelow t) xs → Lists A B wants (IsOfSlotsBelow t 0) xs
  tables_start t u xs tables =
      let own = tables_own (body_at A.schema t) (body_at B.schema u) tables.old tables.new in
      place_passed A B wants (t + t + 2) 0 0 xs
      (λ d at there low. breach_in (λ e. place e ≡ 0 → MayMiss A B wants e) t
      (λ r type slot wanted. body_kept A B t u tables.twins r type slot
      (λ same. omega (arith, same, own, numbered r))) d at there)
