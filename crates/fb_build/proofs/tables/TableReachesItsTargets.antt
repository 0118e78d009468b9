-- What is reached from a table whose references lead to what was laid for its slots.
use Rattle.std.proofs.Common.{◌≡◌, ℕ, suc, ◌+◌, ◌-◌, ◌≤◌, ◌++◌, Bool, true, false, List, [], ◌∷◌, length, drop}
use Rattle.std.proofs.Common.{slice_get, slice_index, Option, None, Some, option_map, refl, ap, sym, ◌∙◌, subst, arith}
use Rattle.fb_layout.specs.Laid.{LaidSchema, Slot, StoredShape, scalar_kind, struct_kind, table_kind, union_kind}
use Rattle.fb_layout.specs.Laid.{code_kind, text_kind, one_of, vector_of, member_by_code}
use Rattle.fb_value.specs.Datum.{Datum, a_number, a_text, a_vector, a_struct, a_table, a_member, an_unknown}
use Rattle.fb_value.specs.Entries.{EntryFits}
use Rattle.fb_value.specs.Num.{Bytes}
use Rattle.fb_value.specs.Places.{Target, member_part, ref_place, Place, slot_number, code_at, named_slot, named_slots}
use Rattle.fb_value.specs.View.{entries_in}
use Rattle.fb_value.proofs.rules.UnusedSlotHasNoPlace.{no_place}
use Rattle.fb_build.specs.Fields.{is_stored, stored_here, stored_in, next_code, code_in, coded, target_for, sort_for}
use Rattle.fb_build.specs.Fields.{ref_or}
use Rattle.fb_build.specs.Paired.{ArePaired}
use Rattle.fb_build.specs.Pieces.{PartAt, reached, reached_named, reached_entries}
use Rattle.fb_build.specs.Made.{LeadsTo, FieldLeads, named_of, named_stored, named_fields, parts_at, ends_parts}
use Rattle.fb_build.proofs.tables.CodeSlotHasNoEntry.{no_code_entry, stored_get, IsOwn}
use Rattle.fb_build.proofs.tables.TableHasItsFields.{p, SlotKnown}
use Rattle.fb_build.proofs.tables.TableHasItsFields.{place_of, something_there, nothing_there, empty, stored_number}
use Rattle.fb_build.proofs.tables.TableHasItsFields.{there, code_there, value_known, code_known}
use Rattle.fb_build.proofs.tables.EndsNameTheParts.{first_dropped}
use Rattle.fb_build.proofs.tables.EachSlotAddsItsParts.{nothing_named, target_is_stored}
use Rattle.std.proofs.lemmas.Option.{slice_get_within}
use Rattle.std.proofs.lemmas.Bool.{both_ways}
use Rattle.fb_tape.proofs.stored.SizesOfWhatIsStored.{got}

-- what an entry reaches at a place
abbrev pub entry_reached : LaidSchema → Bytes → Option Place → Option Datum → List PartAt
entry_reached L s x None = []
entry_reached L s x (Some d) = reached_named s x (λ X q. reached L s X q d)

by_reference : (L : LaidSchema) (s : Bytes) (shape : StoredShape) (X : Option Target) (d : Datum) (e t : ℕ)
    → LeadsTo s X e t
    → reached_named s (Some (record { sort = ref_or shape X; at = length s - e })) (λ Y q. reached L s Y q d)
    ≡ parts_at L s (option_map (λ Y. record { target = Y; value = d }) X) t
by_reference L s shape None d e t leads = refl
by_reference L s shape (Some X) d e t leads = ap (λ q. reached L s X q d) leads.way

-- a stored slot
stored_reached : (L : LaidSchema) (s : Bytes) (shape : StoredShape) (d : Datum) (x : Option Place) (at e t : ℕ)
    → x ≡ Some (record { sort = sort_for shape d; at = at }) → at ≡ length s - e → LeadsTo s (target_for shape d) e t
    → entry_reached L s x (Some d) ≡ parts_at L s (named_of shape d) t
stored_reached L s shape d x at e t is same leads =
    rw (is, same) (by_reference L s shape (target_for shape d) d e t leads)

names_nothing : (L : LaidSchema) (s : Bytes) (X : Option Target) (d : Datum) (t : ℕ) → ((Y : Target) → X ≡ Some Y → ⊥)
    → parts_at L s (option_map (λ Y. record { target = Y; value = d }) X) t ≡ []
names_nothing L s None d t none = refl
names_nothing L s (Some X) d t none = absurd (none X refl)

module _ (L : LaidSchema) (low m : ℕ) (s : Bytes) (c : ℕ) (within : c ≤ length s) where
  at_end : (k : ℕ) (f : Slot) (d : Datum) (e : ℕ) → SlotKnown L low m s c within k f (Some d) e
      → is_stored f (Some d) ≡ true → p L low m s c within + slot_number s (p L low m s c within) k ≡ length s - e
  unfolding p
  at_end k f d e h is =
      let state = h.state.stored is in
      let number = stored_number L low m s c within k f d e h (omega (arith, state.0)) in
      omega (arith, number, h.under, within, state.0)

  -- a slot of its own
  own_reached : (k : ℕ) (f : Slot) (fs : List Slot) (d : Datum) (e t : ℕ) → IsOwn f.shape
      → EntryFits L f (Some d) → SlotKnown L low m s c within k f (Some d) e → FieldLeads s true f (Some d) t e
      → entry_reached L s (place_of L low m s c within k f fs) (Some d) ≡ parts_at L s (named_of f.shape d) t
  unfolding place_of
  own_reached k f fs d e t own fits h leads = by_stored (is_stored f (Some d)) refl
    where
      by_stored : (b : Bool) → is_stored f (Some d) ≡ b
          → entry_reached L s (place_of L low m s c within k f fs) (Some d) ≡ parts_at L s (named_of f.shape d) t
      by_stored true is =
          let now = there L low m s c within k f d e h is in
          let q = p L low m s c within in
          let named = something_there L low m s c within k fs f.shape d own now.present in
          let place : place_of L low m s c within k f fs
          ≡ Some (record { sort = sort_for f.shape d; at = q + slot_number s q k }) = rw fits.0 named in
          stored_reached L s f.shape d _ _ e t place (at_end k f d e h is) (leads is)
      by_stored false out =
          let place : place_of L low m s c within k f fs ≡ None =
          no_place f.deprecated _ (nothing_there L low m s c within k fs f.shape own
          (empty L low m s c within k f (Some d) e h out)) in
          rw place (sym (names_nothing L s (target_for f.shape d) d t
          (λ X is. both_ways _ out (target_is_stored L f d X h.fits.1 is))))

  -- a union's value
  value_reached : (j : ℕ) (f g : Slot) (fs : List Slot) (u : ℕ) (d : Datum) (e e2 t : ℕ)
      → f.shape ≡ one_of (code_kind u) → g.shape ≡ one_of (union_kind u) → f.if_absent ≡ None → EntryFits L g (Some d)
      → SlotKnown L low m s c within j f (coded (code_in (Some d))) e
      → SlotKnown L low m s c within (suc j) g (Some d) e2 → FieldLeads s true g (Some d) t e2
      → entry_reached L s (place_of L low m s c within (suc j) g fs) (Some d) ≡ parts_at L s (named_of g.shape d) t
  unfolding place_of
  value_reached j f g fs u (an_unknown n) e e2 t shape value may fits h h2 leads = absurd (rw value at h2.fits.1)
  value_reached j f g fs u (a_member n (a_number k)) e e2 t shape value may fits h h2 leads =
      absurd (rw value at fits.1).2
  value_reached j f g fs u (a_member n (a_text b)) e e2 t shape value may fits h h2 leads =
      absurd (rw value at fits.1).2
  value_reached j f g fs u (a_member n (a_vector ds)) e e2 t shape value may fits h h2 leads =
      absurd (rw value at fits.1).2
  value_reached j f g fs u (a_member n (a_struct ds)) e e2 t shape value may fits h h2 leads =
      absurd (rw value at fits.1).2
  value_reached j f g fs u (a_member n (a_member k d)) e e2 t shape value may fits h h2 leads =
      absurd (rw value at fits.1).2
  value_reached j f g fs u (a_member n (an_unknown k)) e e2 t shape value may fits h h2 leads =
      absurd (rw value at fits.1).2
  value_reached j f g fs u (a_member n (a_table i es)) e e2 t shape value may fits h h2 leads =
      let q = p L low m s c within in
      let code = code_there L low m s c within j f u n e shape may h in
      let now = there L low m s c within (suc j) g (a_member n (a_table i es)) e2 h2 refl in
      let own = rw value at fits.1 in
      let back : suc j - 1 ≡ j = omega arith in
      let member : member_by_code L u n ≡ Some i = own.1 ∙ ap Some (sym own.2.0) in
      let reads : code_at s q j ≡ n = rw code.present code.reads in
      let named : named_slot L s q (suc j) fs g.shape
      ≡ Some (record { sort = ref_place (member_part n i); at = q + slot_number s q (suc j) }) =
      rw (value, back, reads, member, now.present) refl in
      let sort : sort_for g.shape (a_member n (a_table i es)) ≡ ref_place (member_part n i) = rw value refl in
      let place : place_of L low m s c within (suc j) g fs
      ≡ Some (record { sort = sort_for g.shape (a_member n (a_table i es)); at = q + slot_number s q (suc j) }) =
      rw (fits.0, sort) named in
      stored_reached L s g.shape (a_member n (a_table i es)) _ _ e2 t place
      (at_end (suc j) g (a_member n (a_table i es)) e2 h2 refl) (leads refl)
  value_reached j f g fs u _ e e2 t shape value may fits h h2 leads = absurd (rw value at fits.1)

  -- ---- all slots

  pub all_reached : (j : ℕ) (fs : List Slot) (xs : List (Option Datum)) (targets : List ℕ) → length fs ≡ length xs
      → ((k : ℕ) (f : Slot) (x : Option Datum) → slice_get fs k ≡ Some f → slice_get xs k ≡ Some x
      → entry_reached L s (place_of L low m s c within (j + k) f (drop (suc k) fs)) x
      ≡ parts_at L s (named_stored f (stored_here f.shape (next_code (drop (suc k) xs)) x)) (slice_index targets k))
      → reached_entries L s (named_slots L s (p L low m s c within) j fs) (entries_in xs)
      ≡ ends_parts L s (named_fields fs (stored_in fs xs)) targets
  unfolding named_slots place_of
  all_reached j [] [] targets long each = refl
  all_reached j [] (x ∷ xs) targets long each = absurd (omega (arith, long))
  all_reached j (f ∷ fs) [] targets long each = absurd (omega (arith, long))
  all_reached j (f ∷ fs) (x ∷ xs) targets long each =
      let first : j + 0 ≡ j = omega arith in
      let now = each 0 f x refl refl in
      let here = rw first at now in
      let on : (k : ℕ) → j + suc k ≡ suc j + k = λ k. omega arith in
      let rest = all_reached (suc j) fs xs (drop 1 targets) (omega (arith, long))
      (λ k g y a b. rw (first_dropped targets k)
      (rw (← (on k)) (each (suc k) g y a b))) in
      with_entry x here rest
    where
      with_entry : (x : Option Datum) → entry_reached L s (place_of L low m s c within j f fs) x
          ≡ parts_at L s (named_stored f (stored_here f.shape (next_code xs) x)) (slice_index targets 0)
          → reached_entries L s (named_slots L s (p L low m s c within) (suc j) fs) (entries_in xs)
          ≡ ends_parts L s (named_fields fs (stored_in fs xs)) (drop 1 targets)
          → reached_entries L s (named_slots L s (p L low m s c within) j (f ∷ fs)) (entries_in (x ∷ xs))
          ≡ parts_at L s (named_stored f (stored_here f.shape (next_code xs) x)) (slice_index targets 0)
          ++ ends_parts L s (named_fields fs (stored_in fs xs)) (drop 1 targets)
      with_entry None h rest = rw (← h) rest
      with_entry (Some d) h rest = rw (h, rest) refl

  module _ (fs : List Slot) (xs : List (Option Datum)) (ends targets : List ℕ) (long : length fs ≡ length xs)
      (paired : ArePaired fs) (fits : (k : ℕ) (f : Slot) (x : Option Datum) → slice_get fs k ≡ Some f
      → slice_get xs k ≡ Some x → EntryFits L f x)
      (known : (k : ℕ) (f : Slot) (y : Option Datum) → slice_get fs k ≡ Some f → slice_get (stored_in fs xs) k ≡ Some y
      → SlotKnown L low m s c within k f y (slice_index ends k))
      (leads : (k : ℕ) (f : Slot) (y : Option Datum) → slice_get fs k ≡ Some f → slice_get (stored_in fs xs) k ≡ Some y
      → FieldLeads s true f y (slice_index targets k) (slice_index ends k)) where
    Reaches : ℕ → Slot → Option Datum → Type 0
    Reaches k f x = entry_reached L s (place_of L low m s c within k f (drop (suc k) fs)) x
        ≡ parts_at L s (named_stored f (stored_here f.shape (next_code (drop (suc k) xs)) x)) (slice_index targets k)

    leads_here : (k : ℕ) (f : Slot) (x : Option Datum) → slice_get fs k ≡ Some f → slice_get xs k ≡ Some x
        → FieldLeads s true f (stored_here f.shape (next_code (drop (suc k) xs)) x) (slice_index targets k)
        (slice_index ends k)
    leads_here k f x fk xk = leads k f _ fk (stored_get fs xs k f x fk xk)

    slot_reached : (k : ℕ) (f : Slot) (x : Option Datum) → slice_get fs k ≡ Some f → slice_get xs k ≡ Some x
        → Reaches k f x
    unfolding Reaches IsOwn
    slot_reached k f None fk xk = sym (nothing_named L s f (next_code (drop (suc k) xs)) (slice_index targets k))
    slot_reached k f (Some d) fk xk = by_shape f.shape refl
      where
        own : (shape : StoredShape) → f.shape ≡ shape → IsOwn shape
            → stored_here shape (next_code (drop (suc k) xs)) (Some d) ≡ Some d → Reaches k f (Some d)
        own shape is o same =
            let o2 : IsOwn f.shape = rw is o in
            let stored : stored_here f.shape (next_code (drop (suc k) xs)) (Some d) ≡ Some d =
            ap (λ z. stored_here z (next_code (drop (suc k) xs)) (Some d)) is ∙ same in
            let h : SlotKnown L low m s c within k f (Some d) (slice_index ends k) =
            rw (← stored) (known k f _ fk (stored_get fs xs k f (Some d) fk xk)) in
            let lead : FieldLeads s true f (Some d) (slice_index targets k) (slice_index ends k) =
            rw stored at (leads_here k f (Some d) fk xk) in
            own_reached k f (drop (suc k) fs) d (slice_index ends k) (slice_index targets k) o2
            (fits k f (Some d) fk xk) h lead ∙ ap (λ y. parts_at L s (named_stored f y) (slice_index targets k))
            (sym stored)

        by_shape : (shape : StoredShape) → f.shape ≡ shape → Reaches k f (Some d)
        by_shape (one_of (scalar_kind b)) is = own (one_of (scalar_kind b)) is tt refl
        by_shape (one_of (struct_kind t)) is = own (one_of (struct_kind t)) is tt refl
        by_shape (one_of (table_kind t)) is = own (one_of (table_kind t)) is tt refl
        by_shape (one_of (union_kind u)) is =
            let led = paired.led k f u fk is in
            let front = got xs led.0 (omega (arith, slice_get_within fs led.0 led.1 led.3, long)) in
            let stored : stored_here f.shape (next_code (drop (suc k) xs)) (Some d) ≡ Some d =
            ap (λ z. stored_here z (next_code (drop (suc k) xs)) (Some d)) is in
            let lead : FieldLeads s true f (Some d) (slice_index targets k) (slice_index ends k) =
            rw stored at (leads_here k f (Some d) fk xk) in
            subst (λ (i : ℕ). slice_get fs i ≡ Some f → slice_get xs i ≡ Some (Some d)
            → FieldLeads s true f (Some d) (slice_index targets i) (slice_index ends i)
            → Reaches i f (Some d)) (sym led.2)
            (λ a b leads2. union_reached led.0 led.1 front.0 u led.4 is led.3 a front.1 b
            (fits led.0 led.1 front.0 led.3 front.1) leads2) fk xk lead
          where
            union_reached : (j : ℕ) (g : Slot) (x : Option Datum) (u : ℕ) → g.shape ≡ one_of (code_kind u)
                → f.shape ≡ one_of (union_kind u) → slice_get fs j ≡ Some g → slice_get fs (suc j) ≡ Some f
                → slice_get xs j ≡ Some x → slice_get xs (suc j) ≡ Some (Some d)
                → EntryFits L g x → FieldLeads s true f (Some d) (slice_index targets (suc j))
                (slice_index ends (suc j)) → Reaches (suc j) f (Some d)
            union_reached j g None u code value gk fk2 xk2 yk may lead =
                let stored : stored_here f.shape (next_code (drop (suc (suc j)) xs)) (Some d) ≡ Some d =
                ap (λ z. stored_here z (next_code (drop (suc (suc j)) xs)) (Some d)) value in
                value_reached j g f (drop (suc (suc j)) fs) u d (slice_index ends j) (slice_index ends (suc j))
                (slice_index targets (suc j)) code value may.1 (fits (suc j) f (Some d) fk2 yk)
                (code_known L low m s c within fs xs ends long paired fits known j g None (Some d) u code gk xk2 yk)
                (value_known L low m s c within fs xs ends long paired fits known (suc j) f (Some d) u value fk2 yk)
                lead
                ∙ ap (λ y. parts_at L s (named_stored f y) (slice_index targets (suc j))) (sym stored)
            union_reached j g (Some y) u code value gk fk2 xk2 yk bad lead =
                absurd (no_code_entry L u y (rw code at bad.1))
        by_shape (one_of (code_kind u)) is = let bad = fits k f (Some d) fk xk in
            absurd (no_code_entry L u d (rw is at bad.1))
        by_shape (one_of text_kind) is = own (one_of text_kind) is tt refl
        by_shape (vector_of kind) is = own (vector_of kind) is tt refl

    pub table_reached : reached_entries L s (named_slots L s (p L low m s c within) 0 fs) (entries_in xs)
        ≡ ends_parts L s (named_fields fs (stored_in fs xs)) targets
    unfolding Reaches
    table_reached = all_reached 0 fs xs targets long
        (λ k f x fk xk. (let none : 0 + k ≡ k = omega arith in rw none (slot_reached k f x fk xk)))
