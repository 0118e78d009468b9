-- A table lies where its vtable and its fields stand.
use Rattle.std.proofs.Common.{◌≡◌, ℕ, zero, suc, ◌+◌, ◌-◌, ◌<◌, ◌≤◌, Bool, true, false, cond, List, [], ◌∷◌, length}
use Rattle.std.proofs.Common.{drop, slice_get, slice_index, Option, None, Some, pos, refl, ap, sym, ◌∙◌, subst, arith}
use Rattle.std.proofs.lemmas.Bool.{lt-ltb}
use Rattle.fb_schema.specs.declared.kinds.Base.TheVariants.{U8}
use Rattle.fb_layout.specs.Laid.{LaidSchema, Slot, scalar_kind, struct_kind, table_kind, union_kind, code_kind}
use Rattle.fb_layout.specs.Laid.{text_kind, StoredShape, one_of, vector_of, member_by_code}
use Rattle.fb_value.specs.Datum.{Datum, a_number, a_text, a_vector, a_struct, a_table, a_member, an_unknown}
use Rattle.fb_value.specs.View.{entries_in}
use Rattle.fb_value.specs.Entries.{EntryFits}
use Rattle.fb_value.specs.Fits.{MayBeAbsent}
use Rattle.fb_value.specs.Num.{Bytes, num}
use Rattle.fb_value.specs.Places.{ref_place, inline_place, code_place, member_part, Place, slot_number, is_present}
use Rattle.fb_value.specs.Places.{code_at, next_required, named_slot, named_slots}
use Rattle.fb_value.specs.Rules.{is_missing, first_missing}
use Rattle.fb_value.specs.Lies.{AbsentEntryBy, LiesBy, LiesAtBy, LiesSlotsBy}
use Rattle.fb_value.specs.EachTable.{EachTableAt, EachEntry, IsOldTable}
use Rattle.fb_value.specs.Tails.{from_end}
use Rattle.fb_value.proofs.rules.UnusedSlotHasNoPlace.{no_place}
use Rattle.fb_build.specs.Fields.{IsSimple, StoredFits, stored_here, stored_in, coded, code_in, next_code, sort_for}
use Rattle.fb_build.specs.Fields.{is_stored, EntryEnd}
use Rattle.fb_build.specs.CoveredTails.{IsTightInTail}
use Rattle.fb_tape.specs.InlineBytes.{IsTightInline, EachInlineAt, EachInlineEntry}
use Rattle.fb_build.specs.TableBytes.{offset_from}
use Rattle.fb_build.proofs.fields.FieldHasItsValue.{default_known}
use Rattle.fb_build.specs.Paired.{ArePaired}
use Rattle.fb_build.proofs.tables.CodeSlotHasNoEntry.{entry_from, EntryLies, stored_get}
use Rattle.fb_build.proofs.tables.CodeSlotHasNoEntry.{next_is, no_code_entry, IsOwn, no_union, code_stored}
use Rattle.fb_build.proofs.tables.CodeSlotHasNoEntry.{code_some, code_keeps}
use Rattle.std.proofs.Math.Bool.{and-false}
use Rattle.std.proofs.lemmas.Option.{slice_get_within}
use Rattle.fb_tape.proofs.stored.SizesOfWhatIsStored.{got}

module _ (L : LaidSchema) (low m : ℕ) (s : Bytes) (c : ℕ) (within : c ≤ length s) where
  unfoldable pub p : ℕ
  p = length s - c

  pub nothing_there : (k : ℕ) (fs : List Slot) (shape : StoredShape) → IsOwn shape → slot_number s p k ≡ 0
      → named_slot L s p k fs shape ≡ None
  unfolding IsOwn
  nothing_there k fs (one_of (scalar_kind b)) h e = rw e refl
  nothing_there k fs (one_of (struct_kind t)) h e = rw e refl
  nothing_there k fs (one_of (table_kind t)) h e = rw e refl
  nothing_there k fs (one_of text_kind) h e = rw e refl
  nothing_there k fs (vector_of kind) h e = rw e refl
  nothing_there k fs _ h e = absurd h

  pub something_there : (k : ℕ) (fs : List Slot) (shape : StoredShape) (d : Datum) → IsOwn shape
      → is_present s p k ≡ true → named_slot L s p k fs shape
      ≡ Some (record { sort = sort_for shape d; at = p + slot_number s p k })
  unfolding IsOwn
  something_there k fs (one_of (scalar_kind b)) d h e = rw e refl
  something_there k fs (one_of (struct_kind t)) d h e = rw e refl
  something_there k fs (one_of (table_kind t)) d h e = rw e refl
  something_there k fs (one_of text_kind) d h e = rw e refl
  something_there k fs (vector_of kind) d h e = rw e refl
  something_there k fs _ d h e = absurd h

  -- slot k of the table, what it stores and its end-count
  pub record SlotKnown (k : ℕ) (f : Slot) (x : Option Datum) (e : ℕ) : Type 0 where
    pub simple : IsSimple L f.shape
    pub fits : StoredFits L f x
    pub state : EntryEnd L low m s true f x e
    pub under : e < c
    pub number : slot_number s p k ≡ offset_from c e

  unfoldable pub place_of : (k : ℕ) (f : Slot) (fs : List Slot) → Option Place
  place_of k f fs = cond f.deprecated None (named_slot L s p k fs f.shape)

  -- what isn't stored has no number
  pub empty : (k : ℕ) (f : Slot) (x : Option Datum) (e : ℕ) → SlotKnown k f x e → is_stored f x ≡ false
      → slot_number s p k ≡ 0
  empty k f x e h out = h.number ∙ ap (λ i. offset_from c i) (h.state.absent out)

  -- what is stored lies where the number leads
  pub record IsThere (k : ℕ) (f : Slot) (d : Datum) : Type 0 where
    pub present : is_present s p k ≡ true
    inside : (p + slot_number s p k) + 1 ≤ length s
    lies : LiesAtBy (from_end s m) L s (sort_for f.shape d) (p + slot_number s p k) d
    old : EachTableAt L s (λ t r. IsOldTable L s t r) (sort_for f.shape d) (p + slot_number s p k) d
    tight : EachTableAt L s (λ t r. IsTightInTail L s t r) (sort_for f.shape d) (p + slot_number s p k) d
    inline : EachInlineAt L s (IsTightInline L s) (sort_for f.shape d) (p + slot_number s p k) d

  pub stored_number : (k : ℕ) (f : Slot) (d : Datum) (e : ℕ) → SlotKnown k f (Some d) e → 0 < e
      → slot_number s p k ≡ c - e
  stored_number k f d zero h some = absurd (omega (arith, some))
  stored_number k f d (suc e) h some = h.number

  pub there : (k : ℕ) (f : Slot) (d : Datum) (e : ℕ) → SlotKnown k f (Some d) e → is_stored f (Some d) ≡ true
      → IsThere k f d
  unfolding p
  there k f d e h is =
      let state = h.state.stored is in
      let number = stored_number k f d e h (omega (arith, state.0)) in
      let present : is_present s p k ≡ true = lt-ltb _ _ (omega (arith, number, h.under)) in
      let at : length s - e ≡ p + slot_number s p k = omega (arith, number, h.under, within, state.0) in
      record {
        present = present;
        inside = omega (arith, at, state.0, state.1.lies.within);
        lies = rw (← at) state.1.lies.lies;
        old = rw (← at) state.1.old;
        tight = rw (← at) state.1.tight;
        inline = rw (← at) state.1.inline;
      }

  -- ---- a slot of its own

  entry_lies : (k : ℕ) (f : Slot) (fs : List Slot) (x : Option Datum) (e : ℕ) → IsOwn f.shape → EntryFits L f x
      → SlotKnown k f x e → EntryLies (from_end s m) L s f (place_of k f fs) x
  unfolding EntryLies place_of
  entry_lies k f fs None e own fits h =
      rw (no_place f.deprecated _ (nothing_there k fs f.shape own (empty k f None e h refl))) fits.1
  entry_lies k f fs (Some d) e own fits h = by_stored (is_stored f (Some d)) refl
    where
      by_stored : (t : Bool) → is_stored f (Some d) ≡ t → EntryLies (from_end s m) L s f (place_of k f fs) (Some d)
      by_stored false out =
          let known = default_known f d out in
          rw (no_place f.deprecated _ (nothing_there k fs f.shape own (empty k f (Some d) e h out)))
          ((known.1, known.2, known.3), tt, tt, tt)
      by_stored true is =
          let now = there k f d e h is in
          let named = something_there k fs f.shape d own now.present in
          let place : place_of k f fs ≡ Some (record { sort = sort_for f.shape d; at = p + slot_number s p k }) =
          rw fits.0 named in
          rw place (
            entry_from (from_end s m) L s (sort_for f.shape d) (p + slot_number s p k) d
                (λ sort q. LiesBy (from_end s m) L s sort q d) now.lies,
            now.old,
            now.tight,
            now.inline,
          )

  not_missing : (k : ℕ) (f : Slot) (x : Option Datum) (e : ℕ) → IsOwn f.shape → EntryFits L f x → SlotKnown k f x e
      → is_missing s p k f ≡ false
  not_missing k f None e own fits h = rw fits.0 refl
  not_missing k f (Some d) e own fits h = by_stored (is_stored f (Some d)) refl
    where
      by_stored : (t : Bool) → is_stored f (Some d) ≡ t → is_missing s p k f ≡ false
      by_stored false out = rw (default_known f d out).0 refl
      by_stored true is = rw ((there k f d e h is).present, no_union f.shape own)
          (and-false f.required)

  -- ---- a union's code, and the value behind it

  -- the code that stands in a stored code slot
  pub record CodeThere (j n : ℕ) : Type 0 where
    pub present : is_present s p j ≡ true
    inside : (p + slot_number s p j) + 1 ≤ length s
    pub reads : num s (p + slot_number s p j) 1 ≡ n

  pub code_there : (j : ℕ) (f : Slot) (u n e : ℕ) → f.shape ≡ one_of (code_kind u) → f.if_absent ≡ None
      → SlotKnown j f (Some (a_number (pos n))) e → CodeThere j n
  code_there j f u n e shape none h =
      let now = there j f (a_number (pos n)) e h (code_stored f n none) in
      let lies : LiesAtBy (from_end s m) L s (inline_place (scalar_kind U8)) (p + slot_number s p j)
      (a_number (pos n)) = rw shape at now.lies in
      record { present = now.present; inside = now.inside; reads = sym (same_pos lies.1) }
    where
      same_pos : {a b : ℕ} → pos a ≡ pos b → a ≡ b
      same_pos e = cc

  -- a code slot, with the entry of the slot behind it
  code_lies : (j : ℕ) (f g : Slot) (fs : List Slot) (u : ℕ) (x : Option Datum) (e e2 : ℕ)
      → f.shape ≡ one_of (code_kind u) → g.shape ≡ one_of (union_kind u) → MayBeAbsent f → EntryFits L g x
      → SlotKnown j f (coded (code_in x)) e → SlotKnown (suc j) g x e2
      → AbsentEntryBy (from_end s m) L s f (place_of j f fs)
  unfolding place_of
  code_lies j f g fs u x e e2 shape value may fits h h2 = by_entry x fits h h2
    where
      nothing : SlotKnown j f None e → AbsentEntryBy (from_end s m) L s f (place_of j f fs)
      nothing h =
          let number = empty j f None e h refl in
          let named : named_slot L s p j fs f.shape ≡ None = rw (shape, number) refl in
          rw (no_place f.deprecated _ named) may.1

      by_entry : (x : Option Datum) → EntryFits L g x → SlotKnown j f (coded (code_in x)) e → SlotKnown (suc j) g x e2
          → AbsentEntryBy (from_end s m) L s f (place_of j f fs)
      by_entry (Some (a_member n d)) fits h h2 =
          let code = code_there j f u n e shape may.1 h in
          let now = there (suc j) g (a_member n d) e2 h2 refl in
          let own = rw value at fits.1 in
          let some : 0 < n = code_some L u n own.0 own.1 in
          let spot : Place = record {
            sort = code_place u (suc j) (next_required fs) (is_present s p (suc j));
            at = p + slot_number s p j;
          } in
          let named : named_slot L s p j fs f.shape ≡ Some spot = rw (shape, code.present) refl in
          let place : place_of j f fs ≡ Some spot = rw h.fits.0 named in
          rw place (code_keeps L m s u (suc j) (next_required fs) (is_present s p (suc j)) (p + slot_number s p j)
          code.inside (omega (arith, code.reads, some)) now.present)
      by_entry _ fits h h2 = nothing h

  -- a union's value slot, with the code slot before it
  value_lies : (j : ℕ) (f g : Slot) (fs : List Slot) (u : ℕ) (x : Option Datum) (e e2 : ℕ)
      → f.shape ≡ one_of (code_kind u) → g.shape ≡ one_of (union_kind u) → MayBeAbsent f → EntryFits L g x
      → SlotKnown j f (coded (code_in x)) e → SlotKnown (suc j) g x e2
      → EntryLies (from_end s m) L s g (place_of (suc j) g fs) x
  unfolding place_of EntryLies
  value_lies j f g fs u None e e2 shape value may fits h h2 =
      let number = empty j f None e h refl in
      let back : suc j - 1 ≡ j = omega arith in
      let named : named_slot L s p (suc j) fs g.shape ≡ None = rw (value, back, number) refl in
      rw (no_place g.deprecated _ named) fits.1
  value_lies j f g fs u (Some (an_unknown n)) e e2 shape value may fits h h2 = absurd (rw value at h2.fits.1)
  value_lies j f g fs u (Some (a_member n (a_number k))) e e2 shape value may fits h h2 = absurd (rw value at fits.1).2
  value_lies j f g fs u (Some (a_member n (a_text b))) e e2 shape value may fits h h2 = absurd (rw value at fits.1).2
  value_lies j f g fs u (Some (a_member n (a_vector ds))) e e2 shape value may fits h h2 = absurd (rw value at fits.1).2
  value_lies j f g fs u (Some (a_member n (a_struct ds))) e e2 shape value may fits h h2 = absurd (rw value at fits.1).2
  value_lies j f g fs u (Some (a_member n (a_member k d))) e e2 shape value may fits h h2 =
      absurd (rw value at fits.1).2
  value_lies j f g fs u (Some (a_member n (an_unknown k))) e e2 shape value may fits h h2 =
      absurd (rw value at fits.1).2
  value_lies j f g fs u (Some (a_member n (a_table t es))) e e2 shape value may fits h h2 =
      let code = code_there j f u n e shape may.1 h in
      let now = there (suc j) g (a_member n (a_table t es)) e2 h2 refl in
      let own = rw value at fits.1 in
      let back : suc j - 1 ≡ j = omega arith in
      let member : member_by_code L u n ≡ Some t = own.1 ∙ ap Some (sym own.2.0) in
      let reads : code_at s p j ≡ n = rw code.present code.reads in
      let named : named_slot L s p (suc j) fs g.shape
      ≡ Some (record { sort = ref_place (member_part n t); at = p + slot_number s p (suc j) }) =
      rw (value, back, reads, member, now.present) refl in
      let place : place_of (suc j) g fs
      ≡ Some (record { sort = ref_place (member_part n t); at = p + slot_number s p (suc j) }) = rw fits.0 named in
      let lies : LiesAtBy (from_end s m) L s (ref_place (member_part n t)) (p + slot_number s p (suc j))
      (a_member n (a_table t es)) = rw value at now.lies in
      let old : EachTableAt L s (λ t r. IsOldTable L s t r) (ref_place (member_part n t)) (p + slot_number s p (suc j))
      (a_member n (a_table t es)) = rw value at now.old in
      let inline : EachInlineAt L s (IsTightInline L s) (ref_place (member_part n t)) (p + slot_number s p (suc j))
      (a_member n (a_table t es)) = rw value at now.inline in
      let tight : EachTableAt L s (λ t r. IsTightInTail L s t r) (ref_place (member_part n t))
      (p + slot_number s p (suc j)) (a_member n (a_table t es)) = rw value at now.tight in
      rw place (lies, old, tight, inline)
  value_lies j f g fs u _ e e2 shape value may fits h h2 = absurd (rw value at fits.1)

  value_kept : (j : ℕ) (f g : Slot) (u : ℕ) (x : Option Datum) (e e2 : ℕ) → f.shape ≡ one_of (code_kind u)
      → g.shape ≡ one_of (union_kind u) → MayBeAbsent f → EntryFits L g x
      → SlotKnown j f (coded (code_in x)) e → SlotKnown (suc j) g x e2 → is_missing s p (suc j) g ≡ false
  value_kept j f g u None e e2 shape value may fits h h2 = rw fits.0 refl
  value_kept j f g u (Some (an_unknown n)) e e2 shape value may fits h h2 = absurd (rw value at h2.fits.1)
  value_kept j f g u (Some (a_member n d)) e e2 shape value may fits h h2 =
      let code = code_there j f u n e shape may.1 h in
      let now = there (suc j) g (a_member n d) e2 h2 refl in
      let back : suc j - 1 ≡ j = omega arith in
      rw (now.present, back, code.present, value) (and-false g.required)
  value_kept j f g u _ e e2 shape value may fits h h2 = absurd (rw value at fits.1)

  -- ---- all slots

  pub record SlotLies (k : ℕ) (f : Slot) (fs : List Slot) (x : Option Datum) : Type 0 where
    pub lies : EntryLies (from_end s m) L s f (place_of k f fs) x
    pub kept : is_missing s p k f ≡ false

  pub record EntriesLie (j : ℕ) (fs : List Slot) (xs : List (Option Datum)) : Type 0 where
    pub lie : LiesSlotsBy (from_end s m) L s fs (named_slots L s p j fs) (entries_in xs)
    pub old : EachEntry L s (λ t r. IsOldTable L s t r) (named_slots L s p j fs) (entries_in xs)
    pub tight : EachEntry L s (λ t r. IsTightInTail L s t r) (named_slots L s p j fs) (entries_in xs)
    pub inline : EachInlineEntry L s (IsTightInline L s) (named_slots L s p j fs) (entries_in xs)
    pub kept : first_missing s p j fs ≡ None

  entries_lie : (j : ℕ) (fs : List Slot) (xs : List (Option Datum)) → length fs ≡ length xs
      → ((k : ℕ) (f : Slot) (x : Option Datum) → slice_get fs k ≡ Some f → slice_get xs k ≡ Some x
      → SlotLies (j + k) f (drop (suc k) fs) x)
      → EntriesLie j fs xs
  unfolding named_slots EntryLies place_of
  entries_lie j [] [] long known = record { lie = tt; old = tt; tight = tt; inline = tt; kept = refl }
  entries_lie j [] (x ∷ xs) long known = absurd (omega (arith, long))
  entries_lie j (f ∷ fs) [] long known = absurd (omega (arith, long))
  entries_lie j (f ∷ fs) (x ∷ xs) long known =
      let first : j + 0 ≡ j = omega arith in
      let here : SlotLies j f fs x = rw (← first) (known 0 f x refl refl) in
      let on : (k : ℕ) → j + suc k ≡ suc j + k = λ k. omega arith in
      let rest = entries_lie (suc j) fs xs (omega (arith, long))
      (λ k g y a b. rw (← (on k)) (known (suc k) g y a b)) in
      with_entry x here.lies here.kept rest
    where
      with_entry : (x : Option Datum) → EntryLies (from_end s m) L s f (place_of j f fs) x → is_missing s p j f ≡ false
          → EntriesLie (suc j) fs xs → EntriesLie j (f ∷ fs) (x ∷ xs)
      with_entry None h kept rest = record {
        lie = (h, rest.lie);
        old = rest.old;
        tight = rest.tight;
        inline = rest.inline;
        kept = rw kept rest.kept;
      }
      with_entry (Some d) h kept rest = record {
        lie = (h.0, rest.lie);
        old = (h.1, rest.old);
        tight = (h.2, rest.tight);
        inline = (h.3, rest.inline);
        kept = rw kept rest.kept;
      }

  module _ (fs : List Slot) (xs : List (Option Datum)) (ends : List ℕ) (long : length fs ≡ length xs)
      (paired : ArePaired fs) (fits : (k : ℕ) (f : Slot) (x : Option Datum) → slice_get fs k ≡ Some f
      → slice_get xs k ≡ Some x → EntryFits L f x)
      (known : (k : ℕ) (f : Slot) (y : Option Datum) → slice_get fs k ≡ Some f → slice_get (stored_in fs xs) k ≡ Some y
      → SlotKnown k f y (slice_index ends k)) where
    pub known_here : (k : ℕ) (f : Slot) (x : Option Datum) → slice_get fs k ≡ Some f → slice_get xs k ≡ Some x
        → SlotKnown k f (stored_here f.shape (next_code (drop (suc k) xs)) x) (slice_index ends k)
    known_here k f x fk xk = known k f _ fk (stored_get fs xs k f x fk xk)

    pub value_known : (k : ℕ) (g : Slot) (x : Option Datum) (u : ℕ) → g.shape ≡ one_of (union_kind u)
        → slice_get fs k ≡ Some g → slice_get xs k ≡ Some x → SlotKnown k g x (slice_index ends k)
    value_known k g x u is fk xk =
        subst (λ (z : StoredShape). SlotKnown k g (stored_here z (next_code (drop (suc k) xs)) x) (slice_index ends k))
        is (known_here k g x fk xk)

    pub code_known : (j : ℕ) (f : Slot) (x y : Option Datum) (u : ℕ) → f.shape ≡ one_of (code_kind u)
        → slice_get fs j ≡ Some f → slice_get xs j ≡ Some x → slice_get xs (suc j) ≡ Some y
        → SlotKnown j f (coded (code_in y)) (slice_index ends j)
    code_known j f x y u is fk xk yk =
        let h : SlotKnown j f (coded (next_code (drop (suc j) xs))) (slice_index ends j) =
        subst (λ (z : StoredShape). SlotKnown j f (stored_here z (next_code (drop (suc j) xs)) x)
        (slice_index ends j)) is (known_here j f x fk xk) in
        rw (← (next_is xs (suc j) y yk)) h

    code_slot : (j : ℕ) (f g : Slot) (x y : Option Datum) (u : ℕ) → f.shape ≡ one_of (code_kind u)
        → g.shape ≡ one_of (union_kind u) → slice_get fs j ≡ Some f → slice_get fs (suc j) ≡ Some g
        → slice_get xs j ≡ Some x → slice_get xs (suc j) ≡ Some y
        → EntryFits L f x → SlotLies j f (drop (suc j) fs) x
    unfolding EntryLies
    code_slot j f g None y u is value fk gk xk yk may = record {
      lies = code_lies j f g (drop (suc j) fs) u y (slice_index ends j) (slice_index ends (suc j)) is value may
          (fits (suc j) g y gk yk) (code_known j f None y u is fk xk yk) (value_known (suc j) g y u value gk yk);
      kept = rw may.0 refl;
    }
    code_slot j f g (Some d) y u is value fk gk xk yk bad = absurd (no_code_entry L u d (rw is at bad.1))

    value_slot : (j : ℕ) (f g : Slot) (x y : Option Datum) (u : ℕ) → f.shape ≡ one_of (code_kind u)
        → g.shape ≡ one_of (union_kind u) → slice_get fs j ≡ Some f → slice_get fs (suc j) ≡ Some g
        → slice_get xs j ≡ Some x → slice_get xs (suc j) ≡ Some y
        → EntryFits L f x → SlotLies (suc j) g (drop (suc (suc j)) fs) y
    value_slot j f g None y u is value fk gk xk yk may = record {
      lies = value_lies j f g (drop (suc (suc j)) fs) u y (slice_index ends j) (slice_index ends (suc j)) is value may
          (fits (suc j) g y gk yk) (code_known j f None y u is fk xk yk) (value_known (suc j) g y u value gk yk);
      kept = value_kept j f g u y (slice_index ends j) (slice_index ends (suc j)) is value may (fits (suc j) g y gk yk)
          (code_known j f None y u is fk xk yk) (value_known (suc j) g y u value gk yk);
    }
    value_slot j f g (Some d) y u is value fk gk xk yk bad = absurd (no_code_entry L u d (rw is at bad.1))

    slot_lies : (k : ℕ) (f : Slot) (x : Option Datum) → slice_get fs k ≡ Some f → slice_get xs k ≡ Some x
        → SlotLies k f (drop (suc k) fs) x
    unfolding IsOwn
    slot_lies k f x fk xk = by_shape f.shape refl
      where
        own : (shape : StoredShape) → f.shape ≡ shape → IsOwn shape
            → stored_here shape (next_code (drop (suc k) xs)) x ≡ x → SlotLies k f (drop (suc k) fs) x
        own shape is o same =
            let o2 : IsOwn f.shape = rw is o in
            let there : SlotKnown k f (stored_here shape (next_code (drop (suc k) xs)) x) (slice_index ends k) =
            rw (← is) (known_here k f x fk xk) in
            let h : SlotKnown k f x (slice_index ends k) = rw same at there in
            record {
              lies = entry_lies k f (drop (suc k) fs) x (slice_index ends k) o2 (fits k f x fk xk) h;
              kept = not_missing k f x (slice_index ends k) o2 (fits k f x fk xk) h;
            }

        by_shape : (shape : StoredShape) → f.shape ≡ shape → SlotLies k f (drop (suc k) fs) x
        by_shape (one_of (scalar_kind b)) is = own (one_of (scalar_kind b)) is tt refl
        by_shape (one_of (struct_kind t)) is = own (one_of (struct_kind t)) is tt refl
        by_shape (one_of (table_kind t)) is = own (one_of (table_kind t)) is tt refl
        by_shape (one_of (union_kind u)) is =
            let led = paired.led k f u fk is in
            let front = got xs led.0 (omega (arith, slice_get_within fs led.0 led.1 led.3, long)) in
            subst (λ (i : ℕ). slice_get fs i ≡ Some f → slice_get xs i ≡ Some x
            → SlotLies i f (drop (suc i) fs) x) (sym led.2)
            (λ a b. value_slot led.0 led.1 f front.0 x u led.4 is led.3 a front.1 b
            (fits led.0 led.1 front.0 led.3 front.1)) fk xk
        by_shape (one_of (code_kind u)) is =
            let pair = paired.followed k f u fk is in
            let behind = got xs (suc k) (omega (arith, slice_get_within fs (suc k) pair.0 pair.1, long)) in
            code_slot k f pair.0 x behind.0 u is pair.2 fk pair.1 xk behind.1 (fits k f x fk xk)
        by_shape (one_of text_kind) is = own (one_of text_kind) is tt refl
        by_shape (vector_of kind) is = own (vector_of kind) is tt refl

    pub all_lie : EntriesLie 0 fs xs
    all_lie = entries_lie 0 fs xs long (λ k f x a b. (let none : 0 + k ≡ k = omega arith in
        rw none (slot_lies k f x a b)))
