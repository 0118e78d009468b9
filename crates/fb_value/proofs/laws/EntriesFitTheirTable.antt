-- What lies as the entries of a table fits its slots, and so the value that bytes hold fits the root.
use Rattle.std.proofs.Common.{◌≡◌, ℕ, zero, suc, ◌+◌, ◌-◌, ◌<◌, Bool, true, false, not, ◌==◌, List, [], ◌∷◌, drop, map}
use Rattle.std.proofs.Common.{slice_get, All, Option, None, Some, refl, sym, ◌∙◌, arith}
use Rattle.fb_schema.specs.declared.kinds.TypeId.{TypeId}
use Rattle.fb_schema.specs.declared.kinds.Kind.TheVariants.{Union}
use Rattle.fb_schema.specs.declared.kinds.Shape.{Shape}
use Rattle.fb_schema.specs.declared.kinds.Shape.TheVariants.{One}
use Rattle.fb_schema.specs.Schema.{DeclaredField, DeclaredBody, table_body}
use Rattle.fb_schema.specs.Schema.{DeclaredType, DeclaredSchema, body_at, body_in, slots_in}
use Rattle.fb_schema.specs.WellDeclared.{IsBody, MarksFit, IsUnionPair}
use Rattle.fb_layout.specs.Laid.{LaidSchema, Slot, stored_shape, slot_of, slots_of}
use Rattle.fb_layout.specs.WellMade.{IsWellMade}
use Rattle.fb_layout.proofs.slots.SlotsFollowTheirFields.{slot_there}
use Rattle.fb_value.specs.Datum.{Datum, SlotEntries, no_entries, absent_entry, present_entry}
use Rattle.fb_value.specs.Num.{Bytes}
use Rattle.fb_value.specs.Places.{table_part, part_place, code_place, Place, named_slot, named_slots, is_present}
use Rattle.fb_value.specs.Places.{code_at, slot_number, next_required}
use Rattle.fb_value.specs.Rules.{Keeps, is_union}
use Rattle.fb_value.specs.Lies.{LiesSlots}
use Rattle.fb_value.specs.Fits.{EntriesFit}
use Rattle.fb_value.specs.Entries.{EntryFits}
use Rattle.fb_value.specs.Nth.{nth_entry, slot_place, LiesInSlot}
use Rattle.fb_value.proofs.held.EachPartLiesInItsPlace.{entry_lies_shown}
use Rattle.fb_value.proofs.laws.EntryFitsItsSlot.{KnownFit, Needs, marks_of, gone_marks, none_place, live_entry}
use Rattle.fb_value.proofs.laws.EntryFitsItsSlot.{missing_none, table_whole, present_where_needed, code_needed}
use Rattle.fb_value.proofs.laws.EntryFitsItsSlot.{code_keeps, next_there}

-- the declared field of a slot
field_seen : (S : DeclaredSchema) (fs : List DeclaredField) (k : ℕ) (f : Slot)
    → slice_get (map (slot_of S) fs) k ≡ Some f → (df : DeclaredField) × (slice_get fs k ≡ Some df) × (slot_of S df ≡ f)
field_seen S [] k f e = cc
field_seen S (df ∷ fs) zero f e = (df, refl, cc)
field_seen S (df ∷ fs) (suc k) f e = field_seen S fs k f e

module _ (L : LaidSchema) (made : IsWellMade L) where
  body_marks : (t : ℕ) (body : DeclaredBody) → IsBody L.schema t body → (k : ℕ) (df : DeclaredField)
      → slice_get (slots_in body) k ≡ Some df → MarksFit L.schema df df.shape
  body_marks t (table_body fs) is k df e = (is.shapes k df e).1
  body_marks t _ is k df e = cc

  type_marks : (t : ℕ) (o : Option DeclaredType) → slice_get L.schema.types t ≡ o → (k : ℕ) (df : DeclaredField)
      → slice_get (slots_in (body_in o)) k ≡ Some df → MarksFit L.schema df df.shape
  type_marks t None is k df e = cc
  type_marks t (Some type) is k df e = body_marks t type.body (made.declared.bodies t type is) k df e

  -- a union's value behind its code
  Led : List DeclaredField → ℕ → DeclaredField → TypeId → Type 0
  Led fs k df u = (j : ℕ) × (g : DeclaredField) × (k ≡ suc j) × (slice_get fs j ≡ Some g) × IsUnionPair g df u

  body_led : (t : ℕ) (body : DeclaredBody) → IsBody L.schema t body → (k : ℕ) (df : DeclaredField) (u : TypeId)
      → slice_get (slots_in body) k ≡ Some df → df.shape ≡ One (Union u) → Led (slots_in body) k df u
  unfolding Led
  body_led t (table_body fs) is k df u e shape = is.unions.led k df u e shape
  body_led t _ is k df u e shape = cc

  type_led : (t : ℕ) (o : Option DeclaredType) → slice_get L.schema.types t ≡ o
      → (k : ℕ) (df : DeclaredField) (u : TypeId) → slice_get (slots_in (body_in o)) k ≡ Some df
      → df.shape ≡ One (Union u) → Led (slots_in (body_in o)) k df u
  unfolding Led
  type_led t None is k df u e shape = cc
  type_led t (Some type) is k df u e shape = body_led t type.body (made.declared.bodies t type is) k df u e shape

-- the entries of the table at p
module _ (L : LaidSchema) (made : IsWellMade L) (b : Bytes) (small : All (λ x. x < 256) b) (t p : ℕ) (es : SlotEntries)
    (keeps : Keeps L b (part_place (table_part t)) p)
    (lies : LiesSlots L b (slots_of L t) (named_slots L b p 0 (slots_of L t)) es) (known : (k : ℕ) (d : Datum)
    → nth_entry es k ≡ Some d → KnownFit L b d) where
  -- what lies in the slot of a declared field
  field_lies : (k : ℕ) (df : DeclaredField) → slice_get (slots_in (body_at L.schema t)) k ≡ Some df
      → LiesInSlot L b (slot_of L.schema df) (slot_place L b p k (drop (suc k) (slots_of L t)) (slot_of L.schema df))
      (nth_entry es k)
  field_lies k df at = entry_lies_shown L b p (slots_of L t) es k (slot_of L.schema df) lies
      (slot_there L.schema (slots_in (body_at L.schema t)) k df at)

  -- a required slot is present, and a union's code too
  needed : (k : ℕ) (df : DeclaredField) → slice_get (slots_in (body_at L.schema t)) k ≡ Some df
      → (slot_of L.schema df).required ≡ true
      → (is_present b p k ≡ true) × (is_union (stored_shape L.schema df.shape) ≡ true → is_present b p (k - 1) ≡ true)
  needed k df at required =
      let here : 0 + k ≡ k = omega arith in
      let there = rw here at (missing_none b p 0 (slots_of L t) (table_whole L b t p keeps) k (slot_of L.schema df)
      (slot_there L.schema (slots_in (body_at L.schema t)) k df at)) in
      present_where_needed _ _ _ _ there required

  -- the code of a required union isn't 0
  code_there : (k : ℕ) (df : DeclaredField) (u : TypeId) → slice_get (slots_in (body_at L.schema t)) k ≡ Some df
      → df.shape ≡ One (Union u) → df.deprecated ≡ false → (slot_of L.schema df).required ≡ true
      → not (code_at b p (k - 1) == 0) ≡ true
  unfolding Led
  code_there k df u at shape live required =
      let led = type_led L made t (slice_get L.schema.types t) refl k df u at shape in
      let j = led.0 in
      let g = led.1 in
      let pair = led.4 in
      let before : k - 1 ≡ j = omega (arith, led.2) in
      let union : is_union (stored_shape L.schema df.shape) ≡ true = rw shape refl in
      let present : is_present b p j ≡ true = rw before at ((needed k df at required).1 union) in
      let in_use : g.deprecated ≡ false = pair.marks ∙ live in
      let is_behind : slice_get (slots_of L t) (suc j) ≡ Some (slot_of L.schema df) =
      rw (sym led.2) (slot_there L.schema (slots_in (body_at L.schema t)) k df at) in
      let next : next_required (drop (suc j) (slots_of L t)) ≡ true =
      next_there (slots_of L t) j (slot_of L.schema df) is_behind ∙ required in
      let place : slot_place L b p j (drop (suc j) (slots_of L t)) (slot_of L.schema g)
      ≡ Some (record { sort = code_place u.0 (suc j) true (is_present b p (suc j)); at = p + slot_number b p j }) =
      rw (in_use, pair.code, present, next) refl in
      let code = code_needed L b u.0 (suc j) (is_present b p (suc j)) (p + slot_number b p j)
      (code_keeps L b (slot_of L.schema g) u.0 (suc j) true (is_present b p (suc j)) (p + slot_number b p j)
      (nth_entry es j) (rw place at (field_lies j g led.3))) in
      rw (before, present) code

  needs_of : (k : ℕ) (df : DeclaredField) (shape : Shape) → slice_get (slots_in (body_at L.schema t)) k ≡ Some df
      → df.shape ≡ shape → df.deprecated ≡ false → Needs b p k (slot_of L.schema df) (stored_shape L.schema shape)
  needs_of k df (One (Union u)) at is live = λ r. ((needed k df at r).0, code_there k df u at is live r)
  needs_of k df _ at is live = λ r. (needed k df at r).0

  -- a deprecated slot names no place
  not_in_use : (k : ℕ) (df : DeclaredField) → df.deprecated ≡ true
      → slot_place L b p k (drop (suc k) (slots_of L t)) (slot_of L.schema df) ≡ None
  not_in_use k df gone = rw gone refl

  -- another one that of its shape
  in_use : (k : ℕ) (df : DeclaredField) → df.deprecated ≡ false
      → slot_place L b p k (drop (suc k) (slots_of L t)) (slot_of L.schema df)
      ≡ named_slot L b p k (drop (suc k) (slots_of L t)) (stored_shape L.schema df.shape)
  in_use k df live = rw live refl

  -- the entry of a declared field, in use or not
  by_use : (k : ℕ) (df : DeclaredField) (deprecated : Bool) → df.deprecated ≡ deprecated
      → slice_get (slots_in (body_at L.schema t)) k ≡ Some df → EntryFits L (slot_of L.schema df) (nth_entry es k)
  by_use k df true gone at =
      let marks = gone_marks L.schema df gone in
      none_place L b (slot_of L.schema df) (nth_entry es k) marks.1 marks.0
      (rw (← (not_in_use k df gone)) (field_lies k df at))
  by_use k df false live at =
      live_entry L b small p k (drop (suc k) (slots_of L t)) (slot_of L.schema df) (nth_entry es k)
      (stored_shape L.schema df.shape) live refl
      (marks_of L.schema df df.shape refl (type_marks L made t (slice_get L.schema.types t) refl k df at))
      (needs_of k df df.shape at refl live)
      (λ d e. known k d e) (rw (← (in_use k df live)) (field_lies k df at))

  entry_fits : (k : ℕ) (f : Slot) → slice_get (slots_of L t) k ≡ Some f → EntryFits L f (nth_entry es k)
  entry_fits k f at =
      let found = field_seen L.schema (slots_in (body_at L.schema t)) k f at in
      rw (← found.2) (by_use k found.0 found.0.deprecated refl found.1)

-- entries that fit one by one
each_entry : (L : LaidSchema) (b : Bytes) (fs : List Slot) (xs : List (Option Place)) (es : SlotEntries)
    → LiesSlots L b fs xs es → ((k : ℕ) (f : Slot) → slice_get fs k ≡ Some f → EntryFits L f (nth_entry es k))
    → EntriesFit L fs es
each_entry L b [] [] no_entries lies fit = tt
each_entry L b (f ∷ fs) (x ∷ xs) (absent_entry es) lies fit =
    (fit 0 f refl, each_entry L b fs xs es lies.1 (λ k g e. fit (suc k) g e))
each_entry L b (f ∷ fs) (x ∷ xs) (present_entry d es) lies fit = let first = fit 0 f refl in
    (first.0, first.1, each_entry L b fs xs es lies.1 (λ k g e. fit (suc k) g e))
each_entry L b _ _ _ lies fit = absurd lies

-- The entries of a table fit its slots.
pub table_fits : (L : LaidSchema) → IsWellMade L → (b : Bytes) → All (λ x. x < 256) b → (t p : ℕ) (es : SlotEntries)
    → Keeps L b (part_place (table_part t)) p → LiesSlots L b (slots_of L t) (named_slots L b p 0 (slots_of L t)) es
    → ((k : ℕ) (d : Datum) → nth_entry es k ≡ Some d → KnownFit L b d) → EntriesFit L (slots_of L t) es
table_fits L made b small t p es keeps lies known = each_entry L b (slots_of L t) (named_slots L b p 0 (slots_of L t))
    es lies (entry_fits L made b small t p es keeps lies known)
