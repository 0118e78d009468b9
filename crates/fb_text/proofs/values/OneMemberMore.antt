-- The text of a list of members, fields or elements, one by one.
use Rattle.std.proofs.Common.{◌≡◌, ℕ, zero, suc, ◌+◌, ◌<◌, ◌≤◌, ◌++◌, ◌||◌, List, [], ◌∷◌, length, drop}
use Rattle.std.proofs.Common.{slice_get, Bool, true}
use Rattle.std.proofs.Common.{false, Option, None, Some, refl, sym, subst, ◌∙◌, append_assoc, arith}
use Rattle.std.specs.Prelude.{codes, is_some}
use Rattle.fb_schema.specs.declared.kinds.Kind.{Kind}
use Rattle.fb_schema.specs.declared.kinds.Shape.{Shape}
use Rattle.fb_schema.specs.declared.kinds.Shape.TheVariants.{One, Many}
use Rattle.fb_schema.specs.Schema.{DeclaredField, body_at, slots_in}
use Rattle.fb_layout.specs.Laid.{LaidSchema}
use Rattle.fb_value.specs.Datum.{Datum, a_table, Parts, no_parts, more_parts, SlotEntries, no_entries, absent_entry}
use Rattle.fb_value.specs.Datum.{present_entry, count}
use Rattle.fb_value.specs.Nth.{nth_entry, nth_part}
use Rattle.fb_read.specs.Tails.{entries_from, parts_from}
use Rattle.fb_text.specs.Texts.{inside, closing, value_text, items_text, parts_text, members_text, line, member_line}
use Rattle.fb_text.specs.Texts.{entry_text}
use Rattle.fb_text.specs.Printed.{is_entry_printed, slot_text, part_text}
use Rattle.std.proofs.Math.Bool.{or-true}
use Rattle.std.proofs.Math.Bool.{or-false}

field_there : (fs : List DeclaredField) (k : ℕ) → k < length fs → (f : DeclaredField) × (slice_get fs k ≡ Some f)
field_there [] k less = absurd (omega (arith, less))
field_there (f ∷ fs) zero less = (f, refl)
field_there (f ∷ fs) (suc k) less = field_there fs k (omega (arith, less))

module _ (L : LaidSchema) (defaults : Bool) (inner indent : Option (List ℕ)) where
  -- where no entries are left the bracket is closed
  members_none : (some : Bool) (fs : List DeclaredField)
      → members_text L defaults inner indent some fs no_entries ≡ closing indent some ++ codes "}"
  members_none some [] = refl
  members_none some (f ∷ fs) = refl

  members_nil : (some : Bool) (fs : List DeclaredField) (k : ℕ)
      → members_text L defaults inner indent some fs (entries_from k no_entries) ≡ closing indent some ++ codes "}"
  members_nil some fs zero = members_none some fs
  members_nil some fs (suc k) = members_none some fs

  -- nor where no slots are
  members_past : (some : Bool) (es : SlotEntries)
      → members_text L defaults inner indent some [] es ≡ closing indent some ++ codes "}"
  members_past some no_entries = refl
  members_past some (absent_entry es) = refl
  members_past some (present_entry d es) = refl

  -- the member of slot k, and those behind it
  pub members_step : (some : Bool) (fs : List DeclaredField) (es : SlotEntries) (k : ℕ) (f : DeclaredField)
      → slice_get fs k ≡ Some f
      → slot_text L defaults inner some f (nth_entry es k) ++ members_text L defaults inner indent
      (some || is_entry_printed defaults f (nth_entry es k)) (drop (suc k) fs) (entries_from (suc k) es)
      ≡ members_text L defaults inner indent some (drop k fs) (entries_from k es)
  members_step some [] es k f e = cc
  members_step some (g ∷ fs) no_entries zero f e = rw (or-false some) (members_none some fs)
  members_step some (g ∷ fs) (absent_entry es) zero f e = rw (or-false some) refl
  members_step some (g ∷ fs) (present_entry d es) zero f e = let is : g ≡ f = cc in rw (← is) refl
  members_step some (g ∷ fs) no_entries (suc k) f e =
      rw (or-false some) (members_none some (drop (suc k) fs) ∙ sym (members_none some (drop k fs)))
  members_step some (g ∷ fs) (absent_entry es) (suc k) f e = members_step some fs es k f e
  members_step some (g ∷ fs) (present_entry d es) (suc k) f e = members_step some fs es k f e

  -- where nothing behind is printed
  pub members_behind : (some : Bool) (fs : List DeclaredField) (es : SlotEntries) (k : ℕ)
      → ((j : ℕ) (f : DeclaredField) → k ≤ j → slice_get fs j ≡ Some f → is_entry_printed defaults f (nth_entry es j)
      ≡ false) → closing indent some ++ codes "}" ≡ members_text L defaults inner indent some (drop k fs)
      (entries_from k es)
  members_behind some [] es zero none = sym (members_past some es)
  members_behind some [] es (suc k) none = sym (members_past some (entries_from (suc k) es))
  members_behind some (f ∷ fs) no_entries k none = sym (members_nil some (drop k (f ∷ fs)) k)
  members_behind some (f ∷ fs) (absent_entry es) zero none =
      members_behind some fs es zero (λ j g past there. none (suc j) g (omega arith) there)
  members_behind some (f ∷ fs) (present_entry d es) zero none =
      let plain = none 0 f (omega arith) refl in
      let rest = members_behind some fs es zero (λ j g past there. none (suc j) g (omega arith) there) in
      subst (λ (p : Bool). closing indent some ++ codes "}" ≡ entry_text L.schema p inner some f.name f.shape d
      (value_text L defaults inner f.shape d) ++ members_text L defaults inner indent (some || p) fs es) (sym plain)
      (rw (or-false some) rest)
  members_behind some (f ∷ fs) (absent_entry es) (suc k) none =
      members_behind some fs es k (λ j g past there. none (suc j) g (omega (arith, past)) there)
  members_behind some (f ∷ fs) (present_entry d es) (suc k) none =
      members_behind some fs es k (λ j g past there. none (suc j) g (omega (arith, past)) there)

  unprinted_text : (some : Bool) (f : DeclaredField) (o : Option Datum) (fs : List DeclaredField) (es : SlotEntries)
      → is_entry_printed defaults f o ≡ false → members_text L defaults inner indent some fs es
      ≡ slot_text L defaults inner some f o ++ members_text L defaults inner indent
      (some || is_entry_printed defaults f o) fs es
  unprinted_text some f None fs es plain = rw (or-false some) refl
  unprinted_text some f (Some d) fs es plain =
      rw plain (rw (or-false some) refl)

  -- slots that aren't printed, passed by
  pub members_skip : (some : Bool) (fs : List DeclaredField) (es : SlotEntries) (n k j : ℕ) → k + n ≡ j
      → j ≤ length fs
      → ((i : ℕ) (f : DeclaredField) → k ≤ i → i < j → slice_get fs i ≡ Some f
      → is_entry_printed defaults f (nth_entry es i) ≡ false)
      → members_text L defaults inner indent some (drop j fs) (entries_from j es)
      ≡ members_text L defaults inner indent some (drop k fs) (entries_from k es)
  members_skip some fs es zero k j sum within none = let same : k ≡ j = omega (arith, sum) in rw same refl
  members_skip some fs es (suc n) k j sum within none =
      let here = field_there fs k (omega (arith, sum, within)) in
      let plain = none k here.0 (omega arith) (omega (arith, sum)) here.1 in
      members_skip some fs es n (suc k) j (omega (arith, sum)) within
      (λ i f past less there. none i f (omega (arith, past)) less there)
      ∙ (unprinted_text some here.0 (nth_entry es k) (drop (suc k) fs) (entries_from (suc k) es) plain
      ∙ members_step some fs es k here.0 here.1)

  parts_none : (some : Bool) (fs : List DeclaredField)
      → parts_text L defaults inner indent some fs no_parts ≡ closing indent some ++ codes "}"
  parts_none some [] = refl
  parts_none some (f ∷ fs) = refl

  parts_past : (some : Bool) (ds : Parts)
      → parts_text L defaults inner indent some [] ds ≡ closing indent some ++ codes "}"
  parts_past some no_parts = refl
  parts_past some (more_parts d ds) = refl

  -- field k, and those behind it
  pub parts_step : (some : Bool) (fs : List DeclaredField) (ds : Parts) (k : ℕ) (f : DeclaredField)
      → slice_get fs k ≡ Some f
      → part_text L defaults inner some f (nth_part ds k) ++ parts_text L defaults inner indent
      (some || is_some (nth_part ds k)) (drop (suc k) fs) (parts_from (suc k) ds)
      ≡ parts_text L defaults inner indent some (drop k fs) (parts_from k ds)
  parts_step some [] ds k f e = cc
  parts_step some (g ∷ fs) no_parts zero f e = rw (or-false some) (parts_none some fs)
  parts_step some (g ∷ fs) (more_parts d ds) zero f e = let is : g ≡ f = cc in
      rw (← is, or-true some)
      (append_assoc (member_line inner some g.name []) (value_text L defaults inner g.shape d)
      (parts_text L defaults inner indent true fs ds))
  parts_step some (g ∷ fs) no_parts (suc k) f e =
      rw (or-false some) (parts_none some (drop (suc k) fs) ∙ sym (parts_none some (drop k fs)))
  parts_step some (g ∷ fs) (more_parts d ds) (suc k) f e = parts_step some fs ds k f e

  pub parts_end : (some : Bool) (fs : List DeclaredField) (ds : Parts) (k : ℕ) → length fs ≤ k
      → closing indent some ++ codes "}" ≡ parts_text L defaults inner indent some (drop k fs) (parts_from k ds)
  parts_end some [] ds zero e = sym (parts_past some ds)
  parts_end some [] ds (suc k) e = sym (parts_past some (parts_from (suc k) ds))
  parts_end some (f ∷ fs) ds zero e = absurd (omega (arith, e))
  parts_end some (f ∷ fs) no_parts (suc k) e = sym (parts_none some (drop k fs))
  parts_end some (f ∷ fs) (more_parts d ds) (suc k) e = parts_end some fs ds k (omega (arith, e))

  -- element i, and those behind it
  pub items_step : (kind : Kind) (some : Bool) (ds : Parts) (i : ℕ) (d : Datum) → nth_part ds i ≡ Some d
      → line inner some ++ (value_text L defaults inner (One kind) d ++ items_text L defaults inner indent kind true
      (parts_from (suc i) ds)) ≡ items_text L defaults inner indent kind some (parts_from i ds)
  items_step kind some no_parts i d e = cc
  items_step kind some (more_parts x ds) zero d e = let is : x ≡ d = cc in rw (← is) refl
  items_step kind some (more_parts x ds) (suc i) d e = items_step kind some ds i d e

  pub items_end : (kind : Kind) (some : Bool) (ds : Parts) (i : ℕ) → i ≡ count ds → closing indent some ++ codes "]"
      ≡ items_text L defaults inner indent kind some (parts_from i ds)
  items_end kind some no_parts zero e = refl
  items_end kind some no_parts (suc i) e = refl
  items_end kind some (more_parts d ds) zero e = absurd (omega arith)
  items_end kind some (more_parts d ds) (suc i) e = items_end kind some ds i (omega arith)

  pub table_text : (shape : Shape) (t : ℕ) (es : SlotEntries)
      → codes "{" ++ members_text L defaults (inside indent) indent false (slots_in (body_at L.schema t)) es
      ≡ value_text L defaults indent shape (a_table t es)
  table_text (One kind) t es = refl
  table_text (Many kind) t es = refl
