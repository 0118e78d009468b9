-- The first union without a name, one entry after another.
use Rattle.std.proofs.Common.{◌≡◌, ℕ, zero, suc, ◌+◌, ◌<◌, ◌≤◌, List, [], ◌∷◌, slice_get, ℤ, Bool, true}
use Rattle.std.proofs.Common.{false, Option, None}
use Rattle.std.proofs.Common.{Some, refl, sym, ap, ◌∙◌, add-one, arith}
use Rattle.std.specs.Option.{option_or, is_some}
use Rattle.fb_layout.specs.Laid.{LaidSchema, StoredKind, scalar_kind, struct_kind, table_kind, text_kind, union_kind}
use Rattle.fb_layout.specs.Laid.{code_kind, Slot, parts_of, struct_at, size_of}
use Rattle.fb_value.specs.Datum.{Datum, a_number, a_text, a_vector, a_struct, a_table, a_member, an_unknown, Parts}
use Rattle.fb_value.specs.Datum.{no_parts, more_parts, SlotEntries, no_entries, absent_entry, present_entry}
use Rattle.fb_value.specs.Num.{Bytes, num}
use Rattle.fb_value.specs.Places.{Place as Spot, text_part, part_place, target_of}
use Rattle.fb_value.specs.Lies.{LiesInline, LiesParts, Element, Lies, LiesItems, LiesSlots}
use Rattle.fb_value.specs.Nth.{nth_entry, nth_part}
use Rattle.fb_read.specs.Tails.{entries_from, parts_from}
use Rattle.fb_json.specs.declared.faults.Place.{Place}
use Rattle.fb_read.specs.Stored.{number_entry}
use Rattle.fb_text.specs.Printed.{first_in_entry}
use Rattle.fb_schema.specs.declared.kinds.TypeId.{TypeId}
use Rattle.fb_schema.specs.declared.kinds.Kind.{Kind}
use Rattle.fb_schema.specs.declared.kinds.Kind.TheVariants.{Table}
use Rattle.fb_schema.specs.Schema.{DeclaredSchema}
use Rattle.fb_layout.specs.Laid.{stored_kind}
use Rattle.fb_read.specs.declared.view.View.{View}
use Rattle.fb_read.specs.Shows.{Shows}
use Rattle.fb_text.specs.Unnamed.{entry_place, first_unnamed, first_in_parts, first_in_entries, nth_child, child_place}
use Rattle.fb_text.specs.Unnamed.{unnamed_from}
use Rattle.fb_text.specs.declared.shown.ValueHead.{ValueHead}
use Rattle.fb_text.specs.declared.shown.ValueHead.TheVariants.{Vector}
use Rattle.fb_text.specs.declared.shown.ValueHead.TheVariants.{Struct as StructFound, Table as TableFound}
use Rattle.fb_text.specs.declared.shown.ValueHead.TheVariants.{Member, Unknown}
use Rattle.fb_text.specs.Shown.{IsTop}

-- the entry of slot k, and those behind it
pub entries_step : (t j k : ℕ) (es : SlotEntries)
    → first_in_entries t j (entries_from k es) ≡ option_or (first_in_entry (entry_place t j) (nth_entry es k))
    (first_in_entries t (j + 1) (entries_from (suc k) es))
entries_step t j zero no_entries = refl
entries_step t j zero (absent_entry es) = refl
entries_step t j zero (present_entry d es) = refl
entries_step t j (suc k) no_entries = refl
entries_step t j (suc k) (absent_entry es) = entries_step t j k es
entries_step t j (suc k) (present_entry d es) = entries_step t j k es

number_named : (at : Place) (o : Option Datum) (n : Option ℤ) → o ≡ number_entry n → None ≡ first_in_entry at o
number_named at o None e = rw e refl
number_named at o (Some n) e = rw e refl

-- where all behind have their defaults alone
pub entries_end : (L : LaidSchema) (b : Bytes) (t j k : ℕ) (fs : List Slot) (xs : List (Option Spot)) (es : SlotEntries)
    → LiesSlots L b fs xs es
    → ((i : ℕ) (s : Slot) → k ≤ i → slice_get fs i ≡ Some s → nth_entry es i ≡ number_entry s.if_absent)
    → None ≡ first_in_entries t j (entries_from k es)
entries_end L b t j zero [] [] no_entries lies unset = refl
entries_end L b t j (suc k) [] [] no_entries lies unset = refl
entries_end L b t j zero (f ∷ fs) (x ∷ xs) (absent_entry es) lies unset =
    entries_end L b t (j + 1) zero fs xs es lies.1 (λ i s past there. unset (suc i) s (omega arith) there)
entries_end L b t j zero (f ∷ fs) (x ∷ xs) (present_entry d es) lies unset =
    rw (← number_named (entry_place t j) (Some d) f.if_absent (unset 0 f (omega arith) refl))
    (entries_end L b t (j + 1) zero fs xs es lies.1 (λ i s past there. unset (suc i) s (omega arith) there))
entries_end L b t j (suc k) (f ∷ fs) (x ∷ xs) (absent_entry es) lies unset =
    entries_end L b t j k fs xs es lies.1 (λ i s past there. unset (suc i) s (omega (arith, past)) there)
entries_end L b t j (suc k) (f ∷ fs) (x ∷ xs) (present_entry d es) lies unset =
    entries_end L b t j k fs xs es lies.1 (λ i s past there. unset (suc i) s (omega (arith, past)) there)
entries_end L b t j k _ _ _ lies unset = absurd lies

-- a slot that has its default alone
pub unset_named : (L : LaidSchema) (b : Bytes) (at : Place) (k : ℕ) (fs : List Slot) (xs : List (Option Spot))
    (es : SlotEntries) → LiesSlots L b fs xs es
    → ((s : Slot) → slice_get fs k ≡ Some s → nth_entry es k ≡ number_entry s.if_absent)
    → None ≡ first_in_entry at (nth_entry es k)
unset_named L b at k [] [] no_entries lies unset = refl
unset_named L b at zero (f ∷ fs) (x ∷ xs) es lies unset =
    number_named at (nth_entry es zero) f.if_absent (unset f refl)
unset_named L b at (suc k) (f ∷ fs) (x ∷ xs) (absent_entry es) lies unset =
    unset_named L b at k fs xs es lies.1 unset
unset_named L b at (suc k) (f ∷ fs) (x ∷ xs) (present_entry d es) lies unset =
    unset_named L b at k fs xs es lies.1 unset
unset_named L b at k _ _ _ lies unset = absurd lies

child_here : (at : Place) (i : ℕ) (ds : Parts)
    → first_in_parts at (parts_from i ds)
    ≡ option_or (first_in_entry at (nth_part ds i)) (first_in_parts at (parts_from (suc i) ds))
child_here at zero no_parts = refl
child_here at (suc i) no_parts = refl
child_here at zero (more_parts d ds) = refl
child_here at (suc i) (more_parts d ds) = child_here at i ds

or_nothing : (o : Option Place) → o ≡ option_or o None
or_nothing None = refl
or_nothing (Some p) = refl

-- child i, and those behind it
pub children_step : (at : Place) (o : Option Datum) (i : ℕ)
    → unnamed_from at o i ≡ option_or (first_in_entry (child_place at o i) (nth_child o i)) (unnamed_from at o (i + 1))
children_step at o i = rw add-one (step o i)
  where
    step : (p : Option Datum) (k : ℕ)
        → unnamed_from at p k ≡ option_or (first_in_entry (child_place at p k) (nth_child p k))
        (unnamed_from at p (suc k))
    step None k = refl
    step (Some (a_number n)) k = refl
    step (Some (a_text bytes)) k = refl
    step (Some (a_vector ds)) k = child_here at k ds
    step (Some (a_struct ds)) k = child_here at k ds
    step (Some (a_table t es)) k =
        entries_step t k k es
        ∙ ap (λ (j : ℕ). option_or (first_in_entry (entry_place t k) (nth_entry es k))
        (first_in_entries t j (entries_from (suc k) es))) (let next : k + 1 ≡ suc k = omega arith in next)
    step (Some (a_member c d)) zero = or_nothing (first_unnamed at d)
    step (Some (a_member c d)) (suc k) = refl
    step (Some (an_unknown c)) k = refl

-- children that have none, passed by
pub children_skip : (at : Place) (o : Option Datum) (n i j : ℕ) → i + n ≡ j
    → ((k : ℕ) → i ≤ k → k < j → first_in_entry (child_place at o k) (nth_child o k) ≡ None)
    → unnamed_from at o j ≡ unnamed_from at o i
children_skip at o zero i j sum none = let same : i ≡ j = omega (arith, sum) in rw same refl
children_skip at o (suc n) i j sum none =
    let here = none i (omega arith) (omega (arith, sum)) in
    children_skip at o n (i + 1) j (omega (arith, sum)) (λ k past less. none k (omega (arith, past)) less)
    ∙ (ap (λ (p : Option Place). option_or p (unnamed_from at o (i + 1))) (sym here) ∙ sym (children_step at o i))

found_unknown : (found : ValueHead) (code : ℕ) → IsTop found (Some (an_unknown code)) → found ≡ Unknown
found_unknown Vector code top = let same = top.1 in cc
found_unknown StructFound code top = let same = top.1 in cc
found_unknown (TableFound t) code top = let same = top.1 in cc
found_unknown (Member c) code top = let same = top.1 in cc
found_unknown Unknown code top = refl
found_unknown _ code top = cc

-- what is no such union itself has the first of its children's
pub from_first : (at : Place) (found : ValueHead) (o : Option Datum) → IsTop found o → (found ≡ Unknown → ⊥)
    → unnamed_from at o 0 ≡ first_in_entry at o
from_first at found (Some (an_unknown c)) top not = absurd (not (found_unknown found c top))
from_first at found _ top not = refl

-- one that is found is the first, and where none is found it's behind
pub found_first : (one two found : Option Place) → found ≡ one → is_some found ≡ true → option_or one two ≡ found
found_first (Some p) two found e some = sym e
found_first None two found e some = cc

pub found_later : (one two found : Option Place) → found ≡ one → is_some found ≡ false → option_or one two ≡ two
found_later None two found e none = refl
found_later (Some p) two found e none = cc

mutual
  -- Numbers and structs have no unions.
  pub inline_named : (L : LaidSchema) (b : Bytes) (kind : StoredKind) (p : ℕ) (at : Place) (d : Datum)
      → LiesInline L b kind p d → None ≡ first_unnamed at d
  inline_named L b (scalar_kind base) p at (a_number n) lies = refl
  inline_named L b (struct_kind s) p at (a_struct ds) lies =
      fields_named L b (parts_of L s) (struct_at L s).offsets p at ds lies
  inline_named L b _ p at _ lies = absurd lies

  pub fields_named : (L : LaidSchema) (b : Bytes) (ks : List StoredKind) (os : List ℕ) (p : ℕ) (at : Place) (ds : Parts)
      → LiesParts L b ks os p ds → None ≡ first_in_parts at ds
  fields_named L b [] os p at no_parts lies = refl
  fields_named L b (k ∷ ks) (o ∷ os) p at (more_parts d ds) lies =
      rw (← inline_named L b k (p + o) at d lies.0) (fields_named L b ks os p at ds lies.1)
  fields_named L b _ _ p at _ lies = absurd lies

pub text_named : (L : LaidSchema) (b : Bytes) (p : ℕ) (at : Place) (d : Datum) → Lies L b (part_place text_part) p d
    → None ≡ first_unnamed at d
text_named L b p at (a_text bytes) lies = refl
text_named L b p at _ lies = absurd lies

abbrev pub is_table : StoredKind → Bool
is_table (table_kind t) = true
is_table _ = false

element_named : (L : LaidSchema) (b : Bytes) (kind : StoredKind) (p : ℕ) (at : Place) (d : Datum)
    → is_table kind ≡ false → Element L b kind p (target_of kind) d (λ sort q. Lies L b sort q d)
    → None ≡ first_unnamed at d
element_named L b (scalar_kind base) p at d plain lies = inline_named L b (scalar_kind base) p at d lies
element_named L b (struct_kind s) p at d plain lies = inline_named L b (struct_kind s) p at d lies
element_named L b (union_kind u) p at d plain lies = inline_named L b (union_kind u) p at d lies
element_named L b (code_kind u) p at d plain lies = inline_named L b (code_kind u) p at d lies
element_named L b text_kind p at d plain lies = text_named L b (p + num b p 4) at d lies.1
element_named L b (table_kind t) p at d plain lies = cc

-- nor have vectors of anything but tables
pub items_named : (L : LaidSchema) (b : Bytes) (kind : StoredKind) (p : ℕ) (at : Place) (ds : Parts)
    → is_table kind ≡ false → LiesItems L b kind p ds → None ≡ first_in_parts at ds
items_named L b kind p at no_parts plain lies = refl
items_named L b kind p at (more_parts d ds) plain lies =
    rw (← element_named L b kind p at d plain lies.0) (items_named L b kind (p + size_of L kind) at ds plain lies.1)

pub plain_kind : (S : DeclaredSchema) (kind : Kind) → ((t : TypeId) → kind ≡ Table t → ⊥)
    → is_table (stored_kind S kind) ≡ false
plain_kind S (Table t) plain = absurd (plain t refl)
plain_kind S _ plain = refl

-- What lies where a view is is a table.
pub table_case : (view : View) (P : Datum → Type 0) (d : Datum) → Shows view d
    → ((t : ℕ) (es : SlotEntries) → Shows view (a_table t es) → P (a_table t es)) → P d
table_case view P (a_table t es) lies known = known t es lies
table_case view P _ lies known = absurd lies
