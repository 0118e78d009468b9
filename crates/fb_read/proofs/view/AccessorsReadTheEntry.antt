-- What the accessors of a view return is the entry of the slot.
use Rattle.std.proofs.Common.{◌≡◌, ℕ, zero, suc, ◌+◌, ◌<◌, ◌≤◌, List, [], ◌∷◌, length, drop}
use Rattle.std.proofs.Common.{slice_index_or, Option, None, Some, refl, sym, ap, arith}
use Rattle.fb_schema.specs.declared.kinds.Base.{Base}
use Rattle.fb_schema.specs.declared.kinds.Kind.{Kind}
use Rattle.fb_schema.specs.declared.kinds.TypeId.{TypeId}
use Rattle.fb_schema.specs.declared.types.FieldInfo.{FieldInfo}
use Rattle.fb_schema.specs.Alignments.{base_size}
use Rattle.fb_layout.specs.Laid.{LaidSchema, Slot, StoredKind, scalar_kind, struct_kind, slots_of, parts_of, struct_at}
use Rattle.fb_layout.specs.Laid.{stored_kind}
use Rattle.fb_value.specs.Datum.{Datum, a_number, a_text, a_vector, a_struct, a_table, a_member, Parts}
use Rattle.fb_value.specs.Datum.{count, SlotEntries, no_entries, absent_entry, present_entry}
use Rattle.fb_value.specs.Num.{Bytes, num, part_of, scalar_of}
use Rattle.fb_value.specs.Places.{table_part, member_part, text_part, vector_part, part_place}
use Rattle.fb_value.specs.Places.{Place, named_slots}
use Rattle.fb_value.specs.Lies.{LiesInline, LiesParts, Lies, LiesItems, LiesSlots}
use Rattle.fb_value.specs.Nth.{nth_entry, slot_place, LiesInSlot}
use Rattle.fb_value.proofs.held.EachPartLiesInItsPlace.{entry_lies_shown}
use Rattle.fb_read.specs.declared.stored.Stored.{Stored}
use Rattle.fb_read.specs.declared.stored.Stored.TheVariants.{Absent, Unknown, Number, Fixed, Text, Table, Member}
use Rattle.fb_read.specs.declared.stored.Stored.TheVariants.{Vector}
use Rattle.fb_read.specs.Stored.{StoredAs, stored_place, text_place_of, table_place_of, member_place_of}
use Rattle.fb_read.specs.Stored.{vector_place_of, struct_place_of, number_place_of, default_in, unknown_code_of}
use Rattle.fb_read.specs.Stored.{text_behind}
use Rattle.fb_read.specs.Views.{entry_of, number_in, text_in, table_in, struct_in, vector_in, member_in, unknown_in}
use Rattle.fb_read.specs.Visits.{slot_seen, slots_seen}
use Rattle.fb_read.proofs.places.FieldsAreTheirSlots.{slot_there, seen_drop}
use Rattle.fb_read.proofs.stored.StoredIsTheEntry.{stored_as}
use Rattle.fb_read.proofs.view.EachSortHasItsClass.{class_of}
use Rattle.fb_read.proofs.view.EachSortHasItsClass.{stored_class, number_else, text_else}
use Rattle.fb_read.proofs.view.EachSortHasItsClass.{table_else, member_else, unknown_else, struct_else, vector_else}
use Rattle.fb_layout.proofs.slots.SlotsAreAsManyAsFields.{seen_long}

-- ---- what is found, or not

pub text_none : (L : LaidSchema) (b : Bytes) (s : Stored) (o : Option Datum) → StoredAs L b s o → text_place_of s ≡ None
    → text_in o ≡ None
text_none L b (Text p) o stored none = cc
text_none L b (Absent None) o stored none = rw stored refl
text_none L b (Absent (Some n)) o stored none = rw stored refl
text_none L b s o stored none = text_else o (class_of s) (stored_class L b s o stored) (λ e. omega arith)

pub table_none : (L : LaidSchema) (b : Bytes) (s : Stored) (o : Option Datum) → StoredAs L b s o
    → table_place_of s ≡ None → table_in o ≡ None
table_none L b (Table t p) o stored none = cc
table_none L b (Absent None) o stored none = rw stored refl
table_none L b (Absent (Some n)) o stored none = rw stored refl
table_none L b s o stored none = table_else o (class_of s) (stored_class L b s o stored) (λ e. omega arith)

pub member_none : (L : LaidSchema) (b : Bytes) (s : Stored) (o : Option Datum) → StoredAs L b s o
    → member_place_of s ≡ None → member_in o ≡ None
member_none L b (Member c t p) o stored none = cc
member_none L b (Absent None) o stored none = rw stored refl
member_none L b (Absent (Some n)) o stored none = rw stored refl
member_none L b s o stored none = member_else o (class_of s) (stored_class L b s o stored) (λ e. omega arith)

pub unknown_found : (L : LaidSchema) (b : Bytes) (s : Stored) (o : Option Datum) → StoredAs L b s o
    → unknown_code_of s ≡ unknown_in o
unknown_found L b (Unknown c p) o stored = rw stored refl
unknown_found L b (Absent None) o stored = rw stored refl
unknown_found L b (Absent (Some n)) o stored = rw stored refl
unknown_found L b s o stored = sym (unknown_else o (class_of s) (stored_class L b s o stored) (λ e. omega arith))

pub number_none : (L : LaidSchema) (b : Bytes) (s : Stored) (o : Option Datum) → StoredAs L b s o
    → number_place_of s ≡ None → default_in s ≡ number_in o
number_none L b (Number base p) o stored none = cc
number_none L b (Absent None) o stored none = rw stored refl
number_none L b (Absent (Some n)) o stored none = rw stored refl
number_none L b s o stored none = sym (number_else o (class_of s) (stored_class L b s o stored) (λ e. omega arith))

pub text_is : (s : Stored) (q : ℕ) → text_place_of s ≡ Some q → s ≡ Text q
text_is (Text p) q e = let is : p ≡ q = cc in rw is refl
text_is _ q e = cc

pub table_is : (s : Stored) (t : TypeId) (q : ℕ) → table_place_of s ≡ Some (t, q) → s ≡ Table t q
table_is (Table x p) t q e = let same : (x, p) ≡ (t, q) = cc in ap (λ (y : TypeId × ℕ). Table y.0 y.1) same
table_is _ t q e = cc

pub member_is : (s : Stored) (c : ℕ) (t : TypeId) (q : ℕ) → member_place_of s ≡ Some (c, t, q) → s ≡ Member c t q
member_is (Member k x p) c t q e = let same : (k, x, p) ≡ (c, t, q) = cc in
    ap (λ (y : ℕ × TypeId × ℕ). Member y.0 y.1 y.2) same
member_is _ c t q e = cc

pub number_is : (s : Stored) (base : Base) (q : ℕ) → number_place_of s ≡ Some (base, q) → s ≡ Number base q
number_is (Number x p) base q e = let same : (x, p) ≡ (base, q) = cc in ap (λ (y : Base × ℕ). Number y.0 y.1) same
number_is _ base q e = cc

scalar_there : (L : LaidSchema) (b : Bytes) (base : Base) (p : ℕ) (d : Datum) → LiesInline L b (scalar_kind base) p d
    → number_in (Some d) ≡ Some (scalar_of base (num b p (base_size base)))
scalar_there L b base p (a_number n) lies = ap Some lies
scalar_there L b base p _ lies = absurd lies

-- the number that was found
pub number_found : (L : LaidSchema) (b : Bytes) (s : Stored) (base : Base) (q : ℕ) (o : Option Datum)
    → number_place_of s ≡ Some (base, q) → StoredAs L b s o
    → Some (scalar_of base (num b q (base_size base))) ≡ number_in o
number_found L b s base q o e stored =
    let has = rw (number_is s base q e) at stored in
    rw has.1 (sym (scalar_there L b base q has.0 has.2.1))

pub text_here : (L : LaidSchema) (b : Bytes) (q : ℕ) (d : Datum) → Lies L b (part_place text_part) q d
    → text_in (Some d) ≡ Some (part_of b (q + 4) (num b q 4))
text_here L b q (a_text bytes) lies = ap Some lies.1
text_here L b q _ lies = absurd lies

-- the text that was found
pub text_found : (L : LaidSchema) (b : Bytes) (s : Stored) (q : ℕ) (o : Option Datum) → text_place_of s ≡ Some q
    → StoredAs L b s o → Some (text_behind b q) ≡ text_in o
text_found L b s q o e stored =
    let has = rw (text_is s q e) at stored in
    rw has.1 (sym (text_here L b (q + num b q 4) has.0 has.2.1))

table_here : (L : LaidSchema) (b : Bytes) (t q : ℕ) (d : Datum) → Lies L b (part_place (table_part t)) q d
    → table_in (Some d) ≡ Some d
table_here L b t q (a_table type es) lies = refl
table_here L b t q _ lies = absurd lies

pub table_from : (L : LaidSchema) (b : Bytes) (t q : ℕ) (o : Option Datum) (x : Datum) → o ≡ Some x
    → Lies L b (part_place (table_part t)) q x → (d : Datum) × (table_in o ≡ Some d)
    × Lies L b (part_place (table_part t)) q d
table_from L b t q o x e lies = (x, rw e (table_here L b t q x lies), lies)

-- the table that was found
pub table_found : (L : LaidSchema) (b : Bytes) (s : Stored) (t : TypeId) (q : ℕ) (o : Option Datum)
    → table_place_of s ≡ Some (t, q) → StoredAs L b s o
    → (d : Datum) × (table_in o ≡ Some d) × Lies L b (part_place (table_part t.0)) (q + num b q 4) d
table_found L b s t q o e stored =
    let has = rw (table_is s t q e) at stored in
    table_from L b t.0 (q + num b q 4) o has.0 has.1 has.2.1

member_here : (L : LaidSchema) (b : Bytes) (c t q : ℕ) (x : Datum) → Lies L b (part_place (member_part c t)) q x
    → (d : Datum) × (member_in (Some x) ≡ Some (c, d)) × Lies L b (part_place (table_part t)) q d
member_here L b c t q (a_member code d) lies = (d, rw lies.0 refl, lies.1)
member_here L b c t q _ lies = absurd lies

member_from : (L : LaidSchema) (b : Bytes) (c t q : ℕ) (o : Option Datum) (x : Datum) → o ≡ Some x
    → Lies L b (part_place (member_part c t)) q x → (d : Datum) × (member_in o ≡ Some (c, d))
    × Lies L b (part_place (table_part t)) q d
member_from L b c t q o x e lies = let found = member_here L b c t q x lies in (found.0, rw e found.1, found.2)

-- the member that was found
pub member_found : (L : LaidSchema) (b : Bytes) (s : Stored) (c : ℕ) (t : TypeId) (q : ℕ) (o : Option Datum)
    → member_place_of s ≡ Some (c, t, q) → StoredAs L b s o
    → (d : Datum) × (member_in o ≡ Some (c, d)) × Lies L b (part_place (table_part t.0)) (q + num b q 4) d
member_found L b s c t q o e stored =
    let has = rw (member_is s c t q e) at stored in
    member_from L b c t.0 (q + num b q 4) o has.0 has.1 has.2.1

-- ---- the slots of a table

nth_past : (L : LaidSchema) (b : Bytes) (fs : List Slot) (xs : List (Option Place)) (es : SlotEntries) (k : ℕ)
    → LiesSlots L b fs xs es → length fs ≤ k → nth_entry es k ≡ None
nth_past L b [] [] no_entries k lies past = refl
nth_past L b (f ∷ fs) (x ∷ xs) (absent_entry es) zero lies past = absurd (omega arith)
nth_past L b (f ∷ fs) (x ∷ xs) (absent_entry es) (suc k) lies past = nth_past L b fs xs es k lies.1 (omega arith)
nth_past L b (f ∷ fs) (x ∷ xs) (present_entry d es) zero lies past = absurd (omega arith)
nth_past L b (f ∷ fs) (x ∷ xs) (present_entry d es) (suc k) lies past = nth_past L b fs xs es k lies.1 (omega arith)
nth_past L b _ _ _ k lies past = absurd lies

-- past the slots there is no entry
pub entry_past : (L : LaidSchema) (b : Bytes) (t p : ℕ) (xs : List FieldInfo) (d : Datum) (k : ℕ)
    → slots_of L t ≡ slots_seen L xs → length xs ≤ k → Lies L b (part_place (table_part t)) p d → entry_of d k ≡ None
entry_past L b t p xs (a_table type es) k seen past lies =
    nth_past L b (slots_of L t) (named_slots L b p 0 (slots_of L t)) es k lies.2 (rw (seen, seen_long L xs) past)
entry_past L b t p xs _ k seen past lies = absurd lies

-- what lies in one slot
pub entry_there : (L : LaidSchema) (b : Bytes) (t p : ℕ) (xs : List FieldInfo) (d : Datum) (k : ℕ) (x : FieldInfo)
    → slots_of L t ≡ slots_seen L xs → k < length xs → x ≡ slice_index_or xs k x
    → Lies L b (part_place (table_part t)) p d
    → LiesInSlot L b (slot_seen L x) (slot_place L b p k (drop (suc k) (slots_of L t)) (slot_seen L x)) (entry_of d k)
entry_there L b t p xs (a_table type es) k x seen less is lies =
    entry_lies_shown L b p (slots_of L t) es k (slot_seen L x) lies.2 (rw seen (slot_there L xs k x less is))
entry_there L b t p xs _ k x seen less is lies = absurd lies

-- what was found in one slot is its entry
pub entry_stored : (L : LaidSchema) (b : Bytes) (t p : ℕ) (xs : List FieldInfo) (d : Datum) (k : ℕ) (x : FieldInfo)
    (s : Stored) → slots_of L t ≡ slots_seen L xs → k < length xs → x ≡ slice_index_or xs k x
    → Lies L b (part_place (table_part t)) p d
    → stored_place L s ≡ slot_place L b p k (slots_seen L (drop (k + 1) xs)) (slot_seen L x)
    → (stored_place L s ≡ None → default_in s ≡ (slot_seen L x).if_absent) → StoredAs L b s (entry_of d k)
entry_stored L b t p xs d k x s seen less is lies place default =
    let one : suc k ≡ k + 1 = omega arith in
    let there = rw (seen, seen_drop L xs (suc k), one) at (entry_there L b t p xs d k x seen less is lies) in
    stored_as L b (slot_seen L x) s (entry_of d k) default (rw place there)

pub struct_none : (L : LaidSchema) (b : Bytes) (s : Stored) (o : Option Datum) → StoredAs L b s o
    → struct_place_of s ≡ None → struct_in o ≡ None
struct_none L b (Fixed x p) o stored none = cc
struct_none L b (Absent None) o stored none = rw stored refl
struct_none L b (Absent (Some n)) o stored none = rw stored refl
struct_none L b s o stored none = struct_else o (class_of s) (stored_class L b s o stored) (λ e. omega arith)

pub vector_none : (L : LaidSchema) (b : Bytes) (s : Stored) (o : Option Datum) → StoredAs L b s o
    → vector_place_of s ≡ None → vector_in o ≡ None
vector_none L b (Vector kind p) o stored none = cc
vector_none L b (Absent None) o stored none = rw stored refl
vector_none L b (Absent (Some n)) o stored none = rw stored refl
vector_none L b s o stored none = vector_else o (class_of s) (stored_class L b s o stored) (λ e. omega arith)

pub struct_is : (s : Stored) (t : TypeId) (q : ℕ) → struct_place_of s ≡ Some (t, q) → s ≡ Fixed t q
struct_is (Fixed x p) t q e = let same : (x, p) ≡ (t, q) = cc in ap (λ (y : TypeId × ℕ). Fixed y.0 y.1) same
struct_is _ t q e = cc

pub vector_is : (s : Stored) (kind : Kind) (q : ℕ) → vector_place_of s ≡ Some (kind, q) → s ≡ Vector kind q
vector_is (Vector x p) kind q e = let same : (x, p) ≡ (kind, q) = cc in ap (λ (y : Kind × ℕ). Vector y.0 y.1) same
vector_is _ kind q e = cc

struct_from : (L : LaidSchema) (b : Bytes) (s q : ℕ) (o : Option Datum) (d : Datum) → o ≡ Some d
    → LiesInline L b (struct_kind s) q d → (ds : Parts) × (struct_in o ≡ Some ds)
    × LiesParts L b (parts_of L s) (struct_at L s).offsets q ds
struct_from L b s q o (a_struct ds) e lies = (ds, rw e refl, lies)
struct_from L b s q o _ e lies = absurd lies

-- the struct that was found
pub struct_found : (L : LaidSchema) (b : Bytes) (s : Stored) (t : TypeId) (q : ℕ) (o : Option Datum)
    → struct_place_of s ≡ Some (t, q) → StoredAs L b s o
    → (ds : Parts) × (struct_in o ≡ Some ds) × LiesParts L b (parts_of L t.0) (struct_at L t.0).offsets q ds
struct_found L b s t q o e stored =
    let has = rw (struct_is s t q e) at stored in
    struct_from L b t.0 q o has.0 has.1 has.2.1

vector_from : (L : LaidSchema) (b : Bytes) (kind : StoredKind) (q : ℕ) (o : Option Datum) (d : Datum) → o ≡ Some d
    → Lies L b (part_place (vector_part kind)) q d → (ds : Parts) × (vector_in o ≡ Some ds) × (count ds ≡ num b q 4)
    × LiesItems L b kind (q + 4) ds
vector_from L b kind q o (a_vector ds) e lies = (ds, rw e refl, lies.1, lies.2)
vector_from L b kind q o _ e lies = absurd lies

-- the vector that was found
pub vector_found : (L : LaidSchema) (b : Bytes) (s : Stored) (kind : Kind) (q : ℕ) (o : Option Datum)
    → vector_place_of s ≡ Some (kind, q) → StoredAs L b s o
    → (ds : Parts) × (vector_in o ≡ Some ds) × (count ds ≡ num b (q + num b q 4) 4)
    × LiesItems L b (stored_kind L.schema kind) ((q + num b q 4) + 4) ds
vector_found L b s kind q o e stored =
    let has = rw (vector_is s kind q e) at stored in
    vector_from L b (stored_kind L.schema kind) (q + num b q 4) o has.0 has.1 has.2.1
