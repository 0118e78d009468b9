-- What is meant within the limits is computed.
use Rattle.std.proofs.Common.{◌≡◌, ◌∙◌, ℕ, zero, suc, ◌+◌, ◌-◌, ◌≤◌, ◌||◌, ℤ, List, [], ◌∷◌, Bool, true, false, Option}
use Rattle.std.proofs.Common.{Some, None, option_map, Ok, if◌then◌else◌, Less, Equal, Greater, refl, ap, subst, arith}
use Rattle.std.proofs.lemmas.Option.{same_Some}
use Rattle.std.specs.Ordering.{nat_cmp, match_ordering}
use Rattle.std.specs.Cmp.Lexicographic.{slice_cmp}
use Rattle.serde_json.specs.Data.{Data, null, boolean, number, string, array, object, Items, no_items, item, Members}
use Rattle.serde_json.specs.Data.{no_members, member}
use Rattle.serde_json.specs.Find.{get_member}
use Rattle.fb_schema.specs.declared.kinds.Base.{Base}
use Rattle.fb_schema.specs.declared.kinds.Base.TheVariants.{Bool as Boolean}
use Rattle.fb_schema.specs.declared.kinds.Kind.{Kind}
use Rattle.fb_schema.specs.declared.kinds.Kind.TheVariants.{Scalar, Enum, Struct, Table, Union, Code, Text}
use Rattle.fb_schema.specs.declared.kinds.Shape.{Shape}
use Rattle.fb_schema.specs.declared.kinds.Shape.TheVariants.{One, Many}
use Rattle.fb_schema.specs.Schema.{Name, DeclaredField, body_at, slots_in, parts_in as fields_of_struct}
use Rattle.fb_layout.specs.Laid.{LaidSchema, Slot, slot_of, one_of, union_kind, default_of, member_by_code}
use Rattle.fb_value.specs.Counts.{cells, parts_cells, entries_cells, depth, parts_depth, entries_depth}
use Rattle.fb_value.specs.Datum.{Datum, a_number, a_text, a_vector, a_struct, a_table, a_member, Parts, no_parts}
use Rattle.fb_value.specs.Datum.{more_parts, SlotEntries, no_entries, absent_entry, present_entry, count}
use Rattle.fb_value.proofs.types.PartsAreListed.{parts_out, entries_out, parts_same, entries_same}
use Rattle.fb_json.specs.declared.faults.Place.{Place}
use Rattle.fb_json.specs.Meant.{slot_place, present, as_member, union_meant, plain_meant, used_meant, entry_meant}
use Rattle.fb_json.specs.Meant.{slots_meant, table_meant, parts_meant, struct_meant, object_meant, vector_meant, meant}
use Rattle.fb_json.specs.Meant.{items_meant, look, count as items_count}
use Rattle.fb_json.specs.Means.{ScalarMeans, member_called, IsKnown, AbsentMeans, AbsentAt, PresentAs, PresentMeans}
use Rattle.fb_json.specs.Means.{MeansAs, MemberMeans, PartsMean, EachMeans, SlotsMean}
use Rattle.fb_json.proofs.laws.EachStepOfABindSucceeds.{spends}
use Rattle.fb_json.proofs.slots.LookUpFindsMembers.{found_in}
use Rattle.fb_json.proofs.laws.ComputedEntryIsMeant.{present_is}
use Rattle.fb_json.proofs.laws.MeantLeafIsComputed.{code_full}
use Rattle.fb_json.proofs.laws.MeantLeafIsComputed.{CompleteAt, leaf_full}
use Rattle.fb_json.proofs.slots.MembersWithTheirMeaning.{looked}
use Rattle.fb_json.proofs.slots.MembersWithTheirMeaning.{with_meaning}
use Rattle.fb_json.proofs.slots.CodeSlots.{code_default}

-- ---- entries

-- a union, and its code, have no default
union_default : (b : Bool) (n : ℤ) (u : ℕ) → default_of b n (one_of (union_kind u)) ≡ None
union_default true n u = refl
union_default false n u = refl

module _ (L : LaidSchema) (unknown : Bool) where
  -- an entry that is computed
  abbrev Gives : LaidSchema → DeclaredField → ℕ → Option Data → Shape → ℕ → ℕ → Place → Option Datum × ℕ → Type 0
  Gives L f c o shape levels left at e = used_meant L f c (option_map (meant L unknown) o) at levels left shape ≡ Ok e

  plain_absent : (f : DeclaredField) (shape : Shape) (o : Option Data) (at : Place) (levels left : ℕ) → o ≡ None
      → (slot_of L.schema f).if_absent ≡ None → (slot_of L.schema f).required ≡ false
      → plain_meant (slot_of L.schema f) shape (option_map (meant L unknown) o) at levels left ≡ Ok (None, left)
  unfolding plain_meant
  plain_absent f shape None at levels left gone none free = rw (none, free) refl
  plain_absent f shape (Some t) at levels left gone none free = cc

  absent_full : (f : DeclaredField) (c : ℕ) (o : Option Data) (shape : Shape) (at : Place) (levels left : ℕ)
      → AbsentMeans L f c o shape → Gives L f c o shape levels left at (None, left)
  unfolding union_meant
  absent_full f c o (One (Code u)) at levels left h = refl
  absent_full f c o (One (Union u)) at levels left h = rw (h.0, h.1, h.2, h.3) refl
  absent_full f c o (One (Scalar b)) at levels left h = plain_absent f (One (Scalar b)) o at levels left h.0 h.1 h.2
  absent_full f c o (One (Enum b)) at levels left h = plain_absent f (One (Enum b)) o at levels left h.0 h.1 h.2
  absent_full f c o (One (Struct b)) at levels left h = plain_absent f (One (Struct b)) o at levels left h.0 h.1 h.2
  absent_full f c o (One (Table b)) at levels left h = plain_absent f (One (Table b)) o at levels left h.0 h.1 h.2
  absent_full f c o (One Text) at levels left h = plain_absent f (One Text) o at levels left h.0 h.1 h.2
  absent_full f c o (Many b) at levels left h = plain_absent f (Many b) o at levels left h.0 h.1 h.2

  -- what a member means, or the default
  abbrev pub IsPresent : Slot → Shape → ℕ → Option Data → Datum → Type 0
  IsPresent s shape c o d = PresentMeans s shape o d (λ t. MeansAs L unknown t shape d)
      (λ t u. MemberMeans L unknown t u c d)

  plain_full : (f : DeclaredField) (c : ℕ) (shape : Shape) (o : Option Data) (d : Datum) (at : Place) (levels left : ℕ)
      → ((t : Data) → PresentAs shape (MeansAs L unknown t shape d) (λ u. MemberMeans L unknown t u c d)
      → MeansAs L unknown t shape d) → ((t : Data) → o ≡ Some t → CompleteAt L unknown t)
      → IsPresent (slot_of L.schema f) shape c o d → depth d ≤ levels → cells d ≤ left
      → plain_meant (slot_of L.schema f) shape (option_map (meant L unknown) o) at levels left
      ≡ Ok (Some d, left - cells d)
  unfolding plain_meant
  plain_full f c shape None d at levels left own complete h deep enough =
      let all : left - 0 ≡ left = omega arith in
      rw (h.1, h.2, all) refl
  plain_full f c shape (Some t) d at levels left own complete h deep enough =
      rw (complete t refl shape at levels left d (own t h) deep enough) refl

  member_full : (s : Slot) (u c : ℕ) (t : Data) (d : Datum) (at : Place) (levels left : ℕ) → CompleteAt L unknown t
      → MemberMeans L unknown t u c d → depth d ≤ levels → cells d ≤ left
      → as_member c (member_by_code L u c) (meant L unknown t) at levels left ≡ Ok (Some d, left - cells d)
  member_full s u c t (a_member k d) at levels left complete h deep enough =
      let all = complete (One (Table (record { 0 = h.1.0 }))) at levels left d h.1.2 deep enough in
      rw (h.1.1, all, h.0) refl
  member_full s u c t _ at levels left complete h deep enough = absurd h

  union_full : (f : DeclaredField) (u c : ℕ) (t : Data) (d : Datum) (at : Place) (levels left : ℕ)
      → CompleteAt L unknown t → MemberMeans L unknown t u c d → depth d ≤ levels → cells d ≤ left
      → union_meant L u (slot_of L.schema f) c (Some (meant L unknown t)) at levels left ≡ Ok (Some d, left - cells d)
  unfolding union_meant
  union_full f u zero t d at levels left complete h deep enough =
      member_full (slot_of L.schema f) u 0 t d at levels left complete h deep enough
  union_full f u (suc c) t d at levels left complete h deep enough =
      member_full (slot_of L.schema f) u (suc c) t d at levels left complete h deep enough

  no_default : (o : Option ℤ) (n : ℤ) → o ≡ None → o ≡ Some n → ⊥
  no_default o n a b = cc

  present_full : (f : DeclaredField) (c : ℕ) (shape : Shape) (o : Option Data) (d : Datum) (at : Place)
      (levels left : ℕ) → f.shape ≡ shape → ((t : Data) → o ≡ Some t → CompleteAt L unknown t)
      → IsPresent (slot_of L.schema f) shape c o d → depth d ≤ levels → cells d ≤ left
      → Gives L f c o shape levels left at (Some d, left - cells d)
  present_full f c (One (Code u)) None d at levels left is complete h deep enough =
      let none : (slot_of L.schema f).if_absent ≡ None =
      rw is (code_default (f.deprecated || f.optional) f.default u.0) in
      absurd (no_default (slot_of L.schema f).if_absent h.0 none h.1)
  present_full f c (One (Code u)) (Some t) d at levels left is complete h deep enough = absurd h
  present_full f c (One (Union u)) None d at levels left is complete h deep enough =
      let none : (slot_of L.schema f).if_absent ≡ None =
      rw is (union_default (f.deprecated || f.optional) f.default u.0) in
      absurd (no_default (slot_of L.schema f).if_absent h.0 none h.1)
  present_full f c (One (Union u)) (Some t) d at levels left is complete h deep enough =
      union_full f u.0 c t d at levels left (complete t refl) h deep enough
  present_full f c (One (Scalar b)) o d at levels left is complete h deep enough =
      plain_full f c (One (Scalar b)) o d at levels left (λ t m. m) complete h deep enough
  present_full f c (One (Enum b)) o d at levels left is complete h deep enough =
      plain_full f c (One (Enum b)) o d at levels left (λ t m. m) complete h deep enough
  present_full f c (One (Struct b)) o d at levels left is complete h deep enough =
      plain_full f c (One (Struct b)) o d at levels left (λ t m. m) complete h deep enough
  present_full f c (One (Table b)) o d at levels left is complete h deep enough =
      plain_full f c (One (Table b)) o d at levels left (λ t m. m) complete h deep enough
  present_full f c (One Text) o d at levels left is complete h deep enough =
      plain_full f c (One Text) o d at levels left (λ t m. m) complete h deep enough
  present_full f c (Many b) o d at levels left is complete h deep enough =
      plain_full f c (Many b) o d at levels left (λ t m. m) complete h deep enough

-- ---- slots, fields and elements

abbrev pub Completes : LaidSchema → Bool → Members → Type 0
Completes L unknown ms = (k : Name) (t : Data) → get_member k ms ≡ Some t → CompleteAt L unknown t

module _ (L : LaidSchema) (unknown : Bool) (ms : Members) (complete : Completes L unknown ms) where
  seen : (f : DeclaredField)
      → present (look L unknown ms f.name) ≡ option_map (meant L unknown) (member_called f.name ms)
  seen f = ap present (looked L unknown ms f.name) ∙ present_is L unknown (get_member f.name ms)

  absent_if : (f : DeclaredField) (at : Place) (c levels left : ℕ) (deprecated : Bool)
      → AbsentAt L f c (member_called f.name ms) deprecated
      → (if deprecated then Ok (None, left) else used_meant L f c (present (look L unknown ms f.name)) at levels left
      f.shape) ≡ Ok (None, left)
  absent_if f at c levels left true h = refl
  absent_if f at c levels left false h =
      rw (seen f) (absent_full L unknown f c (member_called f.name ms) f.shape at levels left h)

  absent_by : (f : DeclaredField) (at : Place) (c levels left : ℕ)
      → AbsentAt L f c (member_called f.name ms) f.deprecated
      → entry_meant L (look L unknown ms) f at c levels left ≡ Ok (None, left)
  unfolding entry_meant
  absent_by f at c levels left h = absent_if f at c levels left f.deprecated h

  present_if : (f : DeclaredField) (at : Place) (c levels left : ℕ) (d : Datum) (deprecated : Bool) → deprecated ≡ false
      → IsPresent L unknown (slot_of L.schema f) f.shape c (member_called f.name ms) d → depth d ≤ levels
      → cells d ≤ left → (if deprecated then Ok (None, left) else used_meant L f c (present (look L unknown ms f.name))
      at levels left f.shape) ≡ Ok (Some d, left - cells d)
  present_if f at c levels left d true is h deep enough = cc
  present_if f at c levels left d false is h deep enough =
      rw (seen f) (present_full L unknown f c f.shape (member_called f.name ms) d at levels left refl
      (λ t has. complete f.name t (found_in (get_member f.name ms) t has)) h deep enough)

  present_by : (f : DeclaredField) (at : Place) (c levels left : ℕ) (d : Datum) → f.deprecated ≡ false
      → IsPresent L unknown (slot_of L.schema f) f.shape c (member_called f.name ms) d → depth d ≤ levels
      → cells d ≤ left → entry_meant L (look L unknown ms) f at c levels left ≡ Ok (Some d, left - cells d)
  unfolding entry_meant
  present_by f at c levels left d is h deep enough = present_if f at c levels left d f.deprecated is h deep enough

  slots_full : (fs : List DeclaredField) (t k before levels left : ℕ) (es : SlotEntries)
      → SlotsMean L unknown ms before fs es → entries_depth es ≤ levels → entries_cells es ≤ left
      → slots_meant L (look L unknown ms) t fs k before levels left ≡ Ok (entries_out es, left - entries_cells es)
  unfolding slots_meant
  slots_full [] t k before levels left no_entries h deep enough =
      let all : left - 0 ≡ left = omega arith in
      rw all refl
  slots_full (f ∷ fs) t k before levels left (absent_entry es) h deep enough =
      let told = code_full L unknown ms f (slot_place t k) before h.0 f.deprecated f.shape h.1 in
      let given = absent_by f (slot_place t k) h.0 levels left h.2 in
      let rest = slots_full fs t (k + 1) h.0 levels left es h.3 deep enough in
      rw (told, given, rest) refl
  slots_full (f ∷ fs) t k before levels left (present_entry d es) h deep enough =
      let shallow : depth d ≤ levels = omega arith in
      let shallows : entries_depth es ≤ levels = omega arith in
      let paid : cells d ≤ left = omega arith in
      let later : entries_cells es ≤ left - cells d = omega arith in
      let told = code_full L unknown ms f (slot_place t k) before h.0 f.deprecated f.shape h.1 in
      let given = present_by f (slot_place t k) h.0 levels left d h.2 h.3 shallow paid in
      let rest = slots_full fs t (k + 1) h.0 levels (left - cells d) es h.4 shallows later in
      let sum : (left - cells d) - entries_cells es ≡ left - (cells d + entries_cells es) = omega arith in
      rw (told, given, rest, sum) refl
  slots_full [] t k before levels left (absent_entry es) h deep enough = absurd h
  slots_full [] t k before levels left (present_entry d es) h deep enough = absurd h
  slots_full (f ∷ fs) t k before levels left no_entries h deep enough = absurd h

  parts_full : (fs : List DeclaredField) (s k levels left : ℕ) (ds : Parts) → PartsMean L unknown ms fs ds
      → parts_depth ds ≤ levels → parts_cells ds ≤ left
      → parts_meant (look L unknown ms) s fs k levels left ≡ Ok (parts_out ds, left - parts_cells ds)
  unfolding parts_meant
  parts_full [] s k levels left no_parts h deep enough =
      let all : left - 0 ≡ left = omega arith in
      rw all refl
  parts_full (f ∷ fs) s k levels left (more_parts d ds) h deep enough =
      let shallow : depth d ≤ levels = omega arith in
      let shallows : parts_depth ds ≤ levels = omega arith in
      let paid : cells d ≤ left = omega arith in
      let later : parts_cells ds ≤ left - cells d = omega arith in
      let found : look L unknown ms f.name ≡ Some (with_meaning L unknown h.0) =
      looked L unknown ms f.name ∙ ap (option_map (with_meaning L unknown)) h.1 in
      let given = complete f.name h.0 h.1 f.shape (slot_place s k) levels left d h.2 shallow paid in
      let rest = parts_full fs s (k + 1) levels (left - cells d) ds h.3 shallows later in
      let sum : (left - cells d) - parts_cells ds ≡ left - (cells d + parts_cells ds) = omega arith in
      rw (found, given, rest, sum) refl
  parts_full [] s k levels left (more_parts d ds) h deep enough = absurd h
  parts_full (f ∷ fs) s k levels left no_parts h deep enough = absurd h

  table_full : (id levels left : ℕ) (at : Place) (es : SlotEntries) → IsKnown L unknown id ms
      → SlotsMean L unknown ms 0 (slots_in (body_at L.schema id)) es → suc (entries_depth es) ≤ levels
      → 1 + entries_cells es ≤ left
      → table_meant L unknown ms (look L unknown ms) id at levels left
      ≡ Ok (a_table id es, left - (1 + entries_cells es))
  unfolding table_meant
  table_full id zero left at es known h deep enough = absurd (omega arith)
  table_full id (suc levels) left at es known h deep enough =
      let one : 1 ≤ left = omega arith in
      let shallows : entries_depth es ≤ levels = omega arith in
      let later : entries_cells es ≤ left - 1 = omega arith in
      let rest = slots_full (slots_in (body_at L.schema id)) id 0 0 levels (left - 1) es h shallows later in
      let sum : (left - 1) - entries_cells es ≡ left - (1 + entries_cells es) = omega arith in
      rw (spends 1 at left one, known, rest, entries_same es, sum) refl

  struct_full : (s levels left : ℕ) (ds : Parts) → IsKnown L unknown s ms
      → PartsMean L unknown ms (fields_of_struct (body_at L.schema s)) ds → parts_depth ds ≤ levels
      → parts_cells ds ≤ left
      → struct_meant L unknown ms (look L unknown ms) s levels left ≡ Ok (a_struct ds, left - parts_cells ds)
  unfolding struct_meant
  struct_full s levels left ds known h deep enough =
      let rest = parts_full (fields_of_struct (body_at L.schema s)) s 0 levels left ds h deep enough in
      rw (known, rest, parts_same ds) refl

same_members : (ms es : Members) → object ms ≡ object es → es ≡ ms
same_members ms es h = cc

same_items : (ts us : Items) → array ts ≡ array us → us ≡ ts
same_items ts us h = cc

no_scalar : (base : Base) (ms : Members) (n : ℤ) → ScalarMeans base (object ms) n → ⊥
no_scalar Boolean ms n h = h
no_scalar _ ms n h = h

no_scalar_list : (base : Base) (ts : Items) (n : ℤ) → ScalarMeans base (array ts) n → ⊥
no_scalar_list Boolean ts n h = h
no_scalar_list _ ts n h = h

object_full : (L : LaidSchema) (unknown : Bool) (ms : Members) → Completes L unknown ms
    → (shape : Shape) (at : Place) (levels left : ℕ) (v : Datum) → MeansAs L unknown (object ms) shape v
    → depth v ≤ levels → cells v ≤ left
    → object_meant L unknown ms (look L unknown ms) shape at levels left ≡ Ok (v, left - cells v)
unfolding object_meant
object_full L unknown ms complete (One (Table id)) at levels left (a_table type es) h deep enough =
    let same = same_members ms h.0 h.1 in
    let K : Members → Type 0 = λ m. IsKnown L unknown type m in
    let S : Members → Type 0 = λ m. SlotsMean L unknown m 0 (slots_in (body_at L.schema type)) es in
    rw (← h.2) (table_full L unknown ms complete type levels left at es (subst K same h.3) (subst S same h.4) deep
    enough)
object_full L unknown ms complete (One (Struct s)) at levels left (a_struct ds) h deep enough =
    let same = same_members ms h.0 h.1 in
    let K : Members → Type 0 = λ m. IsKnown L unknown s.0 m in
    let S : Members → Type 0 = λ m. PartsMean L unknown m (fields_of_struct (body_at L.schema s.0)) ds in
    struct_full L unknown ms complete s.0 levels left ds (subst K same h.2) (subst S same h.3) deep enough
object_full L unknown ms complete (One (Scalar b)) at levels left (a_number n) h deep enough =
    absurd (no_scalar b ms n h)
object_full L unknown ms complete (One (Enum e)) at levels left (a_number n) h deep enough = absurd h
object_full L unknown ms complete (One Text) at levels left (a_text s) h deep enough = cc
object_full L unknown ms complete (Many kind) at levels left (a_vector ds) h deep enough = cc (h.1)
object_full L unknown ms complete _ at levels left _ h deep enough = absurd h

vector_full : (L : LaidSchema) (unknown : Bool) (ts : Items) (shape : Shape) (at : Place) (levels left : ℕ) (v : Datum)
    → ((kind : Kind) (l : ℕ) (ds : Parts) → EachMeans L unknown ts kind ds → parts_depth ds ≤ levels
    → parts_cells ds ≤ l
    → (items_meant L unknown ts kind at levels l ≡ Ok (parts_out ds, l - parts_cells ds)) × (count ds ≡ items_count ts))
    → ((kind : Kind) (ds : Parts) → EachMeans L unknown ts kind ds → count ds ≡ items_count ts)
    → MeansAs L unknown (array ts) shape v → depth v ≤ levels → cells v ≤ left
    → vector_meant (items_meant L unknown ts) (items_count ts) shape at levels left ≡ Ok (v, left - cells v)
unfolding vector_meant
vector_full L unknown ts (Many kind) at levels left (a_vector ds) each long h deep enough =
    let same = same_items ts h.0 h.1 in
    let S : Items → Type 0 = λ us. EachMeans L unknown us kind ds in
    let means = subst S same h.2 in
    let many = long kind ds means in
    let paid : 1 + items_count ts ≤ left = omega arith in
    let later : parts_cells ds ≤ left - (1 + items_count ts) = omega arith in
    let rest = (each kind (left - (1 + items_count ts)) ds means deep later).0 in
    let sum : (left - (1 + items_count ts)) - parts_cells ds ≡ left - ((1 + count ds) + parts_cells ds) = omega arith in
    rw (spends (1 + items_count ts) at left paid, rest, parts_same ds, sum) refl
vector_full L unknown ts (One (Scalar b)) at levels left (a_number n) each long h deep enough =
    absurd (no_scalar_list b ts n h)
vector_full L unknown ts (One (Enum e)) at levels left (a_number n) each long h deep enough = absurd h
vector_full L unknown ts (One Text) at levels left (a_text s) each long h deep enough = cc
vector_full L unknown ts (One (Struct s)) at levels left (a_struct ds) each long h deep enough = cc (h.1)
vector_full L unknown ts (One (Table id)) at levels left (a_table type es) each long h deep enough = cc (h.1)
vector_full L unknown ts _ at levels left _ each long h deep enough = absurd h

long_as : (L : LaidSchema) (unknown : Bool) (ts : Items) (kind : Kind) (ds : Parts) → EachMeans L unknown ts kind ds
    → count ds ≡ items_count ts
long_as L unknown no_items kind no_parts h = refl
long_as L unknown (item t ts) kind (more_parts d ds) h = ap suc (long_as L unknown ts kind ds h.1)
long_as L unknown no_items kind (more_parts d ds) h = absurd h
long_as L unknown (item t ts) kind no_parts h = absurd h

mutual
  pub complete : (L : LaidSchema) (unknown : Bool) (t : Data) → CompleteAt L unknown t
  complete L unknown null shape at levels left v h deep enough =
      leaf_full L unknown null shape at levels left v ((λ ms e. cc), (λ ts e. cc)) h enough
  complete L unknown (boolean b) shape at levels left v h deep enough =
      leaf_full L unknown (boolean b) shape at levels left v ((λ ms e. cc), (λ ts e. cc)) h enough
  complete L unknown (number x) shape at levels left v h deep enough =
      leaf_full L unknown (number x) shape at levels left v ((λ ms e. cc), (λ ts e. cc)) h enough
  complete L unknown (string s) shape at levels left v h deep enough =
      leaf_full L unknown (string s) shape at levels left v ((λ ms e. cc), (λ ts e. cc)) h enough
  complete L unknown (array ts) shape at levels left v h deep enough =
      vector_full L unknown ts shape at levels left v
      (λ kind l ds m d e. (items_complete L unknown ts kind at levels l ds m d e, long_as L unknown ts kind ds m))
      (long_as L unknown ts) h deep enough
  complete L unknown (object ms) shape at levels left v h deep enough =
      object_full L unknown ms (λ k t found. member_complete L unknown ms k t found) shape at levels left v h deep
      enough

  items_complete : (L : LaidSchema) (unknown : Bool) (ts : Items) (kind : Kind) (at : Place) (levels left : ℕ)
      (ds : Parts) → EachMeans L unknown ts kind ds → parts_depth ds ≤ levels → parts_cells ds ≤ left
      → items_meant L unknown ts kind at levels left ≡ Ok (parts_out ds, left - parts_cells ds)
  items_complete L unknown no_items kind at levels left no_parts h deep enough =
      let all : left - 0 ≡ left = omega arith in
      rw all refl
  items_complete L unknown (item t ts) kind at levels left (more_parts d ds) h deep enough =
      let shallow : depth d ≤ levels = omega arith in
      let shallows : parts_depth ds ≤ levels = omega arith in
      let paid : cells d ≤ left = omega arith in
      let later : parts_cells ds ≤ left - cells d = omega arith in
      let given = complete L unknown t (One kind) at levels left d h.0 shallow paid in
      let rest = items_complete L unknown ts kind at levels (left - cells d) ds h.1 shallows later in
      let sum : (left - cells d) - parts_cells ds ≡ left - (cells d + parts_cells ds) = omega arith in
      rw (given, rest, sum) refl
  items_complete L unknown no_items kind at levels left (more_parts d ds) h deep enough = absurd h
  items_complete L unknown (item t ts) kind at levels left no_parts h deep enough = absurd h

  member_complete : (L : LaidSchema) (unknown : Bool) (ms : Members) (k : Name) (t : Data) → get_member k ms ≡ Some t
      → CompleteAt L unknown t
  member_complete L unknown no_members k t found = cc
  member_complete L unknown (member l d ms) k t found =
      elim (slice_cmp nat_cmp k l) as (λ o. match_ordering o (get_member k ms) (Some d) (get_member k ms) ≡ Some t
      → CompleteAt L unknown t) [
        | Less ↦ λ h. member_complete L unknown ms k t h
        | Equal ↦ λ h. subst (CompleteAt L unknown) (same_Some d t h) (complete L unknown d)
        | Greater ↦ λ h. member_complete L unknown ms k t h
      ] found
