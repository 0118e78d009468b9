-- What is computed for a tree is what it means.
use Rattle.std.proofs.Common.{◌≡◌, ◌∙◌, ℕ, zero, suc, ◌+◌, ◌≤◌, ◌||◌, List, [], ◌∷◌, Bool, true, false, Option, Some}
use Rattle.std.proofs.Common.{None, option_map, Ok, if◌then◌else◌, Less, Equal, Greater, refl, ap, subst, arith}
use Rattle.std.proofs.lemmas.Option.{same_Some}
use Rattle.std.specs.Ordering.{nat_cmp, match_ordering}
use Rattle.std.specs.Cmp.Lexicographic.{slice_cmp}
use Rattle.serde_json.specs.Data.{Data, null, boolean, number, string, array, object, Items, no_items, item, Members}
use Rattle.serde_json.specs.Data.{no_members, member}
use Rattle.serde_json.specs.Find.{get_member}
use Rattle.fb_schema.specs.declared.kinds.Kind.{Kind}
use Rattle.fb_schema.specs.declared.kinds.Kind.TheVariants.{Struct, Table}
use Rattle.fb_schema.specs.declared.kinds.Shape.{Shape}
use Rattle.fb_schema.specs.declared.kinds.Shape.TheVariants.{One, Many}
use Rattle.fb_schema.specs.Schema.{Name, DeclaredField, body_at, slots_in, parts_in as fields_of_struct}
use Rattle.fb_layout.specs.Laid.{LaidSchema, slot_of}
use Rattle.fb_value.specs.Counts.{parts_cells, entries_cells, parts_depth, entries_depth}
use Rattle.fb_value.specs.Datum.{Datum, a_vector, a_struct, a_table, count}
use Rattle.fb_value.specs.View.{parts_in, entries_in}
use Rattle.fb_json.specs.declared.faults.Place.{Place}
use Rattle.fb_json.specs.Outcome.{spent}
use Rattle.fb_json.specs.Meant.{Meaner, type_place, slot_place, names_known, if_known, present, code_after, used_meant}
use Rattle.fb_json.specs.Meant.{entry_meant, slots_meant, table_meant, part_meant, parts_meant, struct_meant}
use Rattle.fb_json.specs.Meant.{object_meant, vector_meant, meant, items_meant, look, count as items_count}
use Rattle.fb_json.specs.Means.{CodeAt, member_called, AbsentAt, PartsMean, EachMeans, SlotsMean}
use Rattle.fb_json.proofs.laws.EachStepOfABindSucceeds.{at_ok, ok_inj, bind_ok, spent_ok}
use Rattle.fb_json.proofs.slots.LookUpFindsMembers.{found_in}
use Rattle.fb_json.proofs.laws.ComputedEntryIsMeant.{Good, leaf_ok, code_ok, SoundAt, GoodEntry, present_is, used_ok}
use Rattle.fb_json.proofs.slots.MembersWithTheirMeaning.{looked}
use Rattle.fb_json.proofs.slots.MembersWithTheirMeaning.{with_meaning}

-- ---- slots, fields and elements

known_ok : (b : Bool) (at : Place) (u : Unit {0}) → if_known b at ≡ Ok u → b ≡ true
known_ok true at u h = refl
known_ok false at u h = cc

module _ (L : LaidSchema) (unknown : Bool) (ms : Members) (sound : (k : Name) (t : Data) → get_member k ms ≡ Some t
    → SoundAt L unknown t) where
  entry_by : (f : DeclaredField) (at : Place) (c levels left : ℕ) (e : Option Datum × ℕ) (deprecated : Bool)
      → (if deprecated then Ok (None, left) else used_meant L f c (present (look L unknown ms f.name)) at levels left
      f.shape) ≡ Ok e → GoodEntry L unknown (slot_of L.schema f) c (member_called f.name ms) f.shape levels left
      (AbsentAt L f c (member_called f.name ms) deprecated) e
  entry_by f at c levels left e true h =
      at_ok (GoodEntry L unknown (slot_of L.schema f) c (member_called f.name ms) f.shape levels left
      (AbsentAt L f c (member_called f.name ms) true)) (None, left) e h (tt, refl)
  entry_by f at c levels left e false h =
      let is : present (look L unknown ms f.name) ≡ option_map (meant L unknown) (member_called f.name ms) =
      ap present (looked L unknown ms f.name) ∙ present_is L unknown (get_member f.name ms) in
      let P : Option Meaner → Type 0 = λ m. used_meant L f c m at levels left f.shape ≡ Ok e in
      used_ok L unknown f c (member_called f.name ms) at levels left f.shape e
      (λ t has. sound f.name t (found_in (get_member f.name ms) t has)) (subst P is h)

  pub entry_ok : (f : DeclaredField) (at : Place) (c levels left : ℕ) (e : Option Datum × ℕ)
      → entry_meant L (look L unknown ms) f at c levels left ≡ Ok e
      → GoodEntry L unknown (slot_of L.schema f) c (member_called f.name ms) f.shape levels left
      (AbsentAt L f c (member_called f.name ms) f.deprecated) e
  unfolding entry_meant
  entry_ok f at c levels left e h = entry_by f at c levels left e f.deprecated h

  -- nothing is given to a deprecated slot
  used_by : (f : DeclaredField) (at : Place) (c levels left rest : ℕ) (d : Datum) (deprecated : Bool)
      → (if deprecated then Ok (None, left) else used_meant L f c (present (look L unknown ms f.name)) at levels left
      f.shape) ≡ Ok (Some d, rest) → deprecated ≡ false
  used_by f at c levels left rest d true h = let bad : ◌≡◌ {A = Option Datum} None (Some d) =
      ap (λ p. p.0) (ok_inj (None, left) (Some d, rest) h) in cc
  used_by f at c levels left rest d false h = refl

  pub is_used : (f : DeclaredField) (at : Place) (c levels left rest : ℕ) (d : Datum)
      → entry_meant L (look L unknown ms) f at c levels left ≡ Ok (Some d, rest) → f.deprecated ≡ false
  unfolding entry_meant
  is_used f at c levels left rest d h = used_by f at c levels left rest d f.deprecated h

  abbrev GoodSlots : ℕ → List DeclaredField → ℕ → ℕ → List (Option Datum) × ℕ → Type 0
  GoodSlots before fs levels left es = SlotsMean L unknown ms before fs (entries_in es.0)
      × (es.1 + entries_cells (entries_in es.0) ≡ left) × (entries_depth (entries_in es.0) ≤ levels)

  slot_in_front : (before c : ℕ) (f : DeclaredField) (fs : List DeclaredField) (at : Place) (levels left : ℕ)
      (e : Option Datum) (next : ℕ) (es : List (Option Datum) × ℕ) → CodeAt L.schema ms f f.deprecated f.shape before c
      → GoodEntry L unknown (slot_of L.schema f) c (member_called f.name ms) f.shape levels left
      (AbsentAt L f c (member_called f.name ms) f.deprecated) (e, next)
      → ((d : Datum) → e ≡ Some d → f.deprecated ≡ false) → GoodSlots c fs levels next es
      → GoodSlots before (f ∷ fs) levels left (e ∷ es.0, es.1)
  slot_in_front before c f fs at levels left None next es told good used rest =
      ((c, told, good.0, rest.0), rest.1 ∙ good.1, rest.2)
  slot_in_front before c f fs at levels left (Some d) next es told good used rest =
      let above = good.1 in
      let below = rest.1 in
      let deep = good.2 in
      let deeper = rest.2 in
      ((c, told, used d refl, good.0, rest.0), omega arith, omega arith)

  slots_ok : (fs : List DeclaredField) (t k before levels left : ℕ) (es : List (Option Datum) × ℕ)
      → slots_meant L (look L unknown ms) t fs k before levels left ≡ Ok es → GoodSlots before fs levels left es
  unfolding slots_meant
  slots_ok [] t k before levels left es h = at_ok (GoodSlots before [] levels left) ([], left) es h
      (tt, omega arith, omega arith)
  slots_ok (f ∷ fs) t k before levels left es h =
      let told = bind_ok (code_after L.schema (look L unknown ms) (slot_place t k) before f.deprecated f.name f.shape) _
      es h in
      let given = bind_ok (entry_meant L (look L unknown ms) f (slot_place t k) told.0 levels left) _ es told.2 in
      let later = bind_ok (slots_meant L (look L unknown ms) t fs (k + 1) told.0 levels given.0.1) _ es given.2 in
      let rest = slots_ok fs t (k + 1) told.0 levels given.0.1 later.0 later.1 in
      at_ok (GoodSlots before (f ∷ fs) levels left) (given.0.0 ∷ later.0.0, later.0.1) es later.2
      (slot_in_front before told.0 f fs (slot_place t k) levels left given.0.0 given.0.1 later.0
      (code_ok L unknown ms f (slot_place t k) before told.0 f.deprecated f.shape told.1)
      (entry_ok f (slot_place t k) told.0 levels left given.0 given.1)
      (λ d is. let P : Option Datum → Type 0 = λ o. entry_meant L (look L unknown ms) f (slot_place t k) told.0 levels
      left ≡ Ok (o, given.0.1) in is_used f (slot_place t k) told.0 levels left given.0.1 d (subst P is given.1))
      rest)

  part_ok : (o : Option Data) (f : DeclaredField) (at : Place) (levels left : ℕ) (p : Datum × ℕ)
      → get_member f.name ms ≡ o → part_meant (option_map (with_meaning L unknown) o) f.shape at levels left ≡ Ok p
      → (t : Data) × (get_member f.name ms ≡ Some t) × Good L unknown t f.shape levels left p
  part_ok None f at levels left p is h = cc
  part_ok (Some t) f at levels left p is h = (t, is, sound f.name t is f.shape at levels left p h)

  abbrev GoodParts : List DeclaredField → ℕ → ℕ → List Datum × ℕ → Type 0
  GoodParts fs levels left xs = PartsMean L unknown ms fs (parts_in xs.0) × (xs.1 + parts_cells (parts_in xs.0) ≡ left)
      × (parts_depth (parts_in xs.0) ≤ levels)

  parts_ok : (fs : List DeclaredField) (s k levels left : ℕ) (xs : List Datum × ℕ)
      → parts_meant (look L unknown ms) s fs k levels left ≡ Ok xs → GoodParts fs levels left xs
  unfolding parts_meant
  parts_ok [] s k levels left xs h =
      at_ok (GoodParts [] levels left) ([], left) xs h (tt, omega arith, omega arith)
  parts_ok (f ∷ fs) s k levels left xs h =
      let given = bind_ok (part_meant (look L unknown ms f.name) f.shape (slot_place s k) levels left) _ xs h in
      let later = bind_ok (parts_meant (look L unknown ms) s fs (k + 1) levels given.0.1) _ xs given.2 in
      let P : Option (Data × Meaner) → Type 0 = λ o. part_meant o f.shape (slot_place s k) levels left ≡ Ok given.0 in
      let one = part_ok (get_member f.name ms) f (slot_place s k) levels left given.0 refl
      (subst P (looked L unknown ms f.name) given.1) in
      let rest = parts_ok fs s (k + 1) levels given.0.1 later.0 later.1 in
      let above = one.2.1 in
      let below = rest.1 in
      let deep = one.2.2 in
      let deeper = rest.2 in
      at_ok (GoodParts (f ∷ fs) levels left) (given.0.0 ∷ later.0.0, later.0.1) xs later.2
      ((one.0, one.1, one.2.0, rest.0), omega arith, omega arith)

  table_ok : (id levels left : ℕ) (at : Place) (p : Datum × ℕ)
      → table_meant L unknown ms (look L unknown ms) id at levels left ≡ Ok p
      → Good L unknown (object ms) (One (Table (record { 0 = id }))) levels left p
  unfolding table_meant
  table_ok id zero left at p h = cc
  table_ok id (suc levels) left at p h =
      let paid = bind_ok (spent 1 at left) _ p h in
      let known = bind_ok (if_known (unknown || names_known (body_at L.schema id) ms) (type_place id)) _ p paid.2 in
      let given = bind_ok (slots_meant L (look L unknown ms) id (slots_in (body_at L.schema id)) 0 0 levels paid.0) _ p
      known.2 in
      let sum = spent_ok 1 at left paid.0 paid.1 in
      let good = slots_ok (slots_in (body_at L.schema id)) id 0 0 levels paid.0 given.0 given.1 in
      let below = good.1 in
      let deep = good.2 in
      at_ok (Good L unknown (object ms) (One (Table (record { 0 = id }))) (suc levels) left)
      (a_table id (entries_in given.0.0), given.0.1) p given.2
      ((ms, refl, refl, known_ok _ (type_place id) known.0 known.1, good.0), omega arith, omega arith)

  struct_ok : (s levels left : ℕ) (p : Datum × ℕ) → struct_meant L unknown ms (look L unknown ms) s levels left ≡ Ok p
      → Good L unknown (object ms) (One (Struct (record { 0 = s }))) levels left p
  unfolding struct_meant
  struct_ok s levels left p h =
      let known = bind_ok (if_known (unknown || names_known (body_at L.schema s) ms) (type_place s)) _ p h in
      let given = bind_ok (parts_meant (look L unknown ms) s (fields_of_struct (body_at L.schema s)) 0 levels left) _ p
      known.2 in
      let good = parts_ok (fields_of_struct (body_at L.schema s)) s 0 levels left given.0 given.1 in
      at_ok (Good L unknown (object ms) (One (Struct (record { 0 = s }))) levels left)
      (a_struct (parts_in given.0.0), given.0.1) p given.2
      ((ms, refl, known_ok _ (type_place s) known.0 known.1, good.0), good.1, good.2)

  object_ok : (shape : Shape) (at : Place) (levels left : ℕ) (p : Datum × ℕ)
      → object_meant L unknown ms (look L unknown ms) shape at levels left ≡ Ok p
      → Good L unknown (object ms) shape levels left p
  unfolding object_meant
  object_ok (One (Table id)) at levels left p h = table_ok id.0 levels left at p h
  object_ok (One (Struct s)) at levels left p h = struct_ok s.0 levels left p h
  object_ok _ at levels left p h = cc

-- ---- trees

abbrev GoodItems : LaidSchema → Bool → Items → Kind → ℕ → ℕ → List Datum × ℕ → Type 0
GoodItems L unknown ts kind levels left xs = EachMeans L unknown ts kind (parts_in xs.0)
    × (xs.1 + parts_cells (parts_in xs.0) ≡ left) × (parts_depth (parts_in xs.0) ≤ levels)
    × (count (parts_in xs.0) ≡ items_count ts)

vector_ok : (L : LaidSchema) (unknown : Bool) (ts : Items) (shape : Shape) (at : Place) (levels left : ℕ)
    (p : Datum × ℕ) → ((kind : Kind) (l : ℕ) (xs : List Datum × ℕ) → items_meant L unknown ts kind at levels l ≡ Ok xs
    → GoodItems L unknown ts kind levels l xs)
    → vector_meant (items_meant L unknown ts) (items_count ts) shape at levels left ≡ Ok p
    → Good L unknown (array ts) shape levels left p
unfolding vector_meant
vector_ok L unknown ts (Many kind) at levels left p each h =
    let paid = bind_ok (spent (1 + items_count ts) at left) _ p h in
    let given = bind_ok (items_meant L unknown ts kind at levels paid.0) _ p paid.2 in
    let sum = spent_ok (1 + items_count ts) at left paid.0 paid.1 in
    let good = each kind paid.0 given.0 given.1 in
    let below = good.1 in
    let long = good.3 in
    at_ok (Good L unknown (array ts) (Many kind) levels left) (a_vector (parts_in given.0.0), given.0.1) p given.2
    ((ts, refl, good.0), omega arith, good.2)
vector_ok L unknown ts (One kind) at levels left p each h = cc

picked : (L : LaidSchema) (unknown : Bool) (o : Data) (t : Data) → SoundAt L unknown o → o ≡ t → SoundAt L unknown t
picked L unknown o t sound is = subst (SoundAt L unknown) is sound

mutual
  pub sound : (L : LaidSchema) (unknown : Bool) (t : Data) → SoundAt L unknown t
  sound L unknown null shape at levels left p h = leaf_ok L unknown null shape at levels left p h
  sound L unknown (boolean b) shape at levels left p h = leaf_ok L unknown (boolean b) shape at levels left p h
  sound L unknown (number x) shape at levels left p h = leaf_ok L unknown (number x) shape at levels left p h
  sound L unknown (string s) shape at levels left p h = leaf_ok L unknown (string s) shape at levels left p h
  sound L unknown (array ts) shape at levels left p h =
      vector_ok L unknown ts shape at levels left p (λ kind l xs g. items_sound L unknown ts kind at levels l xs g) h
  sound L unknown (object ms) shape at levels left p h =
      object_ok L unknown ms (λ k t found. member_sound L unknown ms k t found) shape at levels left p h

  items_sound : (L : LaidSchema) (unknown : Bool) (ts : Items) (kind : Kind) (at : Place) (levels left : ℕ)
      (xs : List Datum × ℕ) → items_meant L unknown ts kind at levels left ≡ Ok xs
      → GoodItems L unknown ts kind levels left xs
  items_sound L unknown no_items kind at levels left xs h =
      at_ok (GoodItems L unknown no_items kind levels left) ([], left) xs h (
        tt,
        omega arith,
        omega arith,
        refl,
      )
  items_sound L unknown (item t ts) kind at levels left xs h =
      let given = bind_ok (meant L unknown t (One kind) at levels left) _ xs h in
      let later = bind_ok (items_meant L unknown ts kind at levels given.0.1) _ xs given.2 in
      let one = sound L unknown t (One kind) at levels left given.0 given.1 in
      let rest = items_sound L unknown ts kind at levels given.0.1 later.0 later.1 in
      let above = one.1 in
      let below = rest.1 in
      let deep = one.2 in
      let deeper = rest.2 in
      let long = rest.3 in
      at_ok (GoodItems L unknown (item t ts) kind levels left) (given.0.0 ∷ later.0.0, later.0.1) xs later.2
      ((one.0, rest.0), omega arith, omega arith, omega arith)

  member_sound : (L : LaidSchema) (unknown : Bool) (ms : Members) (k : Name) (t : Data) → get_member k ms ≡ Some t
      → SoundAt L unknown t
  member_sound L unknown no_members k t found = cc
  member_sound L unknown (member l d ms) k t found =
      elim (slice_cmp nat_cmp k l) as (λ o. match_ordering o (get_member k ms) (Some d) (get_member k ms) ≡ Some t
      → SoundAt L unknown t) [
        | Less ↦ λ h. member_sound L unknown ms k t h
        | Equal ↦ λ h. picked L unknown d t (sound L unknown d) (same_Some d t h)
        | Greater ↦ λ h. member_sound L unknown ms k t h
      ] found
