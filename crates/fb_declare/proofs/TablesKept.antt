-- The body of a table with no fault: the slots of its fields have names of their own, shapes of the schema and marks
-- that fit them, and unions have pairs.
use Rattle.std.proofs.Common.{◌≡◌, List, [], ◌∷◌, refl, sym, subst, Option, None, Some, ℤ, pos, codes, IsTrue, IfSome}
use Rattle.std.proofs.Common.{ℕ, ◌+◌, Bool, true, false, ap, ◌∙◌, true≢false, arith, ◌++◌, length, slice_get, suc}
use Rattle.std.proofs.Common.{get_or}
use Rattle.std.specs.List.{All, Contains, flat_map, IsDistinct}
use Rattle.std.specs.Option.{unwrap_or}
use Rattle.std.specs.Str.{bytes_eq}
use Rattle.std.proofs.lemmas.List.Elements.{All-head, All-tail, All-contains, Contains-append_left}
use Rattle.std.proofs.lemmas.List.Elements.{Contains-append_right, All-cons, All-nil, All-append, Contains-get_or}
use Rattle.std.proofs.lemmas.Option.{get_or_from_slice_get, slice_get_within, slice_get-get_or}
use Rattle.fb_syntax.specs.Located.{Located}
use Rattle.fb_syntax.specs.declared.declarations.FieldType.TheVariants.{One}
use Rattle.fb_syntax.specs.declared.declarations.DefaultValue.{DefaultValue}
use Rattle.fb_syntax.specs.declared.declarations.DefaultValue.TheVariants.{Integer, Name as Named}
use Rattle.fb_schema.specs.Schema.{Name, DeclaredField, DeclaredSchema, body_at, base_in, is_union}
use Rattle.fb_schema.specs.WellDeclared.{InRange, Names, IsShape, MayBeElement, MarksFit, IsTableBody, names_of}
use Rattle.fb_schema.specs.WellDeclared.{IsUnionPair}
use Rattle.fb_schema.specs.declared.kinds.Base.{Base}
use Rattle.fb_schema.specs.declared.kinds.TypeId.{TypeId}
use Rattle.fb_schema.specs.declared.kinds.Kind.TheVariants.{Scalar, Enum, Union, Code}
use Rattle.fb_resolve.specs.Outline.{TypeRead}
use Rattle.fb_schema.specs.Ranges.{holds}
use Rattle.fb_resolve.specs.EnumValues.{underlying_at, value_at}
use Rattle.fb_resolve.specs.Defaults.{number_within, null_or_wrong, scalar_named, enum_named, given_to, given_by}
use Rattle.fb_resolve.specs.SlotsRead.{number_given, is_null, union_of, shape_of, value_slot, code_slot}
use Rattle.fb_resolve.specs.SlotsRead.{union_in, slots_by_union, slots_of_field, slots_in_order}
use Rattle.fb_resolve.specs.Ids.{slots_read, AreInPlace, are_ids_wrong, slot_by_id, slots_by_id, have_ids}
use Rattle.fb_resolve.specs.declared.meanings.Meaning.TheVariants.{Known}
use Rattle.fb_resolve.specs.declared.defaults.Given.{Given}
use Rattle.fb_resolve.specs.declared.defaults.Given.TheVariants.{Number, Null, Wrong}
use Rattle.fb_declare.proofs.FaultFree.{either, three_none, IsFieldRight, fields_right, noted_stands, fields_distinct}
use Rattle.fb_declare.specs.declared.field_faults.FieldHost.TheVariants as fields
use Rattle.fb_syntax.specs.Attributes.{AttributeRead}
use Rattle.fb_syntax.specs.declared.declarations.FieldType.{FieldType}
use Rattle.fb_syntax.specs.declared.declarations.FieldType.TheVariants as types_read
use Rattle.fb_schema.specs.declared.kinds.Kind.{Kind}
use Rattle.fb_resolve.specs.ResolvedFields.{ResolvedField, ResolvedTable}
use Rattle.fb_resolve.specs.Attributes.{has_attribute}
use Rattle.fb_declare.specs.AttributeFaults.{metadata_faults}
use Rattle.fb_declare.specs.FaultRows.{when, faults_in_turn, misplaced_type, field_type}
use Rattle.fb_declare.specs.TypeFaults.{attribute_host, field_behind, table_faults, names_of_field}
use Rattle.fb_syntax.specs.declared.attributes.BuiltInAttribute.TheVariants.{Required}
use Rattle.fb_declare.specs.declared.attribute_faults.AttributeHost.TheVariants as hosts
use Rattle.fb_declare.specs.declared.faults.SchemaFault.TheVariants.{BadIds}
use Rattle.fb_resolve.specs.declared.meanings.Meaning.{Meaning}
use Rattle.fb_declare.proofs.TypesKept.{MeansIn, IsRead, AreEnumsKept}
use Rattle.std.proofs.lemmas.Cmp.{nat_list_eq_equiv}
use Rattle.std.proofs.lemmas.List.{map-append}
use Rattle.std.proofs.lemmas.List.Sorted.{Contains-permutation, IsPermutation-sym, IsPermutation-map}
use Rattle.std.proofs.lemmas.Map.Keys.{IsDistinct-IsPermutation}
use Rattle.std.proofs.lemmas.Map.Made.{AllPairs-from_IsDistinct}
use Rattle.std.proofs.lemmas.Slice.Eq.{bytes_eq-Decides}
use Rattle.fb_schema.specs.declared.kinds.Shape.TheVariants.{One}
use Rattle.fb_schema.specs.declared.kinds.Base.TheVariants.{Bool as Boolean}
use Rattle.fb_schema.proofs.NumbersInRange.{held_in_range}

-- 0 is in the range of each basic type
InRange-zero : (base : Base) → InRange base (pos 0)
unfolding holds
InRange-zero Boolean = held_in_range Boolean (pos 0) refl
InRange-zero base = held_in_range base (pos 0) refl

-- what is given is in a range
abbrev pub GivesIn : Base → Given → Type 0
GivesIn base given = InRange base (number_given given)

number_in : (base : Base) (n : ℤ) → GivesIn base (number_within base n)
number_in base n = either (GivesIn base) (holds base n) (Number n) Wrong (held_in_range base n) (InRange-zero base)

null_in : (base : Base) (name : Name) → GivesIn base (null_or_wrong name)
null_in base name = either (GivesIn base) (bytes_eq name (codes "null")) Null Wrong (λ is. InRange-zero base)
    (InRange-zero base)

named_in : (base : Base) (name : Name) → GivesIn base (scalar_named base name)
unfolding holds
named_in Boolean name = either (GivesIn Boolean) (bytes_eq name (codes "true")) (Number (pos 1)) _
    (λ is. held_in_range Boolean (pos 1) refl)
    (either (GivesIn Boolean) (bytes_eq name (codes "false")) (Number (pos 0)) (null_or_wrong name)
    (λ is. InRange-zero Boolean) (null_in Boolean name))
named_in base name = null_in base name

-- a scalar's default
pub scalar_default : (types : List TypeRead) (n : Located) (base : Base) (d : Option DefaultValue)
    → GivesIn base (given_by types (One n) (Known (Scalar base)) d)
unfolding given_to
scalar_default types n base None = InRange-zero base
scalar_default types n base (Some (Integer t)) = number_in base t.value
scalar_default types n base (Some (Named t)) = named_in base t.bytes

enum_named_in : (base : Base) (value : Option ℤ) (name : Name) → IfSome value (InRange base)
    → GivesIn base (enum_named value name)
enum_named_in base None name h = null_in base name
enum_named_in base (Some n) name h = h

-- an enum's default, where its values are in range
pub enum_default : (types : List TypeRead) (n : Located) (e : TypeId) (base : Base) (d : Option DefaultValue)
    → underlying_at types e.0 ≡ Some base
    → ((name : Name) → IfSome (value_at types e.0 name) (InRange base))
    → GivesIn base (given_by types (One n) (Known (Enum e)) d)
unfolding given_to
enum_default types n e base None under values = InRange-zero base
enum_default types n e base (Some (Integer t)) under values = rw under (number_in base t.value)
enum_default types n e base (Some (Named t)) under values =
    enum_named_in base (value_at types e.0 t.bytes) t.bytes (values t.bytes)

-- `null` gives 0
pub null_is_zero : (given : Given) → IsTrue (is_null given) → number_given given ≡ pos 0
null_is_zero (Number n) h = cc
null_is_zero _ h = refl

-- ---- the slots of fields

-- the slots of some fields, of each from some number on
data Numbered : List ResolvedField → List DeclaredField → Type 0 where
  none : Numbered [] []
  more : (f : ResolvedField) (fs : List ResolvedField) (slot : ℕ) (rest : List DeclaredField) → Numbered fs rest
      → Numbered (f ∷ fs) (slots_of_field f slot ++ rest)

in_order : (slot : ℕ) (fs : List ResolvedField) → Numbered fs (slots_in_order slot fs)
unfolding slots_in_order
in_order slot [] = none
in_order slot (f ∷ fs) = more f fs slot _ (in_order (slot + length (slots_of_field f slot)) fs)

by_id : (fs : List ResolvedField) → Numbered fs (slots_by_id fs)
by_id [] = none
by_id (f ∷ fs) = more f fs (unwrap_or (slot_by_id f) 0) _ (by_id fs)

numbered : (fs : List ResolvedField) → Numbered fs (slots_read fs)
numbered fs = either (Numbered fs) (have_ids fs) (slots_by_id fs) (slots_in_order 0 fs) (λ is. by_id fs) (in_order 0 fs)

-- a field has its value's slot, or that of its union's code and the value's behind it
field_slots : (f : ResolvedField) (slot : ℕ) (P : List DeclaredField → Type 0)
    → (union_in f ≡ None → P (value_slot f slot ∷ []))
    → ((u : TypeId) → union_in f ≡ Some u → P (code_slot f u slot ∷ value_slot f (slot + 1) ∷ []))
    → P (slots_of_field f slot)
unfolding slots_of_field
field_slots f slot P alone pair = by (union_in f) refl
  where
    by : (u : Option TypeId) → union_in f ≡ u → P (slots_by_union f u slot)
    by None e = alone e
    by (Some u) e = pair u e

-- what holds of the slots of each field, all of which are there, holds of all slots
each_field : (P : DeclaredField → Type 0) (fs gs : List ResolvedField) (all slots : List DeclaredField)
    → Numbered fs all → ((f : ResolvedField) → Contains fs f → Contains gs f)
    → ((q : DeclaredField) → Contains all q → Contains slots q)
    → ((f : ResolvedField) (slot : ℕ) → Contains gs f → All (Contains slots) (slots_of_field f slot)
    → All P (slots_of_field f slot)) → All P all
each_field P fs gs all slots none fields wide each = All-nil P
each_field P fs gs all slots (more f hs slot rest n) fields wide each = let own = slots_of_field f slot in
    All-append P own rest
    (each f slot (fields f (0, omega arith, refl))
    (λ k d within. wide (get_or own k d) (Contains-append_left own rest (get_or own k d)
    (Contains-get_or own k d within))))
    (each_field P hs gs rest slots n (λ g d. fields g (Contains-append_right (f ∷ []) hs g d))
    (λ q d. wide q (Contains-append_right own rest q d)) each)

-- ---- names

-- the names of a field's slots are the same from any slot on
names_by_union : (f : ResolvedField) (slot : ℕ) (u : Option TypeId)
    → names_of (slots_by_union f u slot) ≡ names_of (slots_by_union f u 0)
names_by_union f slot None = refl
names_by_union f slot (Some u) = refl

names_numbered : (fs : List ResolvedField) (all : List DeclaredField) → Numbered fs all
    → names_of all ≡ flat_map (names_of_field fields.Table) fs
unfolding slots_of_field
names_numbered fs all none = refl
names_numbered fs all (more f gs slot rest n) = map-append (λ s. s.name) (slots_of_field f slot) rest
    ∙ (λ i. names_by_union f slot (union_in f) i ++ names_numbered gs rest n i)

-- ---- marks

-- `required` isn't written at a scalar
no_required : (declared : Name → Bool) (attributes : List AttributeRead) (required : Bool)
    → required ≡ has_attribute Required attributes → metadata_faults declared hosts.ScalarField attributes ≡ []
    → required ≡ false
no_required declared attributes false has h = refl
no_required declared attributes true has h = let x =
    noted_stands declared hosts.ScalarField attributes h Required (sym has) in absurd (true≢false (sym x.1))

-- a field that takes no default is given 0
none_given : (types : List TypeRead) (k : FieldType) (m : Meaning) (d : Option DefaultValue) (given : Given)
    → ((v : DefaultValue) → given_by types k m (Some v) ≡ Wrong) → given ≡ given_by types k m d
    → (number_given given ≡ pos 0) × (is_null given ≡ false)
none_given types k m None given h e = (ap number_given e, ap is_null e)
none_given types k m (Some v) given h e = (ap number_given (e ∙ h v), ap is_null (e ∙ h v))

may_be_element : (S : DeclaredSchema) (at : ℕ) (n : Located) (kind : Kind) → MeansIn S (Known kind)
    → misplaced_type fields.Table (types_read.Many at n) (Known kind) ≡ [] → MayBeElement kind
may_be_element S at n (Union t) means free = cc
may_be_element S at n (Code t) means free = absurd means.1
may_be_element S at n _ means free = tt

-- the union of a union's field is in the schema
union_named : (S : DeclaredSchema) (k : FieldType) (m : Meaning) (u : TypeId) → MeansIn S m → union_of k m ≡ Some u
    → Names is_union S u.0
union_named S (types_read.One n) (Known (Union v)) u means e = let same : v ≡ u = cc in
    rw (← same) means.0
union_named S _ _ u means e = cc

abbrev IsSlotRight : DeclaredSchema → DeclaredField → Type 0
IsSlotRight S p = IsShape S p.shape × MarksFit S p p.shape

module _ (types : List TypeRead) (S : DeclaredSchema) (enums : AreEnumsKept types S) (declared : Name → Bool) where
  -- by its type, what it is given, and its attributes
  value_right : (f : ResolvedField) (slot : ℕ) (k : FieldType) (m : Meaning) → MeansIn S m
      → field_type fields.Table k m ≡ [] → metadata_faults declared
      (attribute_host fields.Table k m) f.field.attributes ≡ []
      → f.given ≡ given_by types k m f.field.default → f.attributes.required ≡ has_attribute Required f.field.attributes
      → IsShape S (shape_of k m) × MarksFit S (value_slot f slot) (shape_of k m)
  unfolding given_to
  value_right f slot (types_read.One n) (Known (Scalar base)) means type marks given required = (
    tt,
    (
      subst (GivesIn base) (sym given) (scalar_default types n base f.field.default),
      null_is_zero f.given,
      no_required declared f.field.attributes f.attributes.required required marks,
    ),
  )
  value_right f slot (types_read.One n) (Known (Enum e)) means type marks given required = let base =
      base_in (body_at S e.0) in let kept = enums e.0 means.0 in (
        means.0,
        (
          subst (GivesIn base) (sym given) (enum_default types n e base f.field.default kept.0 kept.1),
          null_is_zero f.given,
          no_required declared f.field.attributes f.attributes.required required marks,
        ),
      )
  value_right f slot (types_read.One n) (Known (Code t)) means type marks given required = absurd means.1
  value_right f slot (types_read.One n) (Known kind) means type marks given required =
      (means.0, none_given types (types_read.One n) (Known kind) f.field.default f.given (λ v. refl) given)
  value_right f slot (types_read.Many at n) (Known kind) means type marks given required = (
    (means.0, may_be_element S at n kind means type),
    none_given types (types_read.Many at n) (Known kind) f.field.default f.given (λ v. refl) given,
  )
  value_right f slot _ _ means type marks given required = absurd (grind (arith, type))

  slots_right : (f : ResolvedField) (slot : ℕ) → IsRead types S f → IsFieldRight declared fields.Table f
      → All (IsSlotRight S) (slots_of_field f slot)
  slots_right f slot read right =
      let P = IsSlotRight S in
      let value = λ (n : ℕ). value_right f n f.field.kind f.meaning read.means right.type right.metadata read.given
      read.required in
      field_slots f slot (All P) (λ none. All-cons P (value_slot f slot) [] (value slot) (All-nil P))
      (λ u e. All-cons P (code_slot f u slot) (value_slot f (slot + 1) ∷ [])
      (union_named S f.field.kind f.meaning u read.means e, ((refl, refl), refl))
      (All-cons P (value_slot f (slot + 1)) [] (value (slot + 1)) (All-nil P)))

-- ---- pairs

-- a value's slot is no union's code, and a union's only where its field is one
value_no_code : (S : DeclaredSchema) (k : FieldType) (m : Meaning) (u : TypeId) → MeansIn S m
    → shape_of k m ≡ One (Code u) → ⊥
value_no_code S (types_read.One n) (Known (Code v)) u h e = h.1
value_no_code S _ _ u h e = cc

union_shape : (k : FieldType) (m : Meaning) (u : TypeId) → union_of k m ≡ Some u → shape_of k m ≡ One (Union u)
union_shape (types_read.One n) (Known (Union v)) u e = let same : v ≡ u = cc in ap (λ x. One (Union x)) same
union_shape _ _ u e = cc

value_no_union : (k : FieldType) (m : Meaning) (u : TypeId) → union_of k m ≡ None → shape_of k m ≡ One (Union u) → ⊥
value_no_union (types_read.One n) (Known (Union v)) u absent e = cc
value_no_union _ _ u absent e = cc

-- behind the slot of a union's code stands its value, and before that the code
abbrev IsPaired : List DeclaredField → ℕ → DeclaredField → Type 0
IsPaired slots k p = ((u : TypeId) → p.shape ≡ One (Code u)
    → (g : DeclaredField) × (slice_get slots (suc k) ≡ Some g) × IsUnionPair p g u)
    × ((u : TypeId) → p.shape ≡ One (Union u) → (j : ℕ) × (f : DeclaredField) × (k ≡ suc j)
    × (slice_get slots j ≡ Some f) × IsUnionPair f p u)

-- ---- the whole table

-- the fields of a table, and their slots in place
module _ (fs : List ResolvedField) (slots : List DeclaredField) (placed : AreInPlace (slots_read fs) slots) where
  -- what holds of the slots of each field holds of the slot at a place
  at_place : (P : DeclaredField → Type 0) → ((f : ResolvedField) (slot : ℕ) → Contains fs f
      → All (Contains slots) (slots_of_field f slot) → All P (slots_of_field f slot))
      → (k : ℕ) (p : DeclaredField) → slice_get slots k ≡ Some p → P p
  at_place P each k p e =
      All-contains P (slots_read fs) p (each_field P fs fs (slots_read fs) slots (numbered fs) (λ f d. d)
      (λ q d. Contains-permutation (slots_read fs) slots q placed.same d) each)
      (Contains-permutation slots (slots_read fs) p (IsPermutation-sym (slots_read fs) slots placed.same)
      (k, slice_get_within slots k p e, get_or_from_slice_get slots k p p e))

  -- a slot that is there stands at the place of its number
  its_place : (q : DeclaredField) → Contains slots q → slice_get slots q.slot ≡ Some q
  its_place q c = let here = slice_get-get_or slots c.0 q c.1 ∙ ap Some c.2 in
      ap (slice_get slots) (placed.slots c.0 q here) ∙ here

  -- so are the slots of a field
  paired : (S : DeclaredSchema) (f : ResolvedField) (slot : ℕ) → MeansIn S f.meaning
      → All (Contains slots) (slots_of_field f slot) → All (λ p. IsPaired slots p.slot p) (slots_of_field f slot)
  paired S f slot means = let P : DeclaredField → Type 0 = λ p. IsPaired slots p.slot p in
      field_slots f slot (λ ss. All (Contains slots) ss → All P ss)
      (λ none whole. All-cons P (value_slot f slot) [] (
        λ u shape. absurd (value_no_code S f.field.kind f.meaning u means shape),
        λ u shape. absurd (value_no_union f.field.kind f.meaning u none shape),
      ) (All-nil P))
      (λ u e whole.
      let code = code_slot f u slot in
      let value = value_slot f (slot + 1) in
      let next : slot + 1 ≡ suc slot = omega arith in
      let is_union = union_shape f.field.kind f.meaning u e in
      let pair : IsUnionPair code value u = record { named = refl; code = refl; value = is_union; marks = refl } in
      let first = its_place code (All-head (Contains slots) code (value ∷ []) whole) in
      let second = its_place value (All-head (Contains slots) value []
      (All-tail (Contains slots) code (value ∷ []) whole)) in
      let coded : P code = (
        λ v shape. let same : u ≡ v = cc in
            (value, sym (ap (slice_get slots) next) ∙ second, subst (IsUnionPair code value) same pair),
        λ v shape. cc,
      ) in
      let valued : P value = (
        λ v shape. cc,
        λ v shape. let same : u ≡ v = cc in
            (slot, code, next, first, subst (IsUnionPair code value) same pair),
      ) in
      All-cons P code (value ∷ []) coded (All-cons P value [] valued (All-nil P)))

-- The slots of a table with no fault, in their places, are a table's.
pub table_kept : (types : List TypeRead) (S : DeclaredSchema) → AreEnumsKept types S
    → (declared : Name → Bool) (t : ResolvedTable) → All (IsRead types S) t.fields → table_faults declared t ≡ []
    → (slots : List DeclaredField) → AreInPlace (slots_read t.fields) slots → IsTableBody S slots
table_kept types S enums declared t read h slots placed =
    let fs = t.fields in
    let none = three_none (metadata_faults declared hosts.Table t.declared.attributes)
    (when (are_ids_wrong fs) (BadIds t.declared.name.at))
    (faults_in_turn (field_behind declared fields.Table) fs) h in
    let right = fields_right declared fields.Table fs none.2 in
    let read_at = λ (f : ResolvedField) (among : Contains fs f). All-contains (IsRead types S) fs f read among in
    let paired_at = λ (k : ℕ) (p : DeclaredField) (e : slice_get slots k ≡ Some p). subst (λ n. IsPaired slots n p)
    (placed.slots k p e)
    (at_place fs slots placed (λ p. IsPaired slots p.slot p)
    (λ f slot among. paired fs slots placed S f slot (read_at f among).means) k p e) in
    record {
      slots = placed.slots;
      names = AllPairs-from_IsDistinct bytes_eq-Decides (names_of slots)
          (IsDistinct-IsPermutation bytes_eq nat_list_eq_equiv.symm (names_of (slots_read fs)) (names_of slots)
          (IsPermutation-map (λ s. s.name) (slots_read fs) slots placed.same)
          (subst (IsDistinct bytes_eq) (sym (names_numbered fs (slots_read fs) (numbered fs)))
          (fields_distinct declared fields.Table fs none.2)));
      shapes = at_place fs slots placed (IsSlotRight S)
          (λ f slot among whole. slots_right types S enums declared f slot (read_at f among)
          (All-contains (IsFieldRight declared fields.Table) fs f right among));
      unions = record { followed = λ k p u e. (paired_at k p e).0 u; led = λ k p u e. (paired_at k p e).1 u };
    }
