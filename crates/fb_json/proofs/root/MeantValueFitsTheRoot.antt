-- What a tree means under a type of a declared schema fits the type, where its texts are UTF-8.
use Rattle.std.proofs.Common.{◌≡◌, ℕ, suc, Bool, true, false, not, ◌&&◌, ◌||◌, List, [], ◌∷◌, Option, Some, None}
use Rattle.std.proofs.Common.{IsTrue, ℤ, map, get_or, slice_get, refl, sym, ap, subst, ◌∙◌, arith}
use Rattle.std.proofs.lemmas.Int.{ints}
use Rattle.serde_json.specs.Data.{Data, boolean, number, string, Items, no_items, item, Members}
use Rattle.fb_schema.specs.declared.kinds.Base.{Base}
use Rattle.fb_schema.specs.declared.kinds.Base.TheVariants.{Bool as Boolean}
use Rattle.fb_schema.specs.declared.kinds.Kind.{Kind}
use Rattle.fb_schema.specs.declared.kinds.Kind.TheVariants.{Scalar, Enum, Struct, Table, Union, Code, Text}
use Rattle.fb_schema.specs.declared.kinds.Shape.{Shape}
use Rattle.fb_schema.specs.declared.kinds.Shape.TheVariants.{One, Many}
use Rattle.fb_schema.specs.Schema.{DeclaredField, DeclaredBody, table_body, struct_body}
use Rattle.fb_schema.specs.Schema.{DeclaredType, DeclaredSchema, body_in, body_at, base_in, slots_in, parts_in}
use Rattle.fb_schema.specs.Schema.{is_table}
use Rattle.fb_schema.specs.WellDeclared.{InRange, MarksFit, IsPart, IsBody, IsDeclared}
use Rattle.fb_layout.specs.Laid.{LaidSchema, union_kind, table_kind, one_of, stored_kind, stored_shape}
use Rattle.fb_layout.specs.Laid.{default_of, slot_of, kind_in}
use Rattle.fb_value.specs.Datum.{Datum, a_number, a_text, a_vector, a_struct, a_table, a_member, Parts, no_parts}
use Rattle.fb_value.specs.Datum.{more_parts, SlotEntries, no_entries, absent_entry, present_entry}
use Rattle.fb_value.specs.Bounds.{Bounds}
use Rattle.fb_value.specs.Fits.{MayBeAbsent, Fits, PartsFit, EachFits, EntriesFit, FitsKind, FitsType, FitsRoot}
use Rattle.fb_value.specs.Fits.{kind_of_type}
use Rattle.std.proofs.lemmas.Option.{slice_get-get_or}
use Rattle.fb_json.specs.Means.{ScalarMeans, EnumMeans, AbsentMeans, AbsentAt, PresentAs, PresentMeans, member_called}
use Rattle.fb_json.specs.Means.{MeansAs, MemberMeans, PartsMean, EachMeans, SlotsMean, Means}
use Rattle.fb_json.proofs.root.NamedNumberIsInRange.{told_in_range}
use Rattle.fb_json.proofs.texts.ValueTextsAreUtf8.{HasUtf8, HaveUtf8, EntriesHaveUtf8}
use Rattle.std.proofs.Math.Bool.{and-false}
use Rattle.fb_json.proofs.slots.CodeSlots.{code_default}

-- ---- numbers

boolean_fits : (b : Bool) (n : ℤ) → ScalarMeans Boolean (boolean b) n → InRange Boolean n
boolean_fits true n h = rw h (grind (arith, ints), grind (arith, ints))
boolean_fits false n h = rw h (grind (arith, ints), grind (arith, ints))

scalar_fits : (base : Base) (t : Data) (n : ℤ) → ScalarMeans base t n → InRange base n
scalar_fits base (number x) n h = h.1
scalar_fits Boolean (boolean b) n h = boolean_fits b n h
scalar_fits _ _ n h = absurd h

enum_fits : (S : DeclaredSchema) → IsDeclared S → (e : ℕ) (t : Data) (n : ℤ) → EnumMeans S e t n
    → InRange (base_in (body_at S e)) n
enum_fits S declared e (number x) n h = h.1
enum_fits S declared e (string s) n h = told_in_range S e s n declared h
enum_fits S declared e _ n h = absurd h

-- ---- what a declared schema keeps

slots_kept : (S : DeclaredSchema) (t : ℕ) (body : DeclaredBody) → IsBody S t body → (k : ℕ) (f : DeclaredField)
    → slice_get (slots_in body) k ≡ Some f → MarksFit S f f.shape
slots_kept S t (table_body fs) is k f e = (is.shapes k f e).1
slots_kept S t _ is k f e = cc

parts_kept : (S : DeclaredSchema) (t : ℕ) (body : DeclaredBody) → IsBody S t body → (k : ℕ) (f : DeclaredField)
    → slice_get (parts_in body) k ≡ Some f → IsPart S t f.shape
parts_kept S t (struct_body fs align) is k f e = (is.parts k f e).0
parts_kept S t _ is k f e = cc

module _ (S : DeclaredSchema) (declared : IsDeclared S) (t : ℕ) where
  slots_by : (o : Option DeclaredType) → slice_get S.types t ≡ o → (k : ℕ) (f : DeclaredField)
      → slice_get (slots_in (body_in o)) k ≡ Some f → MarksFit S f f.shape
  slots_by None is k f e = cc
  slots_by (Some type) is k f e = slots_kept S t type.body (declared.bodies t type is) k f e

  pub marks_fit : (k : ℕ) (f : DeclaredField) → slice_get (slots_in (body_at S t)) k ≡ Some f → MarksFit S f f.shape
  marks_fit = slots_by (slice_get S.types t) refl

  parts_by : (o : Option DeclaredType) → slice_get S.types t ≡ o → (k : ℕ) (f : DeclaredField)
      → slice_get (parts_in (body_in o)) k ≡ Some f → IsPart S t f.shape
  parts_by None is k f e = cc
  parts_by (Some type) is k f e = parts_kept S t type.body (declared.bodies t type is) k f e

  pub is_part : (k : ℕ) (f : DeclaredField) → slice_get (parts_in (body_at S t)) k ≡ Some f → IsPart S t f.shape
  is_part = parts_by (slice_get S.types t) refl

-- ---- slots

module _ (L : LaidSchema) (f : DeclaredField) where
  unused_absent : f.deprecated ≡ true → MayBeAbsent (slot_of L.schema f)
  unused_absent e = (
    ap (λ (b : Bool). f.required && not b) e ∙ and-false f.required,
    ap (λ (b : Bool). default_of (b || f.optional) f.default (stored_shape L.schema f.shape)) e,
  )

  used_absent : (c : ℕ) (o : Option Data) (shape : Shape) → f.shape ≡ shape → MarksFit L.schema f shape
      → AbsentMeans L f c o shape → MayBeAbsent (slot_of L.schema f)
  used_absent c o (One (Code u)) e marks h = (
    ap (λ (b : Bool). b && not f.deprecated) marks.1,
    ap (λ (s : Shape). default_of (f.deprecated || f.optional) f.default (stored_shape L.schema s)) e
        ∙ code_default (f.deprecated || f.optional) f.default u.0,
  )
  used_absent c o (One (Union u)) e marks h = (h.3, h.2)
  used_absent c o _ e marks h = (h.2, h.1)

  pub absent_fits : (c : ℕ) (o : Option Data) (deprecated : Bool) → f.deprecated ≡ deprecated
      → MarksFit L.schema f f.shape → AbsentAt L f c o deprecated → MayBeAbsent (slot_of L.schema f)
  absent_fits c o true e marks h = unused_absent e
  absent_fits c o false e marks h = used_absent c o f.shape refl marks h

  default_fits : (b : Bool) (shape : Shape) (n : ℤ) → MarksFit L.schema f shape
      → default_of b f.default (stored_shape L.schema shape) ≡ Some n
      → Fits L (stored_shape L.schema shape) (a_number n)
  default_fits false (One (Scalar base)) n marks e = let same : f.default ≡ n = cc in subst (InRange base) same marks.0
  default_fits false (One (Enum id)) n marks e = let same : f.default ≡ n = cc in
      subst (InRange (base_in (body_at L.schema id.0))) same marks.0
  default_fits _ _ n marks e = cc

  -- an entry, where its own value or its member fits
  module _ (c : ℕ) (d : Datum) (own : Data → Type 0) (member : Data → ℕ → Type 0) (own_fits : (t : Data) → own t
      → Fits L (stored_shape L.schema f.shape) d) (member_fits : (t : Data) (u : ℕ) → member t u
      → Fits L (one_of (union_kind u)) d) where
    as_fits : (t : Data) (shape : Shape) → f.shape ≡ shape → PresentAs shape (own t) (member t)
        → Fits L (stored_shape L.schema f.shape) d
    as_fits t (One (Code u)) e h = absurd h
    as_fits t (One (Union u)) e h = rw e (member_fits t u.0 h)
    as_fits t _ e h = own_fits t h

    pub present_fits : MarksFit L.schema f f.shape → (o : Option Data)
        → PresentMeans (slot_of L.schema f) f.shape o d own member → Fits L (stored_shape L.schema f.shape) d
    present_fits marks (Some t) h = as_fits t f.shape refl h
    present_fits marks None h = rw h.2 (default_fits (f.deprecated || f.optional) f.shape h.0 marks h.1)

-- ---- values

one_part : (L : LaidSchema) (s : ℕ) (shape : Shape) (d : Datum) → IsPart L.schema s shape
    → Fits L (stored_shape L.schema shape) d → Fits L (one_of (kind_in (stored_shape L.schema shape))) d
one_part L s (One kind) d is h = h
one_part L s (Many kind) d is h = absurd is

module _ (L : LaidSchema) (declared : IsDeclared L.schema) (unknown : Bool) where
  mutual
    pub fitted : (t : Data) (shape : Shape) (d : Datum) → MeansAs L unknown t shape d → HasUtf8 d
        → Fits L (stored_shape L.schema shape) d
    fitted t (One (Scalar base)) (a_number n) h utf8 = scalar_fits base t n h
    fitted t (One (Enum e)) (a_number n) h utf8 = enum_fits L.schema declared e.0 t n h
    fitted t (One Text) (a_text bytes) h utf8 = utf8
    fitted t (One (Struct s)) (a_struct ds) h utf8 =
        parts_fitted h.0 s.0 (parts_in (body_at L.schema s.0)) ds (is_part L.schema declared s.0) h.3 utf8
    fitted t (One (Table id)) (a_table type es) h utf8 = (
      h.2,
      rw (sym h.2) (slots_fitted h.0 0 (slots_in (body_at L.schema type)) es (marks_fit L.schema declared type)
          h.4 utf8),
    )
    fitted t (Many kind) (a_vector ds) h utf8 = each_fitted h.0 kind ds h.2 utf8
    fitted t _ _ h utf8 = absurd h

    pub member_fitted : (t : Data) (u c : ℕ) (d : Datum) → MemberMeans L unknown t u c d → HasUtf8 d
        → Fits L (one_of (union_kind u)) d
    member_fitted t u c (a_member k d) h utf8 =
        let named = h.1 in
        (named.0, rw h.0 named.1, fitted t (One (Table (record { 0 = named.0 }))) d named.2 utf8)
    member_fitted t u c _ h utf8 = absurd h

    parts_fitted : (ms : Members) (s : ℕ) (fs : List DeclaredField) (ds : Parts)
        → ((k : ℕ) (f : DeclaredField) → slice_get fs k ≡ Some f → IsPart L.schema s f.shape)
        → PartsMean L unknown ms fs ds → HaveUtf8 ds
        → PartsFit L (map (λ f. kind_in (stored_shape L.schema f.shape)) fs) ds
    parts_fitted ms s [] no_parts are h utf8 = tt
    parts_fitted ms s (f ∷ fs) (more_parts d ds) are h utf8 = (
      one_part L s f.shape d (are 0 f refl) (fitted h.0 f.shape d h.2 utf8.0),
      parts_fitted ms s fs ds (λ k g e. are (suc k) g e) h.3 utf8.1,
    )
    parts_fitted ms s _ _ are h utf8 = absurd h

    each_fitted : (ts : Items) (kind : Kind) (ds : Parts) → EachMeans L unknown ts kind ds → HaveUtf8 ds
        → EachFits L (stored_kind L.schema kind) ds
    each_fitted no_items kind no_parts h utf8 = tt
    each_fitted (item t ts) kind (more_parts d ds) h utf8 =
        (fitted t (One kind) d h.0 utf8.0, each_fitted ts kind ds h.1 utf8.1)
    each_fitted _ kind _ h utf8 = absurd h

    slots_fitted : (ms : Members) (before : ℕ) (fs : List DeclaredField) (es : SlotEntries)
        → ((k : ℕ) (f : DeclaredField) → slice_get fs k ≡ Some f → MarksFit L.schema f f.shape)
        → SlotsMean L unknown ms before fs es → EntriesHaveUtf8 es → EntriesFit L (map (slot_of L.schema) fs) es
    slots_fitted ms before [] no_entries are h utf8 = tt
    slots_fitted ms before (f ∷ fs) (absent_entry es) are h utf8 = (
      absent_fits L f h.0 (member_called f.name ms) f.deprecated refl (are 0 f refl) h.2,
      slots_fitted ms h.0 fs es (λ k g e. are (suc k) g e) h.3 utf8,
    )
    slots_fitted ms before (f ∷ fs) (present_entry d es) are h utf8 = (
      h.2,
      present_fits L f h.0 d (λ t. MeansAs L unknown t f.shape d) (λ t u. MemberMeans L unknown t u h.0 d)
          (λ t m. fitted t f.shape d m utf8.0) (λ t u m. member_fitted t u h.0 d m utf8.0) (are 0 f refl)
          (member_called f.name ms) h.3,
      slots_fitted ms h.0 fs es (λ k g e. are (suc k) g e) h.4 utf8.1,
    )
    slots_fitted ms before _ _ are h utf8 = absurd h

-- ---- the root

module _ (L : LaidSchema) (d : Datum) where
  by_body : (t : ℕ) (type : DeclaredType) (body : DeclaredBody) → type.body ≡ body → is_table body ≡ true
      → Fits L (one_of (table_kind t)) d → FitsKind L (kind_of_type t (Some type)) d
  by_body t type (table_body fs) is table h = rw is h
  by_body t type _ is table h = cc

  by_place : (t : ℕ) (type : DeclaredType) → slice_get L.schema.types t ≡ Some type
      → IsTrue (is_table (body_at L.schema t)) → Fits L (one_of (table_kind t)) d → FitsType L t d
  by_place t type there table h =
      let same : body_at L.schema t ≡ type.body = ap body_in there in
      rw there (by_body t type type.body refl (rw same at table) h)

  -- a value of the root's table fits the root
  pub fits_root : IsDeclared L.schema → Fits L (one_of (table_kind L.schema.root)) d → FitsRoot L d
  fits_root declared h =
      let type : DeclaredType = get_or L.schema.types L.schema.root (record { name = []; body = table_body [] }) in
      by_place L.schema.root type
      (slice_get-get_or L.schema.types L.schema.root (record { name = []; body = table_body [] }) declared.root.0)
      declared.root.1 h

-- what a tree means as the root's value fits the root
pub root_fitted : (L : LaidSchema) → IsDeclared L.schema → (most : Bounds) (unknown : Bool) (t : Data) (d : Datum)
    → Means L most unknown t d → HasUtf8 d → FitsRoot L d
root_fitted L declared most unknown t d h utf8 =
    fits_root L d declared (fitted L declared unknown t (One (Table (record { 0 = L.schema.root }))) d h.0 utf8)
