-- The entry of a slot whose member is there.
use Rattle.std.proofs.Common.{◌≡◌, ◌≤◌, ◌-◌, ◌++◌, ◌∷◌, [], ◌∙◌, ℕ, zero, suc, true, false, List, Option}
use Rattle.std.proofs.Common.{None, Some, pos}
use Rattle.std.proofs.Common.{Ok, Err, refl, sym, ap}
use Rattle.std.proofs.lemmas.List.{append-nil}
use Rattle.fb_schema.specs.declared.kinds.Base.TheVariants.{U8}
use Rattle.fb_schema.specs.declared.kinds.Kind.{Kind}
use Rattle.fb_schema.specs.declared.kinds.Kind.TheVariants.{Scalar, Enum, Struct, Table, Union, Code, Text}
use Rattle.fb_schema.specs.declared.kinds.Shape.{Shape}
use Rattle.fb_schema.specs.declared.kinds.Shape.TheVariants.{One, Many}
use Rattle.fb_schema.specs.declared.kinds.TypeId.{TypeId}
use Rattle.fb_schema.specs.Schema.{DeclaredField}
use Rattle.fb_layout.specs.Laid.{LaidSchema, StoredKind, StoredShape, align_of, kind_in, member_by_code, one_of}
use Rattle.fb_layout.specs.Laid.{slot_of}
use Rattle.fb_layout.specs.Laid.{stored_kind, stored_shape}
use Rattle.fb_layout.specs.Laid.{vector_of, scalar_kind, struct_kind, table_kind, union_kind, code_kind, text_kind}
use Rattle.fb_layout.specs.Widths.{greatest}
use Rattle.fb_value.specs.Counts.{is_whole}
use Rattle.fb_value.specs.Datum.{Datum, a_number, a_text, a_vector, a_struct, a_table, a_member, an_unknown}
use Rattle.fb_value.specs.Fits.{Fits}
use Rattle.fb_value.specs.Room.{room}
use Rattle.fb_tape.specs.InlineBytes.{IsInline}
use Rattle.fb_tape.specs.NamedParts.{apart_of, as_list}
use Rattle.fb_tape.specs.OpenFields.{AddsInlineField, OpenField, reference_field}
use Rattle.fb_tape.specs.Tapes.{Taped}
use Rattle.fb_json.specs.declared.faults.JsonFault.{JsonFault}
use Rattle.fb_json.specs.declared.faults.JsonFault.TheVariants.{UnionMismatch}
use Rattle.fb_json.specs.declared.faults.Place.{Place}
use Rattle.fb_json.specs.Meant.{Meaner, as_member, plain_meant, union_meant, used_meant}
use Rattle.fb_json.specs.Outcome.{◌>>=◌, Counted, Fails}
use Rattle.fb_json.specs.SlotMembers.{is_of_union}
use Rattle.fb_json.proofs.slots.OneSlotOrFieldMore.{fails_by}
use Rattle.fb_build.specs.Fields.{IsSimple, code_in, is_coded, is_reference, is_stored}
use Rattle.fb_build.specs.Noted.{AddsParts}
use Rattle.fb_build.proofs.noted.EntryHasItsFields.{inline_fields, member_fields, no_fields, reference_fields}
use Rattle.fb_build.proofs.noted.PartsAreAdded.{adds_none, adds_same}
use Rattle.fb_encode.specs.TreesNoted.{IsEntryNoted, IsNoted, IsPart}

-- ---- what is given

module _ (L : LaidSchema) (f : DeclaredField) (c : ℕ) (m : Meaner) (at : Place) (levels left : ℕ) where
  plain_by : (shape : Shape) → is_of_union shape ≡ false
      → used_meant L f c (Some m) at levels left shape ≡ (m shape at levels left >>= λ x. Ok (Some x.0, x.1))
  unfolding plain_meant
  plain_by (One (Code u)) plain = cc
  plain_by (One (Union u)) plain = cc
  plain_by (One (Scalar base)) plain = refl
  plain_by (One (Enum id)) plain = refl
  plain_by (One (Struct id)) plain = refl
  plain_by (One (Table id)) plain = refl
  plain_by (One Text) plain = refl
  plain_by (Many kind) plain = refl

  pub plain_given : is_of_union f.shape ≡ false → (d : Datum) (rest : ℕ) → m f.shape at levels left ≡ Ok (d, rest)
      → used_meant L f c (Some m) at levels left f.shape ≡ Ok (Some d, rest)
  plain_given plain d rest h = plain_by f.shape plain ∙ rw h refl

  pub plain_refused : is_of_union f.shape ≡ false → (e : JsonFault) → Fails e (m f.shape at levels left)
      → Fails e (used_meant L f c (Some m) at levels left f.shape)
  plain_refused plain e h = fails_by e (m f.shape at levels left) _ (λ h. plain_by f.shape plain ∙ rw h refl) h

  -- a union's member
  module _ (u : TypeId) (union : f.shape ≡ One (Union u)) where
    member_by : (k : ℕ) (shape : Shape) → shape ≡ One (Union u) → (t : ℕ) → member_by_code L u.0 k ≡ Some t
        → used_meant L f k (Some m) at levels left shape
        ≡ (m (One (Table (record { 0 = t }))) at levels left >>= λ x. Ok (Some (a_member k x.0), x.1))
    unfolding union_meant
    member_by zero shape is t found = rw is (ap (λ (o : Option ℕ). as_member zero o m at levels left) found)
    member_by (suc k) shape is t found = rw is (ap (λ (o : Option ℕ). as_member (suc k) o m at levels left) found)

    pub member_given : (t : ℕ) → member_by_code L u.0 c ≡ Some t → (d : Datum) (rest : ℕ)
        → m (One (Table (record { 0 = t }))) at levels left ≡ Ok (d, rest)
        → used_meant L f c (Some m) at levels left f.shape ≡ Ok (Some (a_member c d), rest)
    member_given t found d rest h = member_by c f.shape union t found ∙ rw h refl

    pub member_refused : (t : ℕ) → member_by_code L u.0 c ≡ Some t → (e : JsonFault)
        → Fails e (m (One (Table (record { 0 = t }))) at levels left)
        → Fails e (used_meant L f c (Some m) at levels left f.shape)
    member_refused t found e h = fails_by e (m (One (Table (record { 0 = t }))) at levels left) _
        (λ h. member_by c f.shape union t found ∙ rw h refl) h

    mismatch_by : (k : ℕ) (shape : Shape) → shape ≡ One (Union u) → member_by_code L u.0 k ≡ None
        → used_meant L f k (Some m) at levels left shape ≡ Err (UnionMismatch at)
    unfolding union_meant
    mismatch_by zero shape is none = rw is (ap (λ (o : Option ℕ). as_member zero o m at levels left) none)
    mismatch_by (suc k) shape is none = rw is (ap (λ (o : Option ℕ). as_member (suc k) o m at levels left) none)

    pub mismatch_refused : member_by_code L u.0 c ≡ None
        → used_meant L f c (Some m) at levels left f.shape ≡ Err (UnionMismatch at)
    mismatch_refused none = mismatch_by c f.shape union none

-- ---- a reference

part_refers : (L : LaidSchema) (shape : StoredShape) → IsPart L shape → is_reference shape ≡ true
part_refers L (one_of kind) part = part.1
part_refers L (vector_of kind) part = refl

no_member : (L : LaidSchema) (shape : StoredShape) (d : Datum) → IsPart L shape → Fits L shape d
    → code_in (Some d) ≡ None
no_member L shape (a_number n) part fits = refl
no_member L shape (a_text b) part fits = refl
no_member L shape (a_vector ds) part fits = refl
no_member L shape (a_struct ds) part fits = refl
no_member L shape (a_table t es) part fits = refl
no_member L shape (an_unknown c) part fits = refl
no_member L (one_of (union_kind u)) (a_member c d) part fits = absurd part.0
no_member L (one_of (code_kind u)) (a_member c d) part fits = absurd part.0
no_member L (one_of (scalar_kind u)) (a_member c d) part fits = absurd fits
no_member L (one_of (struct_kind u)) (a_member c d) part fits = absurd fits
no_member L (one_of (table_kind u)) (a_member c d) part fits = absurd fits
no_member L (one_of text_kind) (a_member c d) part fits = absurd fits
no_member L (vector_of kind) (a_member c d) part fits = absurd fits

pub part_plain : (L : LaidSchema) (shape : Shape) → IsPart L (stored_shape L.schema shape) → is_of_union shape ≡ false
part_plain L (One (Code u)) part = absurd part.0
part_plain L (One (Union u)) part = absurd part.0
part_plain L (One (Scalar base)) part = refl
part_plain L (One (Enum id)) part = refl
part_plain L (One (Struct id)) part = refl
part_plain L (One (Table id)) part = refl
part_plain L (One Text) part = refl
part_plain L (Many kind) part = refl

module _ (L : LaidSchema) (k : ℕ) (f : DeclaredField) (used : f.deprecated ≡ false)
    (given : Counted (Option Datum)) (a b : Taped) (before now : List OpenField) (rest : ℕ) where
  pub reference_noted : (own : Counted Datum) → IsPart L (stored_shape L.schema f.shape)
      → ((d : Datum) → own ≡ Ok (d, rest) → given ≡ Ok (Some d, rest))
      → IsNoted L (stored_shape L.schema f.shape) own a b rest → now ≡ before ++ (reference_field k ∷ [])
      → IsEntryNoted L k (slot_of L.schema f) given a b before now rest
  reference_noted own part gives h is = record {
    entry = Some h.value;
    given_is = gives h.value h.given_is;
    fits = (used, h.fits);
    whole = h.whole;
    adds = h.adds;
    fields = (
      reference_field k ∷ [],
      is,
      reference_fields L k (slot_of L.schema f) h.value (part_refers L (stored_shape L.schema f.shape) part) h.fits
          (no_member L (stored_shape L.schema f.shape) h.value part h.fits),
    );
  }

  member_apart : (t u c : ℕ) (d : Datum) → Fits L (one_of (table_kind t)) d
      → apart_of (one_of (table_kind t)) d ≡ apart_of (one_of (union_kind u)) (a_member c d)
  member_apart t u c (a_table type es) fits = rw fits.0 refl
  member_apart t u c (a_number n) fits = absurd fits
  member_apart t u c (a_text n) fits = absurd fits
  member_apart t u c (a_vector n) fits = absurd fits
  member_apart t u c (a_struct n) fits = absurd fits
  member_apart t u c (a_member n d) fits = absurd fits
  member_apart t u c (an_unknown n) fits = absurd fits

  member_room : (t u c : ℕ) (d : Datum) → Fits L (one_of (table_kind t)) d
      → room L (one_of (table_kind t)) d ≡ room L (one_of (union_kind u)) (a_member c d)
  member_room t u c (a_table type es) fits = refl
  member_room t u c (a_number n) fits = absurd fits
  member_room t u c (a_text n) fits = absurd fits
  member_room t u c (a_vector n) fits = absurd fits
  member_room t u c (a_struct n) fits = absurd fits
  member_room t u c (a_member n d) fits = absurd fits
  member_room t u c (an_unknown n) fits = absurd fits

  pub member_noted : (own : Counted Datum) (u : TypeId) (t c : ℕ) → f.shape ≡ One (Union u)
      → member_by_code L u.0 c ≡ Some t → ((d : Datum) → own ≡ Ok (d, rest) → given ≡ Ok (Some (a_member c d), rest))
      → IsNoted L (one_of (table_kind t)) own a b rest → (coded : List OpenField)
      → AddsInlineField L (k - 1) (scalar_kind U8) (a_number (pos c)) before coded
      → now ≡ coded ++ (reference_field k ∷ []) → IsEntryNoted L k (slot_of L.schema f) given a b before now rest
  member_noted own u t c union found gives h coded code is = record {
    entry = Some (a_member c h.value);
    given_is = gives h.value h.given_is;
    fits = (used, rw union (t, found, h.fits));
    whole = h.whole;
    adds = rw union (adds_same a b _ _ _ _ (ap as_list (member_apart t u.0 c h.value h.fits))
        (member_room t u.0 c h.value h.fits) h.adds);
    fields = member_fields L k (slot_of L.schema f) c h.value before coded now code is;
  }

-- ---- a number or a struct

inline_apart : (L : LaidSchema) (kind : StoredKind) (d : Datum) → IsInline L kind
    → apart_of (one_of kind) d ≡ None
inline_apart L (scalar_kind b) d inline = refl
inline_apart L (struct_kind s) d inline = refl
inline_apart L (table_kind t) d inline = absurd inline
inline_apart L (union_kind u) d inline = absurd inline
inline_apart L (code_kind u) d inline = absurd inline
inline_apart L text_kind d inline = absurd inline

inline_room : (L : LaidSchema) (kind : StoredKind) (d : Datum) → IsInline L kind → Fits L (one_of kind) d
    → room L (one_of kind) d ≡ 0
inline_room L (scalar_kind b) (a_number n) inline fits = refl
inline_room L (scalar_kind b) (a_text n) inline fits = absurd fits
inline_room L (scalar_kind b) (a_vector n) inline fits = absurd fits
inline_room L (scalar_kind b) (a_struct n) inline fits = absurd fits
inline_room L (scalar_kind b) (a_table t n) inline fits = absurd fits
inline_room L (scalar_kind b) (a_member c n) inline fits = absurd fits
inline_room L (scalar_kind b) (an_unknown n) inline fits = absurd fits
inline_room L (struct_kind s) (a_number n) inline fits = absurd fits
inline_room L (struct_kind s) (a_text n) inline fits = absurd fits
inline_room L (struct_kind s) (a_vector n) inline fits = absurd fits
inline_room L (struct_kind s) (a_struct n) inline fits = refl
inline_room L (struct_kind s) (a_table t n) inline fits = absurd fits
inline_room L (struct_kind s) (a_member c n) inline fits = absurd fits
inline_room L (struct_kind s) (an_unknown n) inline fits = absurd fits
inline_room L (table_kind t) d inline fits = absurd inline
inline_room L (union_kind u) d inline fits = absurd inline
inline_room L (code_kind u) d inline fits = absurd inline
inline_room L text_kind d inline fits = absurd inline

inline_refers : (L : LaidSchema) (kind : StoredKind) → IsInline L kind → is_reference (one_of kind) ≡ false
inline_refers L (scalar_kind b) inline = refl
inline_refers L (struct_kind s) inline = refl
inline_refers L (table_kind t) inline = absurd inline
inline_refers L (union_kind u) inline = absurd inline
inline_refers L (code_kind u) inline = absurd inline
inline_refers L text_kind inline = absurd inline

module _ (L : LaidSchema) (k : ℕ) (f : DeclaredField) (used : f.deprecated ≡ false) (kind : StoredKind) (d : Datum)
    (shape : stored_shape L.schema f.shape ≡ one_of kind) (inline : IsInline L kind) (fits : Fits L (one_of kind) d)
    (whole : is_whole d ≡ true) (given : Counted (Option Datum)) (rest : ℕ) (is : given ≡ Ok (Some d, rest))
    (a : Taped) (done : a.unfinished ≡ []) where
  nothing : AddsParts a a (as_list (apart_of (stored_shape L.schema f.shape) d))
      (room L (stored_shape L.schema f.shape) d)
  nothing = rw shape (adds_same a a [] _ 0 _ (sym (ap as_list (inline_apart L kind d inline)))
      (sym (inline_room L kind d inline fits)) (adds_none a done))

  -- the default isn't stored
  pub default_noted : (opens : List OpenField) → is_stored (slot_of L.schema f) (Some d) ≡ false
      → IsEntryNoted L k (slot_of L.schema f) given a a opens opens rest
  default_noted opens stored = record {
    entry = Some d;
    given_is = is;
    fits = (used, rw shape fits);
    whole = whole;
    adds = nothing;
    fields = ([], sym (append-nil opens), no_fields L k (slot_of L.schema f) d stored);
  }

  pub inline_noted : (before now : List OpenField) → is_stored (slot_of L.schema f) (Some d) ≡ true
      → AddsInlineField L k kind d before now → IsEntryNoted L k (slot_of L.schema f) given a a before now rest
  inline_noted before now stored added = record {
    entry = Some d;
    given_is = is;
    fits = (used, rw shape fits);
    whole = whole;
    adds = nothing;
    fields = (
      added.0 ∷ [],
      added.1,
      inline_fields L k (slot_of L.schema f) kind d added.0 shape (rw shape (inline_refers L kind inline))
          (rw shape fits) stored added.2,
    );
  }

-- ---- what the slots of a well-made layout store

pub part_of : (L : LaidSchema) (shape : Shape) → IsSimple L (stored_shape L.schema shape)
    → align_of L (kind_in (stored_shape L.schema shape)) ≤ greatest L → is_of_union shape ≡ false
    → is_reference (stored_shape L.schema shape) ≡ true → IsPart L (stored_shape L.schema shape)
part_of L (One Text) simple low plain refers = (tt, refl)
part_of L (One (Table id)) simple low plain refers = (tt, refl)
part_of L (One (Scalar base)) simple low plain refers = cc
part_of L (One (Enum id)) simple low plain refers = cc
part_of L (One (Struct id)) simple low plain refers = cc
part_of L (One (Union id)) simple low plain refers = cc
part_of L (One (Code id)) simple low plain refers = cc
part_of L (Many kind) simple low plain refers = (simple, low)

pub inline_of : (L : LaidSchema) (kind : Kind) → IsSimple L (one_of (stored_kind L.schema kind))
    → is_of_union (One kind) ≡ false → is_reference (one_of (stored_kind L.schema kind)) ≡ false
    → IsInline L (stored_kind L.schema kind)
inline_of L Text simple plain inline = cc
inline_of L (Table id) simple plain inline = cc
inline_of L (Scalar base) simple plain inline = tt
inline_of L (Enum id) simple plain inline = tt
inline_of L (Struct id) simple plain inline = simple.is
inline_of L (Union id) simple plain inline = cc
inline_of L (Code id) simple plain inline = cc

pub not_coded : (shape : Shape) → is_of_union shape ≡ false → is_coded shape ≡ false
not_coded (One (Code u)) plain = cc
not_coded (One (Union u)) plain = cc
not_coded (One (Scalar base)) plain = refl
not_coded (One (Enum id)) plain = refl
not_coded (One (Struct id)) plain = refl
not_coded (One (Table id)) plain = refl
not_coded (One Text) plain = refl
not_coded (Many kind) plain = refl
