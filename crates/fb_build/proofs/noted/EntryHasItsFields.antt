-- The fields that the entry of a slot adds.
use Rattle.std.specs.Prelude.{ℤ}
use Rattle.std.proofs.Common.{◌≡◌, ◌-◌, ◌++◌, ◌∙◌, ℕ, true, false, List, [], ◌∷◌, None, Some, pos, refl, ap}
use Rattle.std.proofs.lemmas.List.{append_assoc}
use Rattle.fb_schema.specs.declared.kinds.Base.TheVariants.{U8}
use Rattle.fb_layout.specs.Laid.{LaidSchema, Slot, StoredKind, StoredShape, one_of, vector_of}
use Rattle.fb_layout.specs.Laid.{scalar_kind, struct_kind, table_kind, union_kind, code_kind, text_kind}
use Rattle.fb_layout.specs.Widths.{inline_align}
use Rattle.fb_value.specs.Datum.{Datum, a_number, a_text, a_vector, a_struct, a_table, a_member, an_unknown}
use Rattle.fb_value.specs.Fits.{Fits}
use Rattle.fb_tape.specs.OpenFields.{OpenField, AddsInlineField, IsInlineField, IsOpenIf, reference_field}
use Rattle.fb_build.specs.Fields.{code_in, inline_kind, is_reference, is_stored}
use Rattle.fb_build.specs.Noted.{AddsFields, AreFieldsOf}
use Rattle.fb_build.proofs.tables.CodeSlotHasNoEntry.{no_code_entry}

-- the default isn't stored
pub no_fields : (L : LaidSchema) (k : ℕ) (f : Slot) (d : Datum) → is_stored f (Some d) ≡ false
    → AreFieldsOf L k f (Some d) []
no_fields L k f (a_number n) none = rw none refl
no_fields L k f _ none = cc

-- a field in its place
inline_field : (L : LaidSchema) (k : ℕ) (f : Slot) (kind : StoredKind) (d : Datum) (x : OpenField)
    → f.shape ≡ one_of kind → is_reference f.shape ≡ false → inline_kind f.shape ≡ kind → is_stored f (Some d) ≡ true
    → IsInlineField L k kind d x
    → IsOpenIf (is_stored f (Some d)) L k f (Some d) (x ∷ []) (λ behind. behind ≡ [])
inline_field L k f kind d x shape inline own stored h = rw stored (record {
  field = x;
  behind = [];
  value = d;
  opens_are = refl;
  slot_is = h.slot_is;
  align_is = rw shape h.align_is;
  value_is = refl;
  noted = rw h.note_is (inline, refl, rw own h.inline);
  rest = refl;
})

own_kind : (L : LaidSchema) (kind : StoredKind) (d : Datum) → Fits L (one_of kind) d → inline_kind (one_of kind) ≡ kind
own_kind L (code_kind u) d fits = absurd (no_code_entry L u d fits)
own_kind L _ d fits = refl

member_refers : (L : LaidSchema) (shape : StoredShape) (c : ℕ) (d : Datum) → Fits L shape (a_member c d)
    → is_reference shape ≡ true
member_refers L (one_of (table_kind t)) c d fits = refl
member_refers L (one_of (union_kind u)) c d fits = refl
member_refers L (one_of text_kind) c d fits = refl
member_refers L (vector_of kind) c d fits = refl
member_refers L _ c d fits = absurd fits

pub inline_fields : (L : LaidSchema) (k : ℕ) (f : Slot) (kind : StoredKind) (d : Datum) (x : OpenField)
    → f.shape ≡ one_of kind → is_reference f.shape ≡ false → Fits L f.shape d → is_stored f (Some d) ≡ true
    → IsInlineField L k kind d x → AreFieldsOf L k f (Some d) (x ∷ [])
inline_fields L k f kind (a_number n) x shape inline fits stored h =
    inline_field L k f kind (a_number n) x shape inline (rw shape (own_kind L kind (a_number n) (rw shape at fits)))
    stored h
inline_fields L k f kind (a_text b) x shape inline fits stored h =
    inline_field L k f kind (a_text b) x shape inline (rw shape (own_kind L kind (a_text b) (rw shape at fits)))
    stored h
inline_fields L k f kind (a_vector ds) x shape inline fits stored h =
    inline_field L k f kind (a_vector ds) x shape inline (rw shape (own_kind L kind (a_vector ds) (rw shape at fits)))
    stored h
inline_fields L k f kind (a_struct ds) x shape inline fits stored h =
    inline_field L k f kind (a_struct ds) x shape inline (rw shape (own_kind L kind (a_struct ds) (rw shape at fits)))
    stored h
inline_fields L k f kind (a_table t es) x shape inline fits stored h =
    inline_field L k f kind (a_table t es) x shape inline (rw shape (own_kind L kind (a_table t es) (rw shape at fits)))
    stored h
inline_fields L k f kind (a_member c d) x shape inline fits stored h =
    let refers = member_refers L f.shape c d fits in cc
inline_fields L k f kind (an_unknown c) x shape inline fits stored h =
    inline_field L k f kind (an_unknown c) x shape inline (rw shape (own_kind L kind (an_unknown c) (rw shape at fits)))
    stored h

-- a field that is a reference
four : (L : LaidSchema) (shape : StoredShape) → is_reference shape ≡ true → 4 ≡ inline_align L shape
four L (one_of (table_kind t)) refers = refl
four L (one_of (union_kind u)) refers = refl
four L (one_of text_kind) refers = refl
four L (vector_of kind) refers = refl
four L _ refers = cc

reference_open : (L : LaidSchema) (k : ℕ) (f : Slot) (d : Datum) → is_reference f.shape ≡ true
    → is_stored f (Some d) ≡ true
    → IsOpenIf (is_stored f (Some d)) L k f (Some d) (reference_field k ∷ []) (λ behind. behind ≡ [])
reference_open L k f d refers stored = rw stored (record {
  field = reference_field k;
  behind = [];
  value = d;
  opens_are = refl;
  slot_is = refl;
  align_is = four L f.shape refers;
  value_is = refl;
  noted = (refers, refl);
  rest = refl;
})

no_number : (L : LaidSchema) (shape : StoredShape) (n : ℤ) → Fits L shape (a_number n)
    → is_reference shape ≡ false
no_number L (one_of (scalar_kind b)) n fits = refl
no_number L (one_of (struct_kind s)) n fits = refl
no_number L (one_of (code_kind u)) n fits = refl
no_number L _ n fits = absurd fits

pub reference_fields : (L : LaidSchema) (k : ℕ) (f : Slot) (d : Datum) → is_reference f.shape ≡ true → Fits L f.shape d
    → code_in (Some d) ≡ None → AreFieldsOf L k f (Some d) (reference_field k ∷ [])
reference_fields L k f (a_number n) refers fits other = let none = no_number L f.shape n fits in cc
reference_fields L k f (a_text b) refers fits other = reference_open L k f (a_text b) refers refl
reference_fields L k f (a_vector ds) refers fits other = reference_open L k f (a_vector ds) refers refl
reference_fields L k f (a_struct ds) refers fits other = reference_open L k f (a_struct ds) refers refl
reference_fields L k f (a_table t es) refers fits other = reference_open L k f (a_table t es) refers refl
reference_fields L k f (a_member c d) refers fits other = cc
reference_fields L k f (an_unknown c) refers fits other = reference_open L k f (an_unknown c) refers refl

-- a union's value with its code
pub member_fields : (L : LaidSchema) (k : ℕ) (f : Slot) (c : ℕ) (d : Datum) (before coded after : List OpenField)
    → AddsInlineField L (k - 1) (scalar_kind U8) (a_number (pos c)) before coded
    → after ≡ coded ++ (reference_field k ∷ []) → AddsFields L k f (Some (a_member c d)) before after
member_fields L k f c d before coded after code is = (
  code.0 ∷ reference_field k ∷ [],
  is ∙ ap (λ os. os ++ (reference_field k ∷ [])) code.1 ∙ append_assoc before (code.0 ∷ []) (reference_field k ∷ []),
  (code.0, refl, code.2),
)
