-- Which slots of a table have a default.
use Rattle.std.proofs.Common.{◌≡◌, ℕ, false, ◌||◌, slice_get, Option, None, Some, refl, ap, ◌∙◌, subst}
use Rattle.std.specs.Prelude.{ℤ}
use Rattle.fb_schema.specs.declared.kinds.Base.{Base}
use Rattle.fb_schema.specs.declared.kinds.Kind.TheVariants.{Scalar, Enum}
use Rattle.fb_schema.specs.declared.kinds.Shape.{Shape}
use Rattle.fb_schema.specs.declared.kinds.Shape.TheVariants.{One}
use Rattle.fb_schema.specs.Schema.{DeclaredField, DeclaredBody, table_body, struct_body, enum_body, union_body}
use Rattle.fb_schema.specs.Schema.{DeclaredType, DeclaredSchema, body_in, body_at, slots_in}
use Rattle.fb_schema.specs.WellDeclared.{MarksFit, IsBody, IsDeclared}
use Rattle.fb_layout.specs.Laid.{LaidSchema, Slot, slot_of, slots_of, stored_shape}
use Rattle.fb_layout.specs.Laid.{scalar_kind, one_of}
use Rattle.fb_layout.proofs.slots.SlotsFollowTheirFields.{number_shape}
use Rattle.fb_build.specs.Fields.{HasDefault}
use Rattle.fb_build.proofs.fields.CodeIsBeforeItsUnion.{unmapped}

-- the marks of a table's field fit its shape
pub marks_at : (S : DeclaredSchema) → IsDeclared S → (t k : ℕ) (f : DeclaredField)
    → slice_get (slots_in (body_at S t)) k ≡ Some f → MarksFit S f f.shape
marks_at S declared t k f at = by_type (slice_get S.types t) refl at
  where
    by_body : (b : DeclaredBody) → IsBody S t b → slice_get (slots_in b) k ≡ Some f → MarksFit S f f.shape
    by_body (table_body fs) h e = (h.shapes k f e).1
    by_body (struct_body fs a) h e = cc
    by_body (enum_body b f vs) h e = cc
    by_body (union_body ms) h e = cc

    by_type : (o : Option DeclaredType) → slice_get S.types t ≡ o → slice_get (slots_in (body_in o)) k ≡ Some f
        → MarksFit S f f.shape
    by_type None is e = cc
    by_type (Some type) is e = by_body type.body (declared.bodies t type is) e

scalar_free : (S : DeclaredSchema) (f : DeclaredField) (base : Base) (sh : Shape) → MarksFit S f sh
    → stored_shape S sh ≡ one_of (scalar_kind base) → f.required ≡ false
scalar_free S f base (One (Scalar b)) h e = h.2
scalar_free S f base (One (Enum b)) h e = h.2
scalar_free S f base _ h e = cc

pub slots_default : (L : LaidSchema) → IsDeclared L.schema → (t k : ℕ) (f : Slot) (n : ℤ)
    → slice_get (slots_of L t) k ≡ Some f → f.if_absent ≡ Some n → HasDefault f
slots_default L declared t k f n fk is =
    let own = unmapped (slot_of L.schema) (slots_in (body_at L.schema t)) k f fk in
    let g = own.0 in
    let base = number_shape (g.deprecated || g.optional) g.default n (stored_shape L.schema g.shape)
    (ap (λ z. z.if_absent) own.2 ∙ is) in
    let marks = marks_at L.schema declared t k g own.1 in
    let free : g.required ≡ false = scalar_free L.schema g base.0 g.shape marks base.1 in
    subst HasDefault own.2 (record { free = rw free refl; base = base.0; scalar = base.1 })
