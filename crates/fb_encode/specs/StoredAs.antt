-- What a slot stores of its member.
use Rattle.std.specs.Prelude.{◌≡◌, true, false}
use Rattle.fb_schema.specs.declared.kinds.Kind.TheVariants.{Code, Union}
use Rattle.fb_schema.specs.declared.kinds.Shape.{Shape}
use Rattle.fb_schema.specs.declared.kinds.Shape.TheVariants.{One}
use Rattle.fb_schema.specs.declared.kinds.TypeId.{TypeId}
use Rattle.fb_schema.specs.Schema.{DeclaredSchema}
use Rattle.fb_layout.specs.Laid.{stored_shape}
use Rattle.fb_json.specs.SlotMembers.{is_of_union}
use Rattle.fb_build.specs.Fields.{is_reference}
use Rattle.fb_encode.specs.declared.entries.StoredForm.{StoredForm}
use Rattle.fb_encode.specs.declared.entries.StoredForm.TheVariants.{WithItsValue, Inline, Reference, Member}

abbrev pub IsStoredAs : Shape → StoredForm → Type 0
IsStoredAs shape WithItsValue = (u : TypeId) × (shape ≡ One (Code u))
IsStoredAs shape (Inline kind) = (shape ≡ One kind) × (is_of_union shape ≡ false)
    × ((S : DeclaredSchema) → is_reference (stored_shape S shape) ≡ false)
IsStoredAs shape Reference = (is_of_union shape ≡ false)
    × ((S : DeclaredSchema) → is_reference (stored_shape S shape) ≡ true)
IsStoredAs shape (Member u) = shape ≡ One (Union u)
