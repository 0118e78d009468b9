-- The slot of a declared field is at the field's number, and only a number's slot has a default.
use Rattle.std.proofs.Common.{◌≡◌, ◌∙◌, ℕ, ℤ, Bool, false, List, map, slice_get, Some, refl, ap}
use Rattle.std.specs.Option.{option_map}
use Rattle.std.proofs.lemmas.Option.{slice_get-map}
use Rattle.fb_schema.specs.declared.kinds.Base.{Base}
use Rattle.fb_schema.specs.Schema.{DeclaredField, DeclaredSchema}
use Rattle.fb_layout.specs.Laid.{StoredShape, one_of, scalar_kind, default_of, slot_of}

pub slot_there : (S : DeclaredSchema) (fs : List DeclaredField) (k : ℕ) (f : DeclaredField) → slice_get fs k ≡ Some f
    → slice_get (map (slot_of S) fs) k ≡ Some (slot_of S f)
slot_there S fs k f e = slice_get-map (slot_of S) fs k ∙ ap (option_map (slot_of S)) e

pub number_shape : (gone : Bool) (m n : ℤ) (shape : StoredShape) → default_of gone m shape ≡ Some n
    → (base : Base) × (shape ≡ one_of (scalar_kind base))
number_shape false m n (one_of (scalar_kind base)) e = (base, refl)
number_shape _ m n _ e = cc
