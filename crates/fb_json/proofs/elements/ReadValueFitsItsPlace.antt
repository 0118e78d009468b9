-- A value that was read fits its place, and has no union code that the schema doesn't know.
use Rattle.std.proofs.Common.{◌≡◌, ◌∙◌, ap, sym, ℕ, Bool, true, Result, Ok, Err, IfOk, OnOk, Vec, Global}
use Rattle.serde_json.specs.Data.{Data}
use Rattle.fb_schema.specs.declared.kinds.Shape.{Shape}
use Rattle.fb_schema.specs.WellDeclared.{IsDeclared}
use Rattle.fb_layout.specs.Laid.{LaidSchema, stored_shape}
use Rattle.fb_value.specs.Counts.{is_whole}
use Rattle.fb_value.specs.Fits.{Fits}
use Rattle.fb_value.specs.Datum.{a_struct}
use Rattle.fb_value.specs.View.{parts_view, view}
use Rattle.fb_value.specs.declared.values.Value.{Value}
use Rattle.fb_value.specs.declared.values.Value.TheVariants.{Fixed}
use Rattle.fb_value.proofs.types.EachVariantHasItsView.{view-Fixed}
use Rattle.fb_json.specs.declared.faults.Place.{Place}
use Rattle.fb_json.specs.declared.faults.JsonFault.{JsonFault}
use Rattle.fb_json.specs.Meant.{meant}
use Rattle.fb_json.specs.Outcome.{Gives}
use Rattle.fb_json.proofs.laws.ComputedValueIsMeant.{sound}
use Rattle.fb_json.proofs.laws.MeantValueIsWhole.{whole_as}
use Rattle.fb_json.proofs.root.MeantValueFitsTheRoot.{fitted}
use Rattle.fb_json.proofs.texts.ValueTextsAreUtf8.{value_utf8}

module _ (L : LaidSchema) (unknown : Bool) (t : Data) (shape : Shape) (at : Place) (levels left : ℕ) where
  pub value_fits : IsDeclared L.schema → (r : Result (Value × ℕ) JsonFault)
      → Gives (λ x. (view x.0, x.1)) r (meant L unknown t shape at levels left)
      → IfOk r (λ x. Fits L (stored_shape L.schema shape) (view x.0))
  value_fits declared (Ok x) h =
      fitted L declared unknown t shape (view x.0)
      (sound L unknown t shape at levels left (view x.0, x.1) h).0 (value_utf8 x.0)
  value_fits declared (Err e) h = tt

  pub value_whole : (r : Result (Value × ℕ) JsonFault)
      → Gives (λ x. (view x.0, x.1)) r (meant L unknown t shape at levels left)
      → IfOk r (λ x. is_whole (view x.0) ≡ true)
  value_whole (Ok x) h =
      whole_as L unknown t shape (view x.0) (sound L unknown t shape at levels left (view x.0, x.1) h).0
  value_whole (Err e) h = tt

  -- the same of the parts of a struct
  pub parts_fit : IsDeclared L.schema → (parts : Vec Value Global) (r : Result ℕ JsonFault)
      → Gives (λ rest. (a_struct (parts_view parts.items), rest)) r (meant L unknown t shape at levels left)
      → OnOk r (Fits L (stored_shape L.schema shape) (a_struct (parts_view parts.items)))
  parts_fit declared parts (Ok rest) h =
      rw (← view-Fixed parts) (value_fits declared (Ok (Fixed parts, rest)) (rw (view-Fixed parts) h))
  parts_fit declared parts (Err e) h = tt

  pub parts_whole : (parts : Vec Value Global) (r : Result ℕ JsonFault)
      → Gives (λ rest. (a_struct (parts_view parts.items), rest)) r (meant L unknown t shape at levels left)
      → OnOk r (is_whole (a_struct (parts_view parts.items)) ≡ true)
  parts_whole parts (Ok rest) h =
      ap is_whole (sym (view-Fixed parts)) ∙ value_whole (Ok (Fixed parts, rest)) (rw (view-Fixed parts) h)
  parts_whole parts (Err e) h = tt
