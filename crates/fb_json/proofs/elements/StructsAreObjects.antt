-- What is read under a struct's type is an object.
use Rattle.std.proofs.Common.{◌≡◌, ℕ, Bool, Err, None, Some, ap, refl}
use Rattle.serde_json.specs.Data.{Data, array, object, Members}
use Rattle.serde_json.specs.Find.{as_object}
use Rattle.fb_schema.specs.declared.kinds.Kind.TheVariants.{Struct}
use Rattle.fb_schema.specs.declared.kinds.Shape.TheVariants.{One}
use Rattle.fb_schema.specs.declared.kinds.TypeId.{TypeId}
use Rattle.fb_layout.specs.Laid.{LaidSchema}
use Rattle.fb_json.specs.declared.faults.Place.{Place}
use Rattle.fb_json.specs.declared.faults.JsonFault.TheVariants.{WrongShape}
use Rattle.fb_json.specs.Leaves.{leaf_meant}
use Rattle.fb_json.specs.Meant.{look, meant, object_meant, struct_meant, vector_meant}

module _ (L : LaidSchema) (unknown : Bool) (s : TypeId) (at : Place) (levels left : ℕ) where
  pub no_object : (d : Data) → as_object d ≡ None
      → meant L unknown d (One (Struct s)) at levels left ≡ Err (WrongShape at)
  unfolding leaf_meant object_meant vector_meant
  no_object (object ms) none = absurd cc
  no_object (array ds) none = refl
  no_object _ none = refl

  pub of_object : (d : Data) (ms : Members) → as_object d ≡ Some ms
      → meant L unknown d (One (Struct s)) at levels left
      ≡ struct_meant L unknown ms (look L unknown ms) s.0 levels left
  unfolding object_meant
  of_object (object others) ms is =
      let same : others ≡ ms = cc in
      ap (λ ms. struct_meant L unknown ms (look L unknown ms) s.0 levels left) same
  of_object _ ms is = absurd cc
