-- What is read as a number is what the tree means under a kind of numbers.
use Rattle.std.proofs.Common.{◌≡◌, ℕ, ℤ, Bool, Result, Ok, Err, IfOk, refl, sym, ap, ◌∙◌}
use Rattle.serde_json.specs.Data.{Data, null, boolean, number, string, array, object}
use Rattle.fb_schema.specs.declared.kinds.Base.{Base}
use Rattle.fb_schema.specs.declared.kinds.Kind.{Kind}
use Rattle.fb_schema.specs.declared.kinds.Kind.TheVariants.{Scalar, Enum}
use Rattle.fb_schema.specs.declared.kinds.Shape.TheVariants.{One}
use Rattle.fb_schema.specs.declared.kinds.TypeId.{TypeId}
use Rattle.fb_schema.specs.WellDeclared.{IsDeclared}
use Rattle.fb_layout.specs.Laid.{LaidSchema, stored_shape}
use Rattle.fb_value.specs.Datum.{Datum, a_number}
use Rattle.fb_value.specs.Fits.{Fits}
use Rattle.fb_json.specs.declared.faults.Place.{Place}
use Rattle.fb_json.specs.declared.faults.JsonFault.{JsonFault}
use Rattle.fb_json.specs.FaultPaths.{front_of, object_front, rest_of, tree_spot, vector_front}
use Rattle.fb_json.specs.Leaves.{scalar_meant, enum_meant, leaf_meant}
use Rattle.fb_json.specs.Meant.{meant, object_meant, vector_meant}
use Rattle.fb_json.specs.Outcome.{◌>>=◌, Counted, Gives}
use Rattle.fb_json.proofs.laws.ComputedValueIsMeant.{sound}
use Rattle.fb_json.proofs.root.MeantValueFitsTheRoot.{fitted}
use Rattle.fb_json.proofs.slots.OneSlotOrFieldMore.{fails_is}

-- a number with the cells that are left
abbrev with_cells : ℕ → Result ℤ JsonFault → Counted Datum
with_cells left read = read >>= λ n. Ok (a_number n, left)

given : (read meant_as : Result ℤ JsonFault) (left : ℕ) (whole : Counted Datum) → read ≡ meant_as
    → whole ≡ with_cells left meant_as → Gives (λ n. (a_number n, left)) read whole
given (Ok n) meant_as left whole same is = is ∙ ap (with_cells left) (sym same)
given (Err e) meant_as left whole same is = fails_is e whole (is ∙ ap (with_cells left) (sym same))

module _ (L : LaidSchema) (unknown : Bool) (at : Place) (levels left : ℕ) where
  scalar_is : (base : Base) (t : Data)
      → meant L unknown t (One (Scalar base)) at levels left ≡ with_cells left (scalar_meant base t at)
  unfolding scalar_meant leaf_meant object_meant vector_meant
  scalar_is base null = refl
  scalar_is base (boolean b) = refl
  scalar_is base (number x) = refl
  scalar_is base (string s) = refl
  scalar_is base (array ts) = refl
  scalar_is base (object ms) = refl

  enum_is : (e : TypeId) (t : Data)
      → meant L unknown t (One (Enum e)) at levels left ≡ with_cells left (enum_meant L.schema e.0 t at)
  unfolding enum_meant leaf_meant object_meant vector_meant
  enum_is e null = refl
  enum_is e (boolean b) = refl
  enum_is e (number x) = refl
  enum_is e (string s) = refl
  enum_is e (array ts) = refl
  enum_is e (object ms) = refl

  pub scalar_given : (base : Base) (t : Data) (read : Result ℤ JsonFault) → read ≡ scalar_meant base t at
      → Gives (λ n. (a_number n, left)) read (meant L unknown t (One (Scalar base)) at levels left)
  scalar_given base t read same = given read (scalar_meant base t at) left _ same (scalar_is base t)

  pub enum_given : (e : TypeId) (t : Data) (read : Result ℤ JsonFault) → read ≡ enum_meant L.schema e.0 t at
      → Gives (λ n. (a_number n, left)) read (meant L unknown t (One (Enum e)) at levels left)
  enum_given e t read same = given read (enum_meant L.schema e.0 t at) left _ same (enum_is e t)

  pub number_fits : IsDeclared L.schema → (kind : Kind) (t : Data) (read : Result ℤ JsonFault)
      → Gives (λ n. (a_number n, left)) read (meant L unknown t (One kind) at levels left)
      → IfOk read (λ n. Fits L (stored_shape L.schema (One kind)) (a_number n))
  number_fits declared kind t (Ok n) h =
      fitted L declared unknown t (One kind) (a_number n)
      (sound L unknown t (One kind) at levels left (a_number n, left) h).0 tt
  number_fits declared kind t (Err e) h = tt

  -- Nothing in it is read before what it breaks itself.
  pub scalar_front : (base : Base) (t : Data) → front_of L unknown (tree_spot t (One (Scalar base)) at levels left)
      ≡ rest_of (meant L unknown t (One (Scalar base)) at levels left)
  unfolding object_meant vector_meant object_front vector_front
  scalar_front base (array ts) = refl
  scalar_front base (object ms) = refl
  scalar_front base _ = refl

  pub enum_front : (e : TypeId) (t : Data) → front_of L unknown (tree_spot t (One (Enum e)) at levels left)
      ≡ rest_of (meant L unknown t (One (Enum e)) at levels left)
  unfolding object_meant vector_meant object_front vector_front
  enum_front e (array ts) = refl
  enum_front e (object ms) = refl
  enum_front e _ = refl
