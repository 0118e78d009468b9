-- What a tree gives under a text's, a table's or a vector's shape.
use Rattle.std.proofs.Common.{◌≡◌, ℕ, Bool, None, Some, Err, refl}
use Rattle.serde_json.specs.Data.{Data, null, boolean, number, string, array, object, Items, Members}
use Rattle.serde_json.specs.Find.{as_array, as_object}
use Rattle.fb_schema.specs.declared.kinds.Kind.{Kind}
use Rattle.fb_schema.specs.declared.kinds.Kind.TheVariants.{Table, Text}
use Rattle.fb_schema.specs.declared.kinds.Shape.TheVariants.{One, Many}
use Rattle.fb_schema.specs.declared.kinds.TypeId.{TypeId}
use Rattle.fb_layout.specs.Laid.{LaidSchema}
use Rattle.fb_json.specs.declared.faults.Place.{Place}
use Rattle.fb_json.specs.declared.faults.JsonFault.TheVariants.{WrongShape}
use Rattle.fb_json.specs.Leaves.{leaf_meant, text_meant}
use Rattle.fb_json.specs.Meant.{count, items_meant, look, meant, object_meant, table_meant, vector_meant}

module _ (L : LaidSchema) (unknown : Bool) (at : Place) (levels left : ℕ) where
  pub text_by : (t : Data) → meant L unknown t (One Text) at levels left ≡ text_meant t at left
  unfolding leaf_meant vector_meant object_meant text_meant
  text_by null = refl
  text_by (boolean b) = refl
  text_by (number n) = refl
  text_by (string s) = refl
  text_by (array ts) = refl
  text_by (object ms) = refl

  pub table_by : (owner : TypeId) (t : Data) (ms : Members) → Some ms ≡ as_object t
      → meant L unknown t (One (Table owner)) at levels left
      ≡ table_meant L unknown ms (look L unknown ms) owner.0 at levels left
  unfolding object_meant
  table_by owner null ms is = cc
  table_by owner (boolean b) ms is = cc
  table_by owner (number n) ms is = cc
  table_by owner (string s) ms is = cc
  table_by owner (array ts) ms is = cc
  table_by owner (object es) ms is = let same : ms ≡ es = cc in rw same refl

  pub no_table_by : (owner : TypeId) (t : Data) → None ≡ as_object t
      → meant L unknown t (One (Table owner)) at levels left ≡ Err (WrongShape at)
  unfolding leaf_meant vector_meant
  no_table_by owner null is = refl
  no_table_by owner (boolean b) is = refl
  no_table_by owner (number n) is = refl
  no_table_by owner (string s) is = refl
  no_table_by owner (array ts) is = refl
  no_table_by owner (object es) is = cc

  pub vector_by : (kind : Kind) (t : Data) (ts : Items) → Some ts ≡ as_array t
      → meant L unknown t (Many kind) at levels left
      ≡ vector_meant (items_meant L unknown ts) (count ts) (Many kind) at levels left
  vector_by kind null ts is = cc
  vector_by kind (boolean b) ts is = cc
  vector_by kind (number n) ts is = cc
  vector_by kind (string s) ts is = cc
  vector_by kind (array es) ts is = let same : ts ≡ es = cc in rw same refl
  vector_by kind (object ms) ts is = cc

  pub no_vector_by : (kind : Kind) (t : Data) → None ≡ as_array t
      → meant L unknown t (Many kind) at levels left ≡ Err (WrongShape at)
  unfolding leaf_meant object_meant
  no_vector_by kind null is = refl
  no_vector_by kind (boolean b) is = refl
  no_vector_by kind (number n) is = refl
  no_vector_by kind (string s) is = refl
  no_vector_by kind (array ts) is = cc
  no_vector_by kind (object ms) is = refl
