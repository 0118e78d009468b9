-- Where the content of a tree has no meaning, its outline means the same.
use Rattle.std.proofs.Common.{◌≡◌, ℕ, Bool, false, List, refl, sym, subst}
use Rattle.std.proofs.Common.{Option, None, Some, IfSome}
use Rattle.serde_json.specs.Data.{Data, null, boolean, number, string, array, object, no_items, item}
use Rattle.serde_json.specs.View.{view as tree_view}
use Rattle.serde_json.specs.declared.value.Value.{Value as Json}
use Rattle.fb_schema.specs.declared.kinds.Kind.TheVariants.{Scalar, Enum, Struct, Table, Union, Code, Text}
use Rattle.fb_schema.specs.declared.kinds.Shape.{Shape}
use Rattle.fb_schema.specs.declared.kinds.Shape.TheVariants.{One, Many}
use Rattle.fb_schema.specs.declared.kinds.TypeId.{TypeId}
use Rattle.fb_schema.specs.Schema.{DeclaredSchema}
use Rattle.fb_layout.specs.Laid.{LaidSchema}
use Rattle.fb_json.specs.declared.faults.Place.{Place}
use Rattle.fb_json.specs.Leaves.{code_told, leaf_meant, scalar_meant}
use Rattle.fb_json.specs.Meant.{is_null, meant, object_meant, vector_meant}
use Rattle.fb_encode.specs.Outlines.{IsOutlined, has_content, outline}
use Rattle.fb_encode.specs.StandIns.{AreAlike, IsStandIn}
use Rattle.fb_encode.specs.TextsRead.{IsReadAs}

absent_same : (t : Data) → is_null t ≡ is_null (outline t)
absent_same null = refl
absent_same (boolean b) = refl
absent_same (number n) = refl
absent_same (string s) = refl
absent_same (array ds) = refl
absent_same (object ms) = refl

told_same : (S : DeclaredSchema) (t : Data) (u : TypeId) (at : Place) → has_content (One (Code u)) t ≡ false
    → code_told S u.0 t at ≡ code_told S u.0 (outline t) at
unfolding code_told
told_same S null u at none = refl
told_same S (boolean b) u at none = refl
told_same S (number n) u at none = refl
told_same S (string s) u at none = cc
told_same S (array ds) u at none = refl
told_same S (object ms) u at none = refl

module _ (L : LaidSchema) (unknown : Bool) where
  module _ (at : Place) (levels left : ℕ) where
    abbrev Same : Data → Shape → Type 0
    Same t shape = meant L unknown t shape at levels left ≡ meant L unknown (outline t) shape at levels left

    value_same : (t : Data) (shape : Shape) → has_content shape t ≡ false → Same t shape
    unfolding leaf_meant scalar_meant object_meant vector_meant
    value_same null shape none = refl
    value_same (boolean b) shape none = refl
    value_same (number n) shape none = refl
    value_same (string s) (Many kind) none = refl
    value_same (string s) (One (Table t)) none = refl
    value_same (string s) (One (Struct p)) none = refl
    value_same (string s) (One (Union u)) none = refl
    value_same (string s) (One (Scalar base)) none = refl
    value_same (string s) (One (Enum e)) none = cc
    value_same (string s) (One (Code u)) none = cc
    value_same (string s) (One Text) none = cc
    value_same (array ds) (One kind) none = refl
    value_same (array no_items) (Many kind) none = refl
    value_same (array (item d ds)) (Many kind) none = cc
    value_same (object ms) (Many kind) none = refl
    value_same (object ms) (One (Table t)) none = cc
    value_same (object ms) (One (Struct s)) none = cc
    value_same (object ms) (One (Union u)) none = cc
    value_same (object ms) (One (Scalar base)) none = refl
    value_same (object ms) (One (Enum e)) none = refl
    value_same (object ms) (One (Code u)) none = refl
    value_same (object ms) (One Text) none = refl

    member_same : (t : Data) (u table : TypeId) → has_content (One (Union u)) t ≡ false → Same t (One (Table table))
    unfolding leaf_meant vector_meant
    member_same null u table none = refl
    member_same (boolean b) u table none = refl
    member_same (number n) u table none = refl
    member_same (string s) u table none = refl
    member_same (array ds) u table none = refl
    member_same (object ms) u table none = cc

  outline_alike : (t : Data) (shape : Shape) → has_content shape t ≡ false → AreAlike L unknown shape t (outline t)
  outline_alike t shape none = record {
    absent = absent_same t;
    value = λ at levels left. value_same at levels left t shape none;
    code = λ u at is. told_same L.schema t u at (subst (λ (s : Shape). has_content s t ≡ false) is none);
    member = λ u table at levels left is.
        member_same at levels left t u table (subst (λ (s : Shape). has_content s t ≡ false) is none);
  }

  -- so an outline stands in for the text
  pub stands_in : (brackets : ℕ) (text : List ℕ) (shape : Shape) (d : Data) → IsOutlined brackets text shape d
      → IsStandIn L unknown brackets text shape d
  stands_in brackets text shape d o = record {
    tree = o.tree;
    read = o.read;
    alike = subst (AreAlike L unknown shape o.tree) (sym o.same) (outline_alike o.tree shape o.meaningless);
  }

-- an empty array has no content
empty_meaningless : (shape : Shape) → has_content shape (array no_items) ≡ false
empty_meaningless (Many kind) = refl
empty_meaningless (One (Scalar base)) = refl
empty_meaningless (One (Enum e)) = refl
empty_meaningless (One (Struct s)) = refl
empty_meaningless (One (Table t)) = refl
empty_meaningless (One (Union u)) = refl
empty_meaningless (One (Code u)) = refl
empty_meaningless (One Text) = refl

pub empty_outlined : (brackets : ℕ) (text : List ℕ) (shape : Shape) (found : Option Json)
    → IfSome found (λ tree. (tree_view tree ≡ array no_items) × IsReadAs brackets text (array no_items))
    → IfSome found (λ tree. IsOutlined brackets text shape (tree_view tree))
empty_outlined brackets text shape None empty = tt
empty_outlined brackets text shape (Some tree) empty = record {
  tree = array no_items;
  read = empty.1;
  meaningless = empty_meaningless shape;
  same = empty.0;
}
