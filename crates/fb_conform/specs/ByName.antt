-- The type of a field, whatever numbers the named types have: they are known by their full names alone.
-- From the FlatBuffers documentation, "Evolution": types may be declared in another order, and be renumbered by it.
use Rattle.std.specs.Prelude.{◌≡◌, List, map, Option}
use Rattle.fb_schema.specs.declared.kinds.Base.{Base}
use Rattle.fb_schema.specs.declared.kinds.Kind.{Kind}
use Rattle.fb_schema.specs.declared.kinds.Kind.TheVariants.{Scalar, Enum, Struct, Table, Union, Code, Text}
use Rattle.fb_schema.specs.declared.kinds.Shape.{Shape}
use Rattle.fb_schema.specs.declared.kinds.Shape.TheVariants.{One, Many}
use Rattle.fb_schema.specs.Schema.{Name, DeclaredField, DeclaredSchema}
use Rattle.fb_schema.specs.Found.{name_at}

pub data KindByName : Type 0 where
  basic_type : Base → KindByName
  text_type : KindByName
  -- a struct, table, enum or union: that it isn't of its old kind any more is a breach of its own
  named_type : Option Name → KindByName
  -- the code of the union of that name
  code_type : Option Name → KindByName

abbrev pub kind_by_name : DeclaredSchema → Kind → KindByName
kind_by_name S (Scalar base) = basic_type base
kind_by_name S (Enum t) = named_type (name_at S t.0)
kind_by_name S (Struct t) = named_type (name_at S t.0)
kind_by_name S (Table t) = named_type (name_at S t.0)
kind_by_name S (Union t) = named_type (name_at S t.0)
kind_by_name S (Code t) = code_type (name_at S t.0)
kind_by_name S Text = text_type

pub data ShapeByName : Type 0 where
  one_by_name : KindByName → ShapeByName
  vector_by_name : KindByName → ShapeByName

abbrev pub shape_by_name : DeclaredSchema → Shape → ShapeByName
shape_by_name S (One kind) = one_by_name (kind_by_name S kind)
shape_by_name S (Many kind) = vector_by_name (kind_by_name S kind)

abbrev pub SameShape : DeclaredSchema → DeclaredSchema → Shape → Shape → Type 0
SameShape S T s z = shape_by_name S s ≡ shape_by_name T z

-- the types of some fields, in order
abbrev pub shapes_by_name : DeclaredSchema → List DeclaredField → List ShapeByName
shapes_by_name S fs = map (λ f. shape_by_name S f.shape) fs

abbrev pub SameFields : DeclaredSchema → DeclaredSchema → List DeclaredField → List DeclaredField → Type 0
SameFields S T fs gs = shapes_by_name S fs ≡ shapes_by_name T gs
