-- Trees in the place of texts of which not all has a meaning under a schema: they mean the same, and are smaller.
use Rattle.std.specs.Prelude.{◌≡◌, ℕ, List, Bool, Option, None, Some}
use Rattle.serde_json.specs.Data.{Data, Members, put}
use Rattle.fb_schema.specs.declared.kinds.Kind.TheVariants.{Code, Table, Union}
use Rattle.fb_schema.specs.declared.kinds.Shape.{Shape}
use Rattle.fb_schema.specs.declared.kinds.Shape.TheVariants.{One}
use Rattle.fb_schema.specs.declared.kinds.TypeId.{TypeId}
use Rattle.fb_schema.specs.Schema.{DeclaredField}
use Rattle.fb_layout.specs.Laid.{LaidSchema}
use Rattle.fb_json.specs.declared.faults.Place.{Place}
use Rattle.fb_json.specs.Leaves.{code_told}
use Rattle.fb_json.specs.Meant.{is_null, meant}
use Rattle.fb_encode.specs.declared.reader.JsonExcerpt.{JsonExcerpt}
use Rattle.fb_encode.specs.TextsRead.{IsReadAs}

-- Where a value of this shape is wanted, both trees mean the same, or have the same first fault.
pub record AreAlike (L : LaidSchema) (unknown : Bool) (shape : Shape) (t d : Data) : Type 0 where
  pub absent : is_null t ≡ is_null d
  pub value : (at : Place) (levels left : ℕ)
      → meant L unknown t shape at levels left ≡ meant L unknown d shape at levels left
  -- the code of a union
  pub code : (u : TypeId) (at : Place) → shape ≡ One (Code u)
      → code_told L.schema u.0 t at ≡ code_told L.schema u.0 d at
  -- the member of a union, which is a table
  pub member : (u table : TypeId) (at : Place) (levels left : ℕ) → shape ≡ One (Union u)
      → meant L unknown t (One (Table table)) at levels left ≡ meant L unknown d (One (Table table)) at levels left

-- The text is read as a tree which means the same as this one.
pub record IsStandIn (L : LaidSchema) (unknown : Bool) (brackets : ℕ) (text : List ℕ) (shape : Shape) (d : Data)
    : Type 0 where
  pub tree : Data
  pub read : IsReadAs brackets text tree
  pub alike : AreAlike L unknown shape tree d

-- A tree for the text of a field's member is put under the field's name. A field without a member gets none.
abbrev pub IsFieldPut : LaidSchema → Bool → DeclaredField → Option JsonExcerpt → Members → Members → Type 0
IsFieldPut L unknown f None before now = now ≡ before
IsFieldPut L unknown f (Some e) before now =
    (d : Data) × IsStandIn L unknown e.brackets e.text.now f.shape d × (now ≡ put f.name d before)
