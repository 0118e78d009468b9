-- Texts in brackets or quotes whose content has no meaning under a schema: an empty array, object or string is in its
-- place.
use Rattle.std.specs.Prelude.{◌≡◌, ℕ, List, [], Bool, true, false, ⊤}
use Rattle.serde_json.specs.Data.{Data, null, boolean, number, string, array, object, no_items, item, no_members}
use Rattle.fb_schema.specs.declared.kinds.Kind.TheVariants.{Code, Enum, Struct, Table, Text, Union}
use Rattle.fb_schema.specs.declared.kinds.Shape.{Shape}
use Rattle.fb_schema.specs.declared.kinds.Shape.TheVariants.{One, Many}
use Rattle.fb_encode.specs.declared.outlines.Container.{Container}
use Rattle.fb_encode.specs.declared.outlines.Container.TheVariants.{Array, Object, String}
use Rattle.fb_encode.specs.TextsRead.{IsReadAs}

-- The tree is an array, an object, or a string.
abbrev pub IsOf : Container → Data → Type 0
IsOf Array (array ds) = ⊤
IsOf Array _ = ⊥
IsOf Object (object ms) = ⊤
IsOf Object _ = ⊥
IsOf String (string s) = ⊤
IsOf String _ = ⊥

-- whether an array's elements, an object's members or a string's bytes have a meaning where a value of this shape is
-- wanted
abbrev pub has_content : Shape → Data → Bool
has_content (Many kind) (array (item d ds)) = true
has_content (One (Table t)) (object ms) = true
has_content (One (Struct s)) (object ms) = true
has_content (One (Union u)) (object ms) = true
has_content (One Text) (string s) = true
has_content (One (Enum e)) (string s) = true
has_content (One (Code u)) (string s) = true
has_content _ _ = false

-- the tree, with no elements, no members and no bytes
abbrev pub outline : Data → Data
outline null = null
outline (boolean b) = boolean b
outline (number n) = number n
outline (string s) = string []
outline (array ds) = array no_items
outline (object ms) = object no_members

-- The text is read as a tree whose content has no meaning under the shape, and this is its outline.
pub record IsOutlined (brackets : ℕ) (text : List ℕ) (shape : Shape) (d : Data) : Type 0 where
  pub tree : Data
  pub read : IsReadAs brackets text tree
  pub meaningless : has_content shape tree ≡ false
  pub same : d ≡ outline tree
