-- The types of fields as they are declared in a new schema: those of the old one by their new numbers.
use Rattle.std.proofs.Common.{◌≡◌, ℕ, refl, ap, sym}
use Rattle.fb_schema.specs.declared.kinds.TypeId.{TypeId}
use Rattle.fb_schema.specs.declared.kinds.Kind as declared_kind
use Rattle.fb_schema.specs.declared.kinds.Kind.TheVariants.{Scalar, Enum, Struct as Fixed, Table, Union, Code, Text}
use Rattle.fb_schema.specs.declared.kinds.Shape as declared_shape
use Rattle.fb_schema.specs.declared.kinds.Shape.TheVariants.{One, Many}
use Rattle.fb_schema.specs.WellDeclared.{KindNames, IsShape}
use Rattle.fb_layout.specs.Laid.{LaidSchema, stored_kind}
use Rattle.fb_layout.specs.WellMade.{IsWellMade}
use Rattle.fb_conform.specs.ByName.{SameShape, kind_by_name}
use Rattle.fb_conform.specs.Conforms.{Conforms}
use Rattle.fb_conform.specs.Twins.{to_new}
use Rattle.fb_conform.proofs.laws.BodiesOfOneKindAgree.{name_same, code_same, basic_same, one_same, vector_same}
use Rattle.fb_conform.proofs.laws.ConformingLayoutsAgree.{named, kind_moved}
use Rattle.fb_conform.proofs.laws.OldTypesByTheirNewNumbers.{moved_kind}

abbrev pub id : ℕ → TypeId
id t = record { 0 = t }

abbrev pub to_kind : (ℕ → ℕ) → declared_kind.Kind → declared_kind.Kind
to_kind to (Scalar base) = Scalar base
to_kind to (Enum e) = Enum (id (to e.0))
to_kind to (Fixed s) = Fixed (id (to s.0))
to_kind to (Table t) = Table (id (to t.0))
to_kind to (Union u) = Union (id (to u.0))
to_kind to (Code u) = Code (id (to u.0))
to_kind to Text = Text

abbrev pub to_shape : (ℕ → ℕ) → declared_shape.Shape → declared_shape.Shape
to_shape to (One kind) = One (to_kind to kind)
to_shape to (Many kind) = Many (to_kind to kind)

module _ (A B : LaidSchema) (old : IsWellMade A) (new : IsWellMade B) (conforms : Conforms A B) where
  by_stored : (k l : declared_kind.Kind) → KindNames A.schema k → KindNames B.schema l
      → kind_by_name A.schema k ≡ kind_by_name B.schema l
      → stored_kind B.schema l ≡ moved_kind (to_new A B) (stored_kind A.schema k) → l ≡ to_kind (to_new A B) k
  by_stored (Scalar b) (Scalar c) known there same stored = ap Scalar (sym (basic_same b c same))
  by_stored (Enum t) (Enum u) known there same stored =
      ap (λ (z : ℕ). Enum (id z)) (named A B old new conforms t.0 u.0 there.0 (name_same _ _ same))
  by_stored (Fixed t) (Fixed u) known there same stored =
      ap (λ (z : ℕ). Fixed (id z)) (named A B old new conforms t.0 u.0 there.0 (name_same _ _ same))
  by_stored (Table t) (Table u) known there same stored =
      ap (λ (z : ℕ). Table (id z)) (named A B old new conforms t.0 u.0 there.0 (name_same _ _ same))
  by_stored (Union t) (Union u) known there same stored =
      ap (λ (z : ℕ). Union (id z)) (named A B old new conforms t.0 u.0 there.0 (name_same _ _ same))
  by_stored (Code t) (Code u) known there same stored =
      ap (λ (z : ℕ). Code (id z)) (named A B old new conforms t.0 u.0 there.0 (code_same _ _ same))
  by_stored Text Text known there same stored = refl
  by_stored _ _ known there same stored = cc

  pub kind_renumbered : (k l : declared_kind.Kind) → KindNames A.schema k → KindNames B.schema l
      → kind_by_name A.schema k ≡ kind_by_name B.schema l → l ≡ to_kind (to_new A B) k
  kind_renumbered k l known there same =
      by_stored k l known there same (kind_moved A B old new conforms k l known there same)

  pub shape_renumbered : (s z : declared_shape.Shape) → IsShape A.schema s → IsShape B.schema z
      → SameShape A.schema B.schema s z → z ≡ to_shape (to_new A B) s
  shape_renumbered (One k) (One l) known there same = ap One (kind_renumbered k l known there (one_same _ _ same))
  shape_renumbered (Many k) (Many l) known there same =
      ap Many (kind_renumbered k l known.0 there.0 (vector_same _ _ same))
  shape_renumbered (One k) (Many l) known there same = cc
  shape_renumbered (Many k) (One l) known there same = cc
