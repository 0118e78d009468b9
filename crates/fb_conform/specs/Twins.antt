-- Types of two schemas that have one full name.
-- From the FlatBuffers documentation, "Evolution": a type is known by its full name, wherever it is declared.
use Rattle.std.specs.Prelude.{ℕ, ◌≡◌, IsTrue, Option, Some, slice_get, option_and_then, unwrap_or}
use Rattle.fb_schema.specs.Schema.{DeclaredField, DeclaredSchema, body_at, slots_in, is_table}
use Rattle.fb_schema.specs.Found.{type_named, name_at}
use Rattle.fb_layout.specs.Laid.{LaidSchema}

-- two types, each of its own schema, have one full name
abbrev pub SameName : DeclaredSchema → DeclaredSchema → ℕ → ℕ → Type 0
SameName S T t u = name_at S t ≡ name_at T u

-- the new type that has an old type's full name, if there is one
abbrev pub twin : DeclaredSchema → DeclaredSchema → ℕ → Option ℕ
twin S T t = option_and_then (λ name. type_named T name) (name_at S t)

abbrev pub Twins : DeclaredSchema → DeclaredSchema → ℕ → ℕ → Type 0
Twins S T t u = twin S T t ≡ Some u

-- the old and the new field in a slot
pub record SlotTwins (S T : DeclaredSchema) (t k : ℕ) (f g : DeclaredField) : Type 0 where
  pub type : ℕ
  pub twins : Twins S T t type
  pub old : slice_get (slots_in (body_at S t)) k ≡ Some f
  pub new : slice_get (slots_in (body_at T type)) k ≡ Some g

-- two tables of one full name
pub record TableTwins (S T : DeclaredSchema) (t u : ℕ) : Type 0 where
  pub twins : Twins S T t u
  pub old : IsTrue (is_table (body_at S t))
  pub new : IsTrue (is_table (body_at T u))

-- the old and the new field in a slot of two tables, where there is one
pub record TableSlot (S T : DeclaredSchema) (t k : ℕ) (was is : Option DeclaredField) : Type 0 where
  pub type : ℕ
  pub tables : TableTwins S T t type
  pub old : slice_get (slots_in (body_at S t)) k ≡ was
  pub new : slice_get (slots_in (body_at T type)) k ≡ is

-- the number that an old type has in the new schema, 0 where it is gone
abbrev pub to_new : LaidSchema → LaidSchema → ℕ → ℕ
to_new A B t = unwrap_or (twin A.schema B.schema t) 0
