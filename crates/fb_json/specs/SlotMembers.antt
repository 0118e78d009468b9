-- The members of a table by its slots, or of a struct by its fields. Each member's name is looked up once, and its tree
-- is found at the slot from then on.
use Rattle.std.specs.Prelude.{ℕ, zero, suc, ◌≡◌, ◌-◌, ◌⊎◌, List, Option, None, Some, Bool, true, false, length}
use Rattle.std.specs.Prelude.{map, option_map, slice_get, if◌then◌else◌, nat_le, take, drop, replicate}
use Rattle.std.specs.Borrow.{Bor}
use Rattle.serde_json.specs.declared.value.Value.{Value}
use Rattle.serde_json.specs.Data.{Data, Members}
use Rattle.serde_json.specs.Find.{get_member}
use Rattle.serde_json.specs.View.{view}
use Rattle.fb_schema.specs.declared.kinds.Kind.TheVariants.{Union, Code}
use Rattle.fb_schema.specs.declared.kinds.Shape.{Shape}
use Rattle.fb_schema.specs.declared.kinds.Shape.TheVariants.{One}
use Rattle.fb_schema.specs.Schema.{DeclaredBody, DeclaredField, parts_in, slots_in}
use Rattle.fb_layout.specs.Laid.{LaidSchema}
use Rattle.fb_json.specs.Meant.{Meaner, meant}

-- the slots of a table, or the fields of a struct
abbrev pub AreFieldsOf : List DeclaredField → DeclaredBody → Type 0
AreFieldsOf fs body = (fs ≡ slots_in body) ⊎ (fs ≡ parts_in body)

-- the tree behind a reference
abbrev pub tree_seen : Option (Bor Value) → Option Data
tree_seen r = option_map (λ t. view t.now) r

-- one of some by its number, from 1 on; 0 stands for none
abbrev pub numbered : {X : Type 0} → List X → ℕ → Option X
numbered xs zero = None
numbered xs (suc k) = slice_get xs k

-- what each of so many slots has: the first of a few places, or many
abbrev pub by_slot : {X : Type 0} → ℕ → List X → List X → List X
by_slot slots few many = if nat_le slots 16 then take slots few else many

-- The places of a few slots: none beyond the slots has anything.
pub record AreFew {X : Type 0} (slots : ℕ) (few : List (Option X)) : Type 0 where
  pub all : length few ≡ 16
  pub beyond : drop slots few ≡ replicate (16 - slots) None

-- each slot has the member of its name
pub record AreMembersOf (trees : List (Option (Bor Value))) (fs : List DeclaredField) (ms : Members) : Type 0 where
  pub all : length trees ≡ length fs
  pub each : (k : ℕ) (f : DeclaredField) → slice_get fs k ≡ Some f
      → slice_get (map tree_seen trees) k ≡ Some (get_member f.name ms)

-- what a look-up gives that finds this tree, or none
abbrev pub looked_up : LaidSchema → Bool → Option (Bor Value) → Option (Data × Meaner)
looked_up L unknown r = option_map (λ t. (view t.now, meant L unknown (view t.now))) r

-- a union's code or its value
abbrev pub is_of_union : Shape → Bool
is_of_union (One (Union u)) = true
is_of_union (One (Code u)) = true
is_of_union _ = false
