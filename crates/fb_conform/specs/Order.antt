-- The order in which breaches are reported: the root, the identifier, then the old types by number, in a type its slots
-- by number, and at one place the lowest number first.
use Rattle.std.specs.Prelude.{ℕ, ◌≡◌, ◌+◌, ◌<◌, ◌⊎◌}
use Rattle.std.specs.Option.{option_map_or}
use Rattle.fb_layout.specs.Laid.{LaidSchema}
use Rattle.fb_conform.specs.declared.breaches.Breach.{Breach}
use Rattle.fb_conform.specs.BreachTable.{number_of, type_of, slot_of}
use Rattle.fb_conform.specs.Conforms.{Kept, Stands}

-- 0 for the root and the identifier, else one more than the type's number
abbrev pub type_place : Breach → ℕ
type_place b = option_map_or (λ t. t.0 + 1) (type_of b) 0

-- 0 for what isn't one slot's, else one more than the slot's number
abbrev pub slot_place : Breach → ℕ
slot_place b = option_map_or (λ k. k + 1) (slot_of b) 0

-- in one type
abbrev pub IsBeforeInType : Breach → Breach → Type 0
IsBeforeInType r b = (slot_place r < slot_place b) ⊎ ((slot_place r ≡ slot_place b) × (number_of r < number_of b))

abbrev pub IsBefore : Breach → Breach → Type 0
IsBefore r b = (type_place r < type_place b) ⊎ ((type_place r ≡ type_place b) × IsBeforeInType r b)

-- The breach stands, and none before it.
pub record IsFirst (A B : LaidSchema) (b : Breach) : Type 0 where
  pub stands : Stands A B b
  pub first : (r : Breach) → IsBefore r b → Kept A B r
