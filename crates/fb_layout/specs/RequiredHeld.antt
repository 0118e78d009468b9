-- The numbers of the required slots of all tables as they are held: table by table.
use Rattle.std.specs.Prelude.{ℕ, zero, suc, ◌≡◌, ◌-◌, ◌≤◌, List, length, take, drop, get_or, slice_get, Some}
use Rattle.fb_schema.specs.Schema.{DeclaredType, slots_in}
use Rattle.fb_layout.specs.declared.required.RequiredSlots.{RequiredSlots}
use Rattle.fb_layout.specs.Required.{required_numbers}

-- the numbers of a type begin where those of the type before it end
abbrev pub start_of : List ℕ → ℕ → ℕ
start_of ends zero = 0
start_of ends (suc t) = get_or ends t 0

-- the numbers of one type
pub record AreOfType (numbers ends : List ℕ) (t : ℕ) (own : List ℕ) : Type 0 where
  pub end : ℕ
  pub at : slice_get ends t ≡ Some end
  pub ordered : start_of ends t ≤ end
  pub within : end ≤ length numbers
  pub are : take (end - start_of ends t) (drop (start_of ends t) numbers) ≡ own

-- the numbers of all types
pub record HaveNumbers (numbers ends : List ℕ) (types : List DeclaredType) : Type 0 where
  pub each : length ends ≡ length types
  pub of_type : (t : ℕ) (type : DeclaredType) → slice_get types t ≡ Some type
      → AreOfType numbers ends t (required_numbers (slots_in type.body))

abbrev pub HaveRequired : RequiredSlots → List DeclaredType → Type 0
HaveRequired r types = HaveNumbers r.numbers.items r.ends.items types
