-- Vtables, each once, numbered as they come.
use Rattle.std.specs.Prelude.{ℕ, ◌≡◌, ◌⊎◌, ◌++◌, List, [], ◌∷◌, Some, length, slice_get}
use Rattle.fb_value.specs.Num.{Bytes}

-- No vtable has two numbers.
abbrev pub EachHasOneNumber : List Bytes → Type 0
EachHasOneNumber known = (i j : ℕ) (vtable : Bytes) → slice_get known i ≡ Some vtable
    → slice_get known j ≡ Some vtable → i ≡ j

-- The vtable has this number now: it had it before, or is new and after all others.
pub record IsNumbered (before after : List Bytes) (vtable : Bytes) (number : ℕ) : Type 0 where
  pub is : slice_get after number ≡ Some vtable
  pub known : (after ≡ before) ⊎ ((after ≡ before ++ (vtable ∷ [])) × (number ≡ length before))
