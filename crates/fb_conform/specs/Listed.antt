-- What a walk over two schemas reports: the differences that its hearer wants, in order.
use Rattle.std.specs.Prelude.{⊤, ℕ, ◌≡◌, ◌+◌, ◌<◌, ◌⊎◌, Bool, true, false, List, AllPairs, Contains, Result, Ok, Err}
use Rattle.fb_layout.specs.Laid.{LaidSchema}
use Rattle.fb_conform.specs.declared.difference.Difference.{Difference}
use Rattle.fb_conform.specs.declared.difference.Difference.TheVariants.{Breach as Broken, Moved}
use Rattle.fb_conform.specs.BreachTable.{number_of}
use Rattle.fb_conform.specs.Conforms.{Kept}
use Rattle.fb_conform.specs.Differences.{Differs, ComesBefore}
use Rattle.fb_conform.specs.Names.{IsMoved}
use Rattle.fb_conform.specs.Order.{type_place, slot_place}

abbrev pub is_breach : Difference → Bool
is_breach (Broken b) = true
is_breach (Moved m) = false

abbrev pub is_name : Difference → Bool
is_name (Broken b) = false
is_name (Moved m) = true

-- ---- lists

-- Nothing differs there.
abbrev pub Same : LaidSchema → LaidSchema → Difference → Type 0
Same A B (Broken b) = Kept A B b
Same A B (Moved m) = ¬ (IsMoved A B m)

-- A list may leave it out: nothing differs there, or it isn't wanted.
abbrev pub MayMiss : LaidSchema → LaidSchema → (Difference → Bool) → Difference → Type 0
MayMiss A B wants d = wants d ≡ true → Same A B d

-- The list has those of some differences that are wanted, and no other, in order.
pub record Lists (A B : LaidSchema) (wants : Difference → Bool) (P : Difference → Type 0) (list : List Difference)
    : Type 0 where
  pub among : (d : Difference) → Contains list d → P d
  pub differs : (d : Difference) → Contains list d → Differs A B d
  pub all : (d : Difference) → P d → Contains list d ⊎ MayMiss A B wants d
  pub order : AllPairs ComesBefore list

-- The walk was stopped at a difference, when those before it had been heard.
pub record StopsAt {E : Type 0} (A B : LaidSchema) (wants : Difference → Bool)
    (stops : List Difference → Difference → E → Type 0) (error : E) : Type 0 where
  pub heard : List Difference
  pub difference : Difference
  pub before : Lists A B wants (λ d. ComesBefore d difference) heard
  pub differs : Differs A B difference
  pub stopped : stops heard difference error

-- what comes of the walk over some differences
abbrev pub Walks : {E : Type 0} → LaidSchema → LaidSchema → (Difference → Bool)
    → (List Difference → Difference → E → Type 0) → (Difference → Type 0) → List Difference → Result ⊤ E → Type 0
Walks A B wants stops P heard (Ok done) = Lists A B wants P heard
Walks A B wants stops P heard (Err error) = StopsAt A B wants stops error

-- ---- places

-- The part of the walk: 0 is the root and the identifier; type `t` has `2 t + 2` for its breaches and `2 t + 3` for its
-- names.
abbrev pub part : Difference → ℕ
part (Broken b) = type_place b + type_place b
part (Moved m) = m.type_id.0 + m.type_id.0 + 3

abbrev pub place : Difference → ℕ
place (Broken b) = slot_place b
place (Moved m) = m.slot

abbrev pub number : Difference → ℕ
number (Broken b) = number_of b
number (Moved m) = 0

-- in a lower part, or in this one in a lower place, or there of a lower number
abbrev pub IsBelow : ℕ → ℕ → ℕ → Difference → Type 0
IsBelow p k n d = (part d < p) ⊎ ((part d ≡ p) × ((place d < k) ⊎ ((place d ≡ k) × (number d < n))))

abbrev pub IsAhead : Difference → Difference → Type 0
IsAhead d = IsBelow (part d) (place d) (number d)

abbrev pub IsUpTo : Difference → Difference → Type 0
IsUpTo d = IsBelow (part d) (place d) (number d + 1)

-- It is the root's, the identifier's, or of a type below a number.
abbrev pub IsOfTypesBelow : ℕ → Difference → Type 0
IsOfTypesBelow n = IsBelow (n + n + 2) 0 0

-- It is that, or a breach of the type itself, or of a slot of it below a number.
abbrev pub IsOfSlotsBelow : ℕ → ℕ → Difference → Type 0
IsOfSlotsBelow t k = IsBelow (t + t + 2) (k + 1) 0

-- It is that, or a breach of the type, or a name of it in a place below a number.
abbrev pub IsOfNamesBelow : ℕ → ℕ → Difference → Type 0
IsOfNamesBelow t k = IsBelow (t + t + 3) k 0

abbrev pub IsAny : Difference → Type 0
IsAny d = Unit {0}
