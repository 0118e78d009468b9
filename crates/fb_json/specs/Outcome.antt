-- What reading a tree gives: a value and the cells that are left, or the fault.
use Rattle.std.specs.Prelude.{◌≡◌, ℕ, ◌-◌, Option, None, Some, Result, Ok, Err, nat_lt, if◌then◌else◌}
use Rattle.fb_json.specs.declared.faults.Place.{Place}
use Rattle.fb_json.specs.declared.faults.JsonFault.{JsonFault}
use Rattle.fb_json.specs.declared.faults.JsonFault.TheVariants.{TooManyCells, Memory}

infixl 10 ◌>>=◌
abbrev pub ◌>>=◌ : {A B : Type 0} → Result A JsonFault → (A → Result B JsonFault) → Result B JsonFault
(Ok x) >>= f = f x
(Err e) >>= f = Err e

-- what is there, or the fault
abbrev pub or_fault : {A : Type 0} → Option A → JsonFault → Result A JsonFault
or_fault None f = Err f
or_fault (Some x) f = Ok x

-- what a function returned, seen by a view, is what the definition gives, unless memory ran out
abbrev pub Fails : {Y : Type 0} → JsonFault → Result Y JsonFault → Type 0
Fails Memory given = Unit {0}
Fails e given = given ≡ Err e

abbrev pub Gives : {X Y : Type 0} → (X → Y) → Result X JsonFault → Result Y JsonFault → Type 0
Gives view (Ok x) given = given ≡ Ok (view x)
Gives view (Err e) given = Fails e given

-- a value and the cells that are left
abbrev pub Counted : Type 0 → Type 0
Counted A = Result (A × ℕ) JsonFault

-- n cells are spent
abbrev pub spent : ℕ → Place → ℕ → Result ℕ JsonFault
spent n at left = if nat_lt left n then Err (TooManyCells at) else Ok (left - n)
