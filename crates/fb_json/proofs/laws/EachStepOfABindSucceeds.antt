-- Steps that may fail, one behind the other.
use Rattle.std.proofs.Common.{◌≡◌, ℕ, ◌+◌, ◌-◌, ◌≤◌, ◌⊎◌, inl, inr, Bool, true, false, Option, None, Some, Result, Ok}
use Rattle.std.proofs.Common.{Err, nat_lt, if◌then◌else◌, refl, subst, arith}
use Rattle.std.proofs.lemmas.Bool.Decides.{nat_tests}
use Rattle.fb_json.specs.declared.faults.Place.{Place}
use Rattle.fb_json.specs.declared.faults.JsonFault.{JsonFault}
use Rattle.fb_json.specs.declared.faults.JsonFault.TheVariants.{TooManyCells}
use Rattle.fb_json.specs.Outcome.{◌>>=◌, or_fault, spent}

pub ok_inj : {A : Type 0} (a b : A) → ◌≡◌ {A = Result A JsonFault} (Ok a) (Ok b) → a ≡ b
ok_inj a b h = cc

-- a fact of what is given is one of what was read
pub at_ok : {A : Type 0} (P : A → Type 0) (a b : A) → ◌≡◌ {A = Result A JsonFault} (Ok a) (Ok b) → P a → P b
at_ok P a b h p = subst P (ok_inj a b h) p

-- the cells that are left
pub rest_ok : {A : Type 0} (a b : A × ℕ) → ◌≡◌ {A = Result (A × ℕ) JsonFault} (Ok a) (Ok b) → a.1 ≡ b.1
rest_ok a b h = cc

pub bind_ok : {A B : Type 0} (r : Result A JsonFault) (f : A → Result B JsonFault) (y : B) → (r >>= f) ≡ Ok y
    → (x : A) × (r ≡ Ok x) × (f x ≡ Ok y)
bind_ok (Ok x) f y h = (x, refl, h)
bind_ok (Err e) f y h = cc

pub bind_err : {A B : Type 0} (r : Result A JsonFault) (f : A → Result B JsonFault) (e : JsonFault) → (r >>= f) ≡ Err e
    → (r ≡ Err e) ⊎ ((x : A) × (r ≡ Ok x) × (f x ≡ Err e))
bind_err (Ok x) f e h = inr (x, refl, h)
bind_err (Err d) f e h = inl cc

pub or_ok : {A : Type 0} (o : Option A) (f : JsonFault) (x : A) → or_fault o f ≡ Ok x → o ≡ Some x
or_ok None f x h = cc
or_ok (Some y) f x h = cc

pub or_err : {A : Type 0} (o : Option A) (f g : JsonFault) → or_fault o f ≡ Err g → (o ≡ None) × (f ≡ g)
or_err None f g h = (refl, cc)
or_err (Some y) f g h = cc

spent_by : (b : Bool) (n left l : ℕ) (at : Place) → nat_lt left n ≡ b
    → (if b then Err (TooManyCells at) else Ok (left - n)) ≡ Ok l → l + n ≡ left
spent_by true n left l at is h = cc
spent_by false n left l at is h =
    let same = ok_inj (left - n) l h in
    let enough : n ≤ left = grind (arith, nat_tests) in
    omega arith

pub spent_ok : (n : ℕ) (at : Place) (left l : ℕ) → spent n at left ≡ Ok l → l + n ≡ left
spent_ok n at left l h = spent_by (nat_lt left n) n left l at refl h

spends_by : (b : Bool) (n left : ℕ) (at : Place) → nat_lt left n ≡ b → n ≤ left
    → (if b then Err (TooManyCells at) else Ok (left - n)) ≡ Ok (left - n)
spends_by true n left at is h = absurd (grind (arith, nat_tests))
spends_by false n left at is h = refl

pub spends : (n : ℕ) (at : Place) (left : ℕ) → n ≤ left → spent n at left ≡ Ok (left - n)
spends n at left h = spends_by (nat_lt left n) n left at refl h
