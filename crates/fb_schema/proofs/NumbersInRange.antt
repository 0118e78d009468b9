-- The numbers that a basic type holds are those in its range.
use Rattle.std.proofs.Common.{◌≡◌, true, arith}
use Rattle.std.specs.Prelude.{ℤ, int_le}
use Rattle.std.specs.Cmp.Derive.{both_true}
use Rattle.std.proofs.lemmas.Bool.{and_parts}
use Rattle.std.proofs.lemmas.Int.{ints}
use Rattle.fb_schema.specs.declared.kinds.Base.{Base}
use Rattle.fb_schema.specs.declared.kinds.Base.TheVariants.{Bool as Boolean}
use Rattle.fb_schema.specs.Ranges.{is_between, holds}
use Rattle.fb_schema.specs.WellDeclared.{IsBetween, InRange}

is_within : (low high n : ℤ) → is_between low high n ≡ true → IsBetween low high n
is_within low high n h = let both : (int_le low n ≡ true) × (int_le n high ≡ true) =
    and_parts (int_le low n) (int_le n high) h in
    (grind (arith, ints, both.0), grind (arith, ints, both.1))

passes : (low high n : ℤ) → IsBetween low high n → is_between low high n ≡ true
passes low high n h =
    both_true {s = int_le low n} {t = int_le n high} (grind (arith, ints, h.0)) (grind (arith, ints, h.1))

pub held_in_range : (base : Base) (n : ℤ) → holds base n ≡ true → InRange base n
unfolding holds
held_in_range Boolean n h = is_within _ _ n h
held_in_range _ n h = is_within _ _ n h

pub holds_in_range : (base : Base) (n : ℤ) → InRange base n → holds base n ≡ true
unfolding holds
holds_in_range Boolean n h = passes _ _ n h
holds_in_range _ n h = passes _ _ n h
