use Rattle.std.proofs.Common.{◌≡◌, ◌∙◌, ap, ℕ, ◌+◌, ◌-◌, ◌%◌, ◌++◌, List, Option, None, Some, length, replicate, sym, arith}
use Rattle.std.proofs.Common.{length-append}
use Rattle.fb_value.specs.Num.{Bytes}
use Rattle.fb_build.specs.Lengths.{header_end}
use Rattle.fb_build.proofs.tail.PaddingIsZero.{zeros_long}
use Rattle.fb_build.proofs.tail.WhatIsLaidStaysLaid.{then_grows}
use Rattle.fb_build.proofs.roots.lay_identifier.Goals as goal

-- zeros, and an identifier in front of them
module _ (a b d id : Bytes) (front most z : ℕ) (four : length id ≡ 4) (laid : d ≡ id ++ b) where
  identifier_fits : (m : ℕ) → most ≡ m → (length b + (8 + front)) % most ≡ 0 → (length d + (4 + front)) % m ≡ 0
  identifier_fits m is h =
      let long : length d + (4 + front) ≡ length b + (8 + front) =
      omega (arith, ap length laid, length-append id b, four) in
      rw (← is, long) h

  identifier_end : (m : ℕ) (o : Option (List ℕ)) → most ≡ m → o ≡ Some id → b ≡ replicate z 0 ++ a
      → z ≡ (most - (length a + (8 + front)) % most) % most
      → length d + (4 + front) ≡ header_end front o m (length a)
  identifier_end m o is some zeros exact =
      rw (some, ← is, ← exact) (omega (
        arith,
        ap length laid,
        length-append id b,
        four,
        ap length zeros,
        length-append (replicate z 0) a,
        zeros_long z,
      ))

-- zeros alone
header_is_zeros : (a b : Bytes) (front most z m : ℕ) (o : Option (List ℕ)) → most ≡ m → o ≡ None
    → b ≡ replicate z 0 ++ a → z ≡ (most - (length a + (4 + front)) % most) % most
    → length b + (4 + front) ≡ header_end front o m (length a)
header_is_zeros a b front most z m o is none zeros exact =
    rw (none, ← is, ← exact) (omega (arith, ap length zeros, length-append (replicate z 0) a, zeros_long z))

pub returns-in-Some-clause-multiple : goal.returns-in-Some-clause-multiple
returns-in-Some-clause-multiple c =
    let four : length c.in-Some.identifier ≡ 4 = omega arith in
    identifier_fits c.args.out.now.bytes c.fit.new.self.bytes c.lay.new.self.bytes c.in-Some.identifier c.args.front
    c.most-most.result c.fit.result four c.lay.ensures.bytes c.args.out.now.most c.most-most.ensures.exact
    c.fit.ensures.multiple

pub returns-in-Some-clause-long : goal.returns-in-Some-clause-long
returns-in-Some-clause-long c =
    let four : length c.in-Some.identifier ≡ 4 = omega arith in
    let is : c.args.layout.now.schema.identifier ≡ Some c.in-Some.identifier =
    rw (← c.schema.ensures.schema) (sym c.identifier.ensures ∙ c.in-Some.is) in
    identifier_end c.args.out.now.bytes c.fit.new.self.bytes c.lay.new.self.bytes c.in-Some.identifier c.args.front
    c.most-most.result c.fit.result four c.lay.ensures.bytes c.args.out.now.most c.args.layout.now.schema.identifier
    c.most-most.ensures.exact is c.fit.ensures.bytes c.fit.ensures.exact

pub returns-in-None-clause-long : goal.returns-in-None-clause-long
returns-in-None-clause-long c =
    let is : c.args.layout.now.schema.identifier ≡ None =
    rw (← c.schema.ensures.schema) (sym c.identifier.ensures ∙ c.in-None.is) in
    header_is_zeros c.args.out.now.bytes c.fit-in-None.new.self.bytes c.args.front c.most-most.result
    c.fit-in-None.result c.args.out.now.most c.args.layout.now.schema.identifier c.most-most.ensures.exact is
    c.fit-in-None.ensures.bytes c.fit-in-None.ensures.exact

pub returns-in-Some-clause-grows : goal.returns-in-Some-clause-grows
returns-in-Some-clause-grows c = then_grows _ _ _ c.fit.ensures.grows c.lay.ensures.grows
