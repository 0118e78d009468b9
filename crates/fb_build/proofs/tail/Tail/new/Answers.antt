use Rattle.std.proofs.Common.{◌≡◌, ◌∙◌, refl, length, arith, rules}
use Rattle.std.proofs.lemmas.List.{take_all}
use Rattle.fb_build.proofs.tail.Tail.new.Goals as goal

pub invariant_of-result : goal.invariant_of-result
invariant_of-result c =
    let n : c.len-free.result ≡ length c.args.block.items = search rules in (
      omega (arith, n),
      c.requires.short,
      rw n (take_all (length c.args.block.items) c.args.block.items (omega arith) ∙ c.requires.zeros),
      record { exponent = 2; few = omega arith; is = refl },
    )
