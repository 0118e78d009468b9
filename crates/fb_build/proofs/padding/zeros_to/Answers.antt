use Rattle.std.proofs.Common.{◌≡◌, ℕ, ◌-◌, ◌%◌, bit_and, refl}
use Rattle.std.proofs.lemmas.Nat.{and_mask}
use Rattle.fb_build.proofs.padding.zeros_to.Goals as goal

pub returns-clause-exact : goal.returns-clause-exact
returns-clause-exact c =
    let align = c.args.align in
    let count = c.args.count in
    let power = c.requires.power in
    let rest : (n : ℕ) → bit_and n (align - 1) ≡ n % align = λ n. rw power.is (and_mask n power.exponent) in
    rw (rest count, rest (align - count % align)) refl
