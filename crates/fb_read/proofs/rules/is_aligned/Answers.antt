use Rattle.std.proofs.Common.{◌≡◌, ℕ, ◌-◌, ◌%◌, nat_eq, ap, arith}
use Rattle.std.specs.Int.Bits.{bit_and}
use Rattle.std.proofs.lemmas.Nat.{and_mask}
use Rattle.fb_schema.specs.declared.kinds.Base.{Base}
use Rattle.fb_schema.specs.declared.kinds.Base.TheVariants.{I8, U8, I16, U16, I32, U32, I64, U64}
use Rattle.fb_schema.specs.declared.kinds.Base.TheVariants.{Bool as Boolean}
use Rattle.fb_schema.specs.Alignments.{base_size}
use Rattle.fb_read.proofs.rules.is_aligned.Goals as goal
use Rattle.fb_layout.proofs.sizes.EachFieldTakesAByte.{base_takes}

-- The bits below a basic type's size are the rest of a division by it.
masked : (at : ℕ) (base : Base) → bit_and at (base_size base - 1) ≡ at % base_size base
masked at Boolean = and_mask at 0
masked at I8 = and_mask at 0
masked at U8 = and_mask at 0
masked at I16 = and_mask at 1
masked at U16 = and_mask at 1
masked at I32 = and_mask at 2
masked at U32 = and_mask at 2
masked at I64 = and_mask at 3
masked at U64 = and_mask at 3

pub overflow_sub-result : goal.overflow_sub-result
overflow_sub-result c = let size = base_takes c.args.base in omega (arith, c.size.ensures, c.from-size.ensures)

pub returns : goal.returns
returns c =
    rw (c.from-size.ensures, c.size.ensures) (ap (λ (n : ℕ). nat_eq n 0) (masked c.args.at c.args.base))
