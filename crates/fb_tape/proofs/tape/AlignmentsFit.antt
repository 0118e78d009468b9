-- An alignment is 256 at most.
use Rattle.std.proofs.Common.{ℕ, ◌^◌, ◌≤◌, List, [], ◌∷◌, map, arith}
use Rattle.std.proofs.Math.Pow.{pow_mono}
use Rattle.std.proofs.lemmas.List.Elements.{All-head, All-tail}
use Rattle.std.specs.List.{All}
use Rattle.fb_schema.specs.Alignments.{greatest_in}
use Rattle.fb_layout.specs.Laid.{LaidSchema, StoredKind, align_of}
use Rattle.fb_layout.specs.Sizes.{IsAlignment}
use Rattle.fb_layout.specs.WellMade.{IsWellMade}
use Rattle.fb_layout.proofs.sizes.AlignmentsArePowersOfTwo.{kind_aligned}
use Rattle.fb_tape.specs.OpenFields.{OpenField}

alignment_fits : (n : ℕ) → IsAlignment n → n ≤ 256
alignment_fits n h = let most : 2 ^ h.exponent ≤ 2 ^ 8 = pow_mono h.few in omega (arith, most, h.is)

pub align_fits : (L : LaidSchema) → IsWellMade L → (kind : StoredKind) → align_of L kind ≤ 256
align_fits L made kind = alignment_fits (align_of L kind) (kind_aligned L made kind)

pub fields_fit : (opens : List OpenField) → All (λ x. IsAlignment x.align) opens
    → greatest_in (map (λ x. x.align) opens) ≤ 256
fields_fit [] all = omega arith
fields_fit (x ∷ opens) all =
    let own = alignment_fits x.align (All-head (λ (y : OpenField). IsAlignment y.align) x opens all) in
    let rest = fields_fit opens (All-tail (λ (y : OpenField). IsAlignment y.align) x opens all) in
    omega (arith, own, rest)
