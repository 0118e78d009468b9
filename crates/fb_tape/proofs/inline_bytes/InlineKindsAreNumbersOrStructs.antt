-- What stands in its place is a number or a struct.
use Rattle.std.proofs.Common.{◌≡◌, ℤ, pos, negsuc, to_z, of_z, Some, ap, sym, ◌∙◌, arith}
use Rattle.std.specs.Prelude.{FitsSigned}
use Rattle.std.proofs.lemmas.Int.{ints}
use mir.Facts.{to_z-of_z}
use mir.Syntax.{w128}
use Rattle.fb_schema.specs.declared.kinds.Base.{Base}
use Rattle.fb_schema.specs.declared.kinds.Base.TheVariants as the_base
use Rattle.fb_schema.specs.WellDeclared.{InRange}
use Rattle.fb_layout.specs.Laid.{StoredKind, scalar_kind, table_kind, union_kind, code_kind, text_kind}
use Rattle.fb_layout.specs.Laid.{LaidSchema, one_of}
use Rattle.fb_value.specs.Datum.{Datum, a_number}
use Rattle.fb_value.specs.Fits.{Fits}
use Rattle.fb_value.specs.View.{view}
use Rattle.fb_value.specs.declared.values.Value.{Value, Number}
use Rattle.fb_value.proofs.types.EachVariantHasItsView.{view-Number}
use Rattle.fb_tape.specs.InlineBytes.{IsInline}
use Rattle.fb_tape.specs.StoredFields.{scalar_in}

scalar_is : (L : LaidSchema) (kind : StoredKind) (base : Base) → IsInline L kind
    → scalar_in (one_of kind) ≡ Some base → scalar_kind base ≡ kind
scalar_is L (table_kind t) base h e = absurd h
scalar_is L (union_kind u) base h e = absurd h
scalar_is L (code_kind u) base h e = absurd h
scalar_is L text_kind base h e = absurd h
scalar_is L _ base h e = cc

-- a number is the same in 128 bits
fits_wide : (base : Base) (n : ℤ) → InRange base n → FitsSigned w128 n
fits_wide the_base.Bool (pos n) h = record { sfits = omega (arith, ints, h) }
fits_wide the_base.Bool (negsuc n) h = record { sfits = omega (arith, ints, h) }
fits_wide the_base.I8 (pos n) h = record { sfits = omega (arith, ints, h) }
fits_wide the_base.I8 (negsuc n) h = record { sfits = omega (arith, ints, h) }
fits_wide the_base.U8 (pos n) h = record { sfits = omega (arith, ints, h) }
fits_wide the_base.U8 (negsuc n) h = record { sfits = omega (arith, ints, h) }
fits_wide the_base.I16 (pos n) h = record { sfits = omega (arith, ints, h) }
fits_wide the_base.I16 (negsuc n) h = record { sfits = omega (arith, ints, h) }
fits_wide the_base.U16 (pos n) h = record { sfits = omega (arith, ints, h) }
fits_wide the_base.U16 (negsuc n) h = record { sfits = omega (arith, ints, h) }
fits_wide the_base.I32 (pos n) h = record { sfits = omega (arith, ints, h) }
fits_wide the_base.I32 (negsuc n) h = record { sfits = omega (arith, ints, h) }
fits_wide the_base.U32 (pos n) h = record { sfits = omega (arith, ints, h) }
fits_wide the_base.U32 (negsuc n) h = record { sfits = omega (arith, ints, h) }
fits_wide the_base.I64 (pos n) h = record { sfits = omega (arith, ints, h) }
fits_wide the_base.I64 (negsuc n) h = record { sfits = omega (arith, ints, h) }
fits_wide the_base.U64 (pos n) h = record { sfits = omega (arith, ints, h) }
fits_wide the_base.U64 (negsuc n) h = record { sfits = omega (arith, ints, h) }

pub same_wide : (base : Base) (n : ℤ) → InRange base n → to_z w128 (of_z w128 n) ≡ n
same_wide base n h = to_z-of_z {w = w128} {z = n} (fits_wide base n h)

-- What holds of a number and its basic type holds of the value and its kind.
pub number_seen : (L : LaidSchema) (kind : StoredKind) (base : Base) (v : Value) (n : ℤ)
    (P : StoredKind → Datum → Type 0) → IsInline L kind → Some base ≡ scalar_in (one_of kind) → v ≡ Number n
    → Fits L (one_of kind) (view v) → P (scalar_kind base) (a_number (to_z w128 (of_z w128 n))) → P kind (view v)
number_seen L kind base v n P inline is has fits h =
    let same : scalar_kind base ≡ kind = scalar_is L kind base inline (sym is) in
    let seen : view v ≡ a_number n = ap view has ∙ view-Number n in
    let range : InRange base n = rw (← same, seen) at fits in
    rw (seen, ← same) (rw (same_wide base n range) at h)
