-- The elements of a vector of numbers or structs are noted one after the other.
use Rattle.std.proofs.Common.{◌≡◌, ◌+◌, ◌≤◌, ◌<◌, ◌++◌, ℕ, zero, suc, false, List, [], ◌∷◌, length, map, take, get_or}
use Rattle.std.proofs.Common.{refl, sym, ap, subst, arith}
use Rattle.fb_layout.specs.Laid.{LaidSchema, StoredKind, scalar_kind, struct_kind, union_kind, code_kind}
use Rattle.fb_layout.specs.Laid.{one_of}
use Rattle.fb_value.specs.Fits.{Fits, EachFits}
use Rattle.fb_value.specs.View.{view, parts_view}
use Rattle.fb_value.specs.declared.values.Value.{Value}
use Rattle.fb_tape.specs.InlineBytes.{IsInline}
use Rattle.fb_build.specs.Fields.{IsElement, is_reference}

pub element_inline : (L : LaidSchema) (kind : StoredKind) → IsElement L kind → is_reference (one_of kind) ≡ false
    → IsInline L kind
element_inline L (scalar_kind b) h is = tt
element_inline L (struct_kind s) h is = h.is
element_inline L (union_kind u) h is = absurd h
element_inline L (code_kind u) h is = absurd h
element_inline L _ h is = cc

pub each_fits : (L : LaidSchema) (kind : StoredKind) (items : List Value) → EachFits L kind (parts_view items) → (i : ℕ)
    → i < length items → (v : Value) → v ≡ get_or items i v → Fits L (one_of kind) (view v)
each_fits L kind [] h i low v is = absurd (omega (arith, low))
each_fits L kind (w ∷ items) h zero low v is = subst (λ (u : Value). Fits L (one_of kind) (view u)) (sym is) h.0
each_fits L kind (w ∷ items) h (suc i) low v is = each_fits L kind items h.1 i (omega (arith, low)) v is

pub seen_more : (items : List Value) (i : ℕ) (v : Value) → i < length items → v ≡ get_or items i v
    → map view (take (i + 1) items) ≡ map view (take i items) ++ (view v ∷ [])
seen_more [] i v low is = absurd (omega (arith, low))
seen_more (w ∷ items) zero v low is = rw is refl
seen_more (w ∷ items) (suc i) v low is =
    let one : suc i + 1 ≡ suc (i + 1) = omega arith in
    rw one (ap (λ ds. view w ∷ ds) (seen_more items i v (omega (arith, low)) is))

pub all_seen : (items : List Value) (i : ℕ) → length items ≤ i → map view (take i items) ≡ map view items
all_seen [] zero low = refl
all_seen [] (suc i) low = refl
all_seen (v ∷ items) zero low = absurd (omega (arith, low))
all_seen (v ∷ items) (suc i) low = ap (λ ds. view v ∷ ds) (all_seen items i (omega (arith, low)))
