-- What a vector's elements and a table's slots name, and which room it takes.
use Rattle.std.proofs.Common.{◌≡◌, ◌++◌, ◌∙◌, ℕ, false, List, [], ◌∷◌, Option, None, Some}
use Rattle.std.proofs.Common.{refl, ap, arith}
use Rattle.std.proofs.lemmas.List.Elements.{filter_map-append}
use Rattle.std.specs.List.{cons_option}
use Rattle.fb_schema.specs.declared.kinds.Base.{Base}
use Rattle.fb_layout.specs.Laid.{LaidSchema, StoredKind, scalar_kind, struct_kind, table_kind, union_kind, code_kind}
use Rattle.fb_layout.specs.Laid.{text_kind, one_of}
use Rattle.fb_value.specs.Datum.{Datum, Parts, a_number, a_struct, no_parts, more_parts}
use Rattle.fb_value.specs.Fits.{Fits, EachFits}
use Rattle.fb_value.specs.Room.{room, parts_room}
use Rattle.fb_tape.specs.NamedParts.{NamedPart, apart_of, elements_apart, as_list}
use Rattle.fb_build.specs.OneByOne.{EachElementFits}
use Rattle.fb_build.specs.Fields.{IsElement, SlotFits, is_reference}
use Rattle.fb_build.specs.Items.{ItemsKnown}

number_inline : (L : LaidSchema) (k : Base) (d : Datum) → Fits L (one_of (scalar_kind k)) d
    → room L (one_of (scalar_kind k)) d ≡ 0
number_inline L k (a_number n) h = refl
number_inline L k _ h = absurd h

struct_inline : (L : LaidSchema) (k : ℕ) (d : Datum) → Fits L (one_of (struct_kind k)) d
    → room L (one_of (struct_kind k)) d ≡ 0
struct_inline L k (a_struct ds) h = refl
struct_inline L k _ h = absurd h

all_inline : (L : LaidSchema) (kind : StoredKind) (ds : Parts)
    → ((d : Datum) → Fits L (one_of kind) d → room L (one_of kind) d ≡ 0) → EachFits L kind ds
    → parts_room L kind ds ≡ 0
all_inline L kind no_parts inline h = refl
all_inline L kind (more_parts d ds) inline h =
    let own = inline d h.0 in let rest = all_inline L kind ds inline h.1 in omega (arith, own, rest)

-- Numbers and structs take no room beside their vector's.
pub nothing_apart : (L : LaidSchema) (kind : StoredKind) (ds : Parts) → IsElement L kind
    → is_reference (one_of kind) ≡ false → EachFits L kind ds → parts_room L kind ds ≡ 0
nothing_apart L (scalar_kind b) ds element inline fits = all_inline L (scalar_kind b) ds (number_inline L b) fits
nothing_apart L (struct_kind s) ds element inline fits = all_inline L (struct_kind s) ds (struct_inline L s) fits
nothing_apart L (union_kind u) ds element inline fits = absurd element
nothing_apart L (code_kind u) ds element inline fits = absurd element
nothing_apart L _ ds element inline fits = cc

pub named_more : (kind : StoredKind) (ds : List Datum) (d : Datum)
    → elements_apart kind (ds ++ (d ∷ [])) ≡ elements_apart kind ds ++ as_list (apart_of (one_of kind) d)
named_more kind ds d = filter_map-append (apart_of (one_of kind)) ds (d ∷ [])
    ∙ ap (λ x. elements_apart kind ds ++ x) (one (apart_of (one_of kind) d))
  where
    one : (x : Option NamedPart) → cons_option x [] ≡ as_list x
    one None = refl
    one (Some x) = refl

-- ---- elements, as contracts above have them

pub slot_fits : (L : LaidSchema) (kind : StoredKind) (d : Datum) → IsElement L kind → Fits L (one_of kind) d
    → SlotFits L (one_of kind) d
slot_fits L (scalar_kind b) d element fits = fits
slot_fits L (struct_kind s) d element fits = fits
slot_fits L (table_kind t) d element fits = fits
slot_fits L text_kind d element fits = fits
slot_fits L _ d element fits = absurd element

pub elements_known : (L : LaidSchema) (kind : StoredKind) (ds : List Datum) → IsElement L kind
    → EachElementFits L kind ds → ItemsKnown L kind ds
elements_known L kind ds element each = record {
  element = element;
  each = λ k d at. slot_fits L kind d element (each k d at).0;
}
