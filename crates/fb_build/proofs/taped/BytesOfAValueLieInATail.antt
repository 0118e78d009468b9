-- The bytes of numbers and structs, once they are laid.
use Rattle.std.proofs.Common.{◌≡◌, ℕ, ◌+◌, ◌-◌, ◌*◌, ◌≤◌, ◌++◌, true, false, List, [], ◌∷◌, length, refl, ap}
use Rattle.std.proofs.Common.{sym, ◌∙◌}
use Rattle.std.proofs.Common.{arith, append_assoc, length-append}
use Rattle.std.proofs.lemmas.Bool.{le-leb, and_from}
use Rattle.fb_layout.specs.Laid.{LaidSchema, StoredKind, StoredShape, scalar_kind, struct_kind, table_kind}
use Rattle.fb_layout.specs.Laid.{code_kind, text_kind, one_of, size_of, align_of}
use Rattle.fb_layout.specs.Widths.{inline_align, inline_size}
use Rattle.fb_value.specs.Datum.{Datum}
use Rattle.fb_value.specs.Num.{Bytes, divides}
use Rattle.fb_value.specs.Places.{inline_place}
use Rattle.fb_value.specs.Rules.{fault_by, KeepsBy}
use Rattle.fb_value.specs.Tails.{from_end}
use Rattle.fb_value.specs.View.{parts_in}
use Rattle.fb_value.proofs.rules.RulesHoldOneByOne.{hold, no_rules}
use Rattle.fb_tape.specs.InlineBytes.{AreInlineBytes}
use Rattle.fb_tape.specs.Tapes.{AreElementBytes}
use Rattle.fb_build.specs.Fields.{IsElement, inline_kind, is_reference, sort_for}
use Rattle.fb_build.specs.Items.{ItemsEnd}
use Rattle.fb_build.specs.Tails.{TailSeen, Grows, LaidInTail}
use Rattle.fb_build.proofs.tail.MultiplesAdd.{sum_divides, times_divides}
use Rattle.fb_build.proofs.tail.WhatIsLaidStaysLaid.{self_divides}
use Rattle.fb_build.proofs.vectors.VectorHasItsElements.{element_padded, one_more}
use Rattle.fb_tape.proofs.stored.SizesOfWhatIsStored.{elements_long}

-- a number or a struct
pub inline_laid : (L : LaidSchema) (m : ℕ) (s own : Bytes) (kind : StoredKind) (d : Datum) → AreInlineBytes L kind d own
    → divides (align_of L kind) (length (own ++ s)) ≡ true → divides (align_of L kind) m ≡ true
    → LaidInTail L m (own ++ s) (inline_place kind) (length (own ++ s)) d
unfolding fault_by
inline_laid L m s own kind d is whole most =
    let t = own ++ s in
    let first : length t - length t ≡ 0 = omega arith in
    let all : length t - 0 ≡ length t = omega arith in
    let aligned : from_end t m (align_of L kind) 0 ≡ true = and_from _ _ (rw all whole) most in
    let parts = length-append own s in
    let inside : 0 + size_of L kind ≤ length t = omega (arith, is.long, parts) in
    let keeps : KeepsBy (from_end t m) L t (inline_place kind) 0 =
    hold _ _ _ aligned (hold _ _ _ (le-leb _ _ inside) no_rules) in
    record {
      lies = record { within = omega arith; lies = rw first (keeps, is.lies s) };
      old = tt;
      tight = tt;
      inline = rw first (is.tight s);
    }

-- what a slot without a reference stores
pub inline_sort : (shape : StoredShape) (d : Datum) → is_reference shape ≡ false
    → sort_for shape d ≡ inline_place (inline_kind shape)
inline_sort (one_of (scalar_kind b)) d is = refl
inline_sort (one_of (struct_kind s)) d is = refl
inline_sort (one_of (code_kind u)) d is = refl
inline_sort _ d is = cc

pub inline_aligned : (L : LaidSchema) (shape : StoredShape) → is_reference shape ≡ false
    → inline_align L shape ≡ align_of L (inline_kind shape)
inline_aligned L (one_of (scalar_kind b)) is = refl
inline_aligned L (one_of (struct_kind s)) is = refl
inline_aligned L (one_of (code_kind u)) is = refl
inline_aligned L _ is = cc

pub inline_sized : (L : LaidSchema) (shape : StoredShape) → is_reference shape ≡ false
    → inline_size L shape ≡ size_of L (inline_kind shape)
inline_sized L (one_of (scalar_kind b)) is = refl
inline_sized L (one_of (struct_kind s)) is = refl
inline_sized L (one_of (code_kind u)) is = refl
inline_sized L _ is = cc

element_sort : (L : LaidSchema) (kind : StoredKind) (d : Datum) → IsElement L kind → is_reference (one_of kind) ≡ false
    → sort_for (one_of kind) d ≡ inline_place kind
element_sort L (scalar_kind b) d el is = refl
element_sort L (struct_kind s) d el is = refl
element_sort L (table_kind t) d el is = cc
element_sort L text_kind d el is = cc
element_sort L _ d el is = absurd el

pub elements_end : (L : LaidSchema) (kind : StoredKind) (ds : List Datum) (bytes : Bytes) (p : TailSeen)
    → IsElement L kind → is_reference (one_of kind) ≡ false → AreElementBytes L kind ds bytes
    → divides (align_of L kind) (length p.bytes) ≡ true → divides (align_of L kind) p.most ≡ true
    → ItemsEnd L p.most (bytes ++ p.bytes) kind (parts_in ds)
elements_end L kind [] bytes p el inline is whole wide = record { lie = tt; old = tt; tight = tt; inline = tt }
elements_end L kind (d ∷ ds) bytes p el inline is whole wide =
    let rest = elements_end L kind ds is.behind p el inline is.rest whole wide in
    let a : TailSeen = record { free = length is.own; bytes = is.behind ++ p.bytes; most = p.most } in
    let b : TailSeen = record { free = 0; bytes = is.own ++ a.bytes; most = p.most } in
    let grows : Grows a b =
    record { front = is.own; grown = refl; spent = omega arith; multiple = self_divides p.most } in
    let behind = elements_long L kind ds is.behind is.rest in
    let parts = length-append is.behind p.bytes in
    let own = length-append is.own a.bytes in
    let padded = element_padded L kind el in
    let long : length b.bytes ≡ length a.bytes + size_of L kind = omega (arith, own, is.inline.long) in
    let first : divides (align_of L kind) (length a.bytes) ≡ true =
    sum_divides (align_of L kind) (length p.bytes) (length ds * size_of L kind) (length a.bytes) whole
    (times_divides (align_of L kind) (length ds) (size_of L kind) padded.size) (omega (arith, behind, parts)) in
    let next : divides (align_of L kind) (length b.bytes) ≡ true =
    sum_divides (align_of L kind) (length a.bytes) (size_of L kind) (length b.bytes) first padded.size long in
    let lies : LaidInTail L p.most b.bytes (sort_for (one_of kind) d) (length b.bytes) d =
    rw (element_sort L kind d el inline) (inline_laid L p.most a.bytes is.own kind d is.inline next wide) in
    let one = one_more L a b kind d (parts_in ds) el grows long lies rest in
    let same : is.own ++ (is.behind ++ p.bytes) ≡ bytes ++ p.bytes =
    sym (append_assoc is.own is.behind p.bytes) ∙ ap (λ x. x ++ p.bytes) (sym is.bytes_are) in
    rw (← same) one
