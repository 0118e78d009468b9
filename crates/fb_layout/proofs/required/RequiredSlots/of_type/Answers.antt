use Rattle.std.proofs.Common.{◌≡◌, ◌<◌, ℕ, List, get_or, slice_get, length, refl, ap, sym, ◌∙◌, arith}
use Rattle.std.proofs.lemmas.Option.{slice_get_read}
use Rattle.fb_schema.specs.Schema.{DeclaredType}
use Rattle.fb_layout.specs.RequiredHeld.{HaveNumbers}
use Rattle.fb_layout.proofs.required.NumbersOfEachType.{IsOwn, own}
use Rattle.fb_layout.proofs.required.RequiredSlots.of_type.Goals as goal

-- the numbers of the type that ends there, where the end is read from an equal list
module _ (numbers ends read : List ℕ) (same : read ≡ ends) (t end : ℕ) (low : t < length read)
    (at : end ≡ get_or read t end) where
  its : (types : List DeclaredType) → HaveNumbers numbers ends types → IsOwn numbers ends types t end
  its types have = own numbers ends types have t end
      (ap (λ (xs : List ℕ). slice_get xs t) (sym same) ∙ slice_get_read read (length read) t end refl low at)

pub start-requires : goal.start-requires
start-requires c =
    let low = c.in-Some.ensures.lookup.3.0 in
    omega (arith, low, ap length c.deref.ensures.value)

pub offset_bounds-deref-start : goal.offset_bounds-deref-start
offset_bounds-deref-start c =
    let held = c.args.self.now in
    let own = its held.numbers.items held.ends.items c.deref.result.now c.deref.ensures.value c.args.table.0
    c.in-Some.end.now c.in-Some.ensures.lookup.3.0 c.in-Some.ensures.lookup.1 c.requires.0 c.requires.1 in
    omega (arith, own.ordered, own.within, c.start.ensures, ap length c.deref-2.ensures.value, c.deref-2.type_inv.1)

pub slice_bounds-result-count : goal.slice_bounds-result-count
slice_bounds-result-count c =
    let held = c.args.self.now in
    let own = its held.numbers.items held.ends.items c.deref.result.now c.deref.ensures.value c.args.table.0
    c.in-Some.end.now c.in-Some.ensures.lookup.3.0 c.in-Some.ensures.lookup.1 c.requires.0 c.requires.1 in
    omega (arith, own.ordered, c.start.ensures)

pub slice_bounds-result-start : goal.slice_bounds-result-start
slice_bounds-result-start c =
    let held = c.args.self.now in
    let own = its held.numbers.items held.ends.items c.deref.result.now c.deref.ensures.value c.args.table.0
    c.in-Some.end.now c.in-Some.ensures.lookup.3.0 c.in-Some.ensures.lookup.1 c.requires.0 c.requires.1 in
    omega (arith, own.ordered, own.within, c.start.ensures, ap length c.deref-2.ensures.value)

pub slice_bounds-result-end-2 : goal.slice_bounds-result-end-2
slice_bounds-result-end-2 c =
    let held = c.args.self.now in
    let own = its held.numbers.items held.ends.items c.deref.result.now c.deref.ensures.value c.args.table.0
    c.in-Some.end.now c.in-Some.ensures.lookup.3.0 c.in-Some.ensures.lookup.1 c.requires.0 c.requires.1 in
    omega (arith, own.ordered, own.within, c.start.ensures, ap length c.deref-2.ensures.value)

pub returns : goal.returns
returns c = λ types have.
    let held = c.args.self.now in
    let own = its held.numbers.items held.ends.items c.deref.result.now c.deref.ensures.value c.args.table.0
    c.in-Some.end.now c.in-Some.ensures.lookup.3.0 c.in-Some.ensures.lookup.1 types have in
    rw (c.start.ensures, c.deref-2.ensures.value) own.are
