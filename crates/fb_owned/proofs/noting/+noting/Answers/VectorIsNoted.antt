-- A vector is noted, and what its elements name.
use Rattle.std.proofs.Common.{◌≡◌, ◌∙◌, ◌<◌, ℕ, zero, suc, true, List, [], ◌∷◌, length, get_or, map, take, refl, sym}
use Rattle.std.proofs.Common.{ap, arith, rules}
use Rattle.std.proofs.lemmas.Bool.{and_parts}
use Rattle.std.proofs.lemmas.List.{length-map}
use Rattle.fb_layout.specs.Laid.{LaidSchema, StoredShape, one_of, slots_of, table_kind, union_kind}
use Rattle.fb_value.specs.Counts.{is_whole, parts_whole}
use Rattle.fb_value.specs.Datum.{Datum, SlotEntries, a_member, a_table, a_vector, count}
use Rattle.fb_value.specs.Fits.{EntriesFit, Fits}
use Rattle.fb_value.specs.Places.{table_part, vector_part}
use Rattle.fb_value.specs.Room.{vector_room, parts_room}
use Rattle.fb_value.specs.View.{view, parts_in, parts_view, entries_view}
use Rattle.fb_value.specs.declared.values.Value.{Value, the_lemmas}
use Rattle.fb_value.proofs.types.EachVariantHasItsView.{view-Fields, view-Items, view-Member}
use Rattle.fb_value.proofs.types.EachVariantHasItsView.{count-parts_view}
use Rattle.fb_tape.specs.NamedParts.{apart_of, as_list, elements_apart}
use Rattle.fb_build.specs.Fields.{kind_seen, shape_seen}
use Rattle.fb_build.proofs.fields.AlignmentDividesTheSize.{element_simple}
use Rattle.fb_build.proofs.noted.OneMoreFits.{parts_room_more}
use Rattle.fb_build.proofs.noted.PartsAreAdded.{adds_then, adds_same}
use Rattle.fb_build.proofs.noted.PartsFollow.{nothing_apart, named_more}
use Rattle.fb_owned.proofs.noting.ElementsAreNoted.{all_seen, each_fits, seen_more}
use Rattle.fb_owned.proofs.noting.PartsFitTheirSlots.{items_known}
use Rattle.fb_owned.proofs.noting.+noting.Goals as goal

-- a member is a table
member_table : (L : LaidSchema) (shape : StoredShape) (c : ℕ) (d : Datum) → Fits L shape (a_member c d)
    → (t : ℕ) × Fits L (one_of (table_kind t)) d
member_table L (one_of (union_kind u)) c d fits = (fits.0, fits.2)
member_table L _ c d fits = absurd fits

table_entries : (L : LaidSchema) (shape : StoredShape) (t : ℕ) (es : SlotEntries) → Fits L shape (a_table t es)
    → EntriesFit L (slots_of L t) es
table_entries L (one_of (table_kind u)) t es fits = rw fits.0 fits.1
table_entries L _ t es fits = absurd fits

-- it is one part
table_named : (L : LaidSchema) (shape : StoredShape) (t : ℕ) (es : SlotEntries) → Fits L shape (a_table t es)
    → as_list (apart_of shape (a_table t es)) ≡ record { target = table_part t; value = a_table t es } ∷ []
table_named L (one_of (table_kind u)) t es fits = rw fits.0 refl
table_named L _ t es fits = absurd fits

each_whole : (items : List Value) → parts_whole (parts_view items) ≡ true → (i : ℕ) → i < length items → (v : Value)
    → v ≡ get_or items i v → is_whole (view v) ≡ true
each_whole [] h i low v is = absurd (omega (arith, low))
each_whole (w ∷ items) h zero low v is = rw is (and_parts _ _ h).0
each_whole (w ∷ items) h (suc i) low v is = each_whole items (and_parts _ _ h).1 i (omega (arith, low)) v is

pub elements_add : goal.note_items-returns-then-not-is_reference-clause-adds
elements_add t c =
    let L = c.args.layout.now in
    let kind = kind_seen L c.args.kind in
    let items = c.args.items.now in
    let inline = sym (c.is_reference.ensures L) ∙ c.if-not-is_reference.true in
    let nothing = nothing_apart L kind (parts_view items) c.requires.element inline c.requires.fits in
    let named = ap (λ M. record {
      target = vector_part (kind_seen M c.args.kind);
      value = a_vector (parts_view items);
    } ∷ []) c.requires.layout in
    let room = ap (λ M. vector_room M (kind_seen M c.args.kind) (count (parts_view items))) c.requires.layout in
    adds_same _ _ _ _ _ _ named (omega (arith, nothing, room)) c.in_ok-note_elements.ensures.adds

pub references_add : goal.note_items-returns-clause-adds
references_add t c =
    let L = c.args.layout.now in
    let kind = kind_seen L c.args.kind in
    let items = c.args.items.now in
    let adds = c.in_ok-note_targets.ensures.adds in
    let same = adds.layout ∙ c.requires.layout in
    let pushed = rw same at c.in_ok-push_references.ensures.waits in
    let sum = rw same at c.in_ok-push_references.ensures.room in
    record {
      waits = λ others w. pushed others (map view items) (sym (length-map items view))
          (items_known L kind items c.requires.element c.requires.fits) (rw same at (adds.waits others w));
      sum = omega (arith, adds.sum, sum, ap (vector_room L kind) (count-parts_view items));
      layout = c.push_references.ensures.layout ∙ adds.layout;
      whole = c.in_ok-push_references.ensures.whole;
    }

pub member_fits : goal.note_member-note_table-requires
member_fits t c =
    let es = c.in-Fields.entries in
    let table = c.in-Fields.table in
    let fits = rw (c.in-Fields.is, view-Fields table es) at c.requires.fits in
    let whole = rw (c.in-Fields.is, view-Fields table es) at c.requires.known in
    let is = c.deref.ensures.value in (
      search (rules, the_lemmas),
      (c.requires.layout, (c.requires.whole, (rw (is, fits.1.0) fits.1.1, rw is whole))),
    )

pub member_adds : goal.note_member-returns-clause-adds
member_adds t c = λ u h.
    let es = c.in-Fields.entries in
    let table = c.in-Fields.table in
    let fits = rw (c.in-Fields.is, view-Fields table es) at h in
    rw (c.in-Fields.is, view-Fields table es, ← fits.0) (rw c.deref.ensures.value at c.note_table.ensures.adds)

pub table_fits : goal.note_part-note_table-requires
table_fits t c =
    let L = c.args.layout.now in
    let es = c.in-Fields-default.entries in
    let table = c.in-Fields-default.table in
    let fits = rw (c.in-Fields-default.is-0, view-Fields table es) at c.requires.fits in
    let whole = rw (c.in-Fields-default.is-0, view-Fields table es) at c.requires.known in
    let is = c.deref.ensures.value in (
      search (rules, the_lemmas),
      (
        c.requires.layout,
        (
          c.requires.whole,
          (rw is (table_entries L (shape_seen L c.args.shape) table.0 (entries_view es.items) fits), rw is whole),
        ),
      ),
    )

pub fields_add : goal.note_part-returns-in-Fields-default-clause-adds
fields_add t c =
    let L = c.args.layout.now in
    let es = c.in-Fields-default.entries in
    let table = c.in-Fields-default.table in
    let fits = rw (c.in-Fields-default.is-0, view-Fields table es) at c.requires.fits in
    let named = table_named L (shape_seen L c.args.shape) table.0 (entries_view es.items) fits in
    rw (c.in-Fields-default.is-0, view-Fields table es, named)
    (rw c.deref.ensures.value at c.note_table.ensures.adds)

pub item_fits : goal.note_targets-note_part-requires
item_fits t c =
    let L = c.args.layout.now in
    let kind = kind_seen L c.args.kind in
    let items = c.args.items.now in
    let i = c.loop-item.item-index in
    let v = c.item-item.result in
    let low = c.loop-item-test.true in
    let inv = c.loop-item.invariant in (
      search (rules, the_lemmas),
      (
        inv.adds.layout ∙ c.requires.layout,
        (
          inv.adds.whole,
          (
            c.requires.reference,
            (
              element_simple L kind c.requires.element,
              (
                c.requires.low,
                (
                  each_fits L kind items c.requires.fits i low v c.item-item.is,
                  each_whole items c.requires.known i low v c.item-item.is,
                ),
              ),
            ),
          ),
        ),
      ),
    )

pub item_adds : goal.note_targets-loop-item-preserved
item_adds t c =
    let L = c.args.layout.now in
    let kind = kind_seen L c.args.kind in
    let items = c.args.items.now in
    let i = c.loop-item.item-index in
    let v = c.item-item.result in
    let inv = c.loop-item.invariant in
    let seen = map view (take i items) in
    let more = seen_more items i v c.loop-item-test.true c.item-item.is in
    record {
      adds = adds_same _ _ _ _ _ _ (sym (ap (λ ds. elements_apart kind ds) more ∙ named_more kind seen (view v)))
          (sym (ap (λ ds. parts_room L kind (parts_in ds)) more ∙ parts_room_more L kind seen (view v)))
          (adds_then _ _ _ _ _ _ _ inv.adds c.in_ok-note_part.ensures.adds);
      opened = c.in_ok-note_part.ensures.opened ∙ inv.opened;
    }

pub all_items_added : goal.note_targets-returns-clause-adds
all_items_added t c =
    let items = c.args.items.now in
    rw (all_seen items c.loop-item.item-index c.loop-item-test.false) at c.loop-item.invariant.adds

pub union_member_known : goal.note_part-note_member-requires
union_member_known t c =
    let L = c.args.layout.now in
    let code = c.in-Member-default.field-0-0 in
    let m = c.in-Member-default.member in
    let fits = rw (c.in-Member-default.is-0, view-Member code m) at c.requires.fits in
    let whole = rw (c.in-Member-default.is-0, view-Member code m) at c.requires.known in
    let is = c.deref-in-Member-default.ensures in (
      search (rules, the_lemmas),
      (
        c.requires.layout,
        (
          c.requires.whole,
          (rw is (member_table L (shape_seen L c.args.shape) code (view m.value) fits), rw is whole),
        ),
      ),
    )

pub items_fit : goal.note_part-note_items-requires
items_fit t c =
    let items = c.in-Items-Many.items in
    let fits = rw (c.in-Items-Many.is-0, view-Items items, c.in-Items-Many.is-1) at c.requires.fits in
    let whole = rw (c.in-Items-Many.is-0, view-Items items) at c.requires.known in
    let is = c.deref-in-Items-Many.ensures.value in (
      search (rules, the_lemmas),
      (
        c.requires.layout,
        (
          c.requires.whole,
          (
            rw c.in-Items-Many.is-1 at c.requires.simple,
            (rw c.in-Items-Many.is-1 at c.requires.low, (rw is fits, rw is whole)),
          ),
        ),
      ),
    )
