use Rattle.std.proofs.Common.{◌∙◌, map, ap, sym, subst, arith}
use Rattle.std.proofs.lemmas.List.{length-map}
use Rattle.fb_layout.specs.Laid.{LaidSchema, one_of}
use Rattle.fb_value.specs.Fits.{Fits}
use Rattle.fb_value.specs.Room.{vector_room}
use Rattle.fb_value.proofs.types.EachVariantHasItsView.{count-parts_view}
use Rattle.fb_owned.proofs.noting.PartsFitTheirSlots.{items_known}
use Rattle.fb_value.specs.View.{view}
use Rattle.fb_build.specs.Fields.{kind_seen}
use Rattle.fb_owned.proofs.noting.ElementsAreNoted.{element_inline, each_fits, seen_more, all_seen}
use Rattle.fb_owned.proofs.noting.note_elements.Goals as goal

pub loop-item-init : goal.loop-item-init
loop-item-init c = record {
  waits = c.in_ok-open_vector.ensures.waits;
  elements = c.in_ok-open_vector.ensures.begun;
  room = c.in_ok-open_vector.ensures.room;
  layout = c.open_vector.ensures.layout;
}

pub push_element-requires-clause-inline : goal.push_element-requires-clause-inline
push_element-requires-clause-inline c =
    rw c.loop-item.invariant.layout (element_inline _ _ c.requires.element c.requires.inline)

pub push_element-requires-clause-fits : goal.push_element-requires-clause-fits
push_element-requires-clause-fits c =
    subst (λ (L : LaidSchema). Fits L (one_of (kind_seen L c.args.kind)) (view c.item-item.result))
    (sym c.loop-item.invariant.layout) (each_fits _ _ c.args.items.now c.requires.fits c.loop-item.item-index
    c.loop-item-test.true c.item-item.result c.item-item.is)

pub loop-item-preserved : goal.loop-item-preserved
loop-item-preserved c =
    let inv = c.loop-item.invariant in
    let more = seen_more c.args.items.now c.loop-item.item-index c.item-item.result c.loop-item-test.true
    c.item-item.is in
    record {
      waits = λ others w. c.in_ok-push_element.ensures.waits others (inv.waits others w);
      elements = λ small. rw more ((rw inv.layout at c.in_ok-push_element.ensures.adds) _ _ (inv.elements small));
      room = c.in_ok-push_element.ensures.room ∙ inv.room;
      layout = c.push_element.ensures.layout ∙ inv.layout;
    }

pub close_vector-requires-clause-low : goal.close_vector-requires-clause-low
close_vector-requires-clause-low c = rw c.loop-item.invariant.layout c.requires.low

pub returns : goal.returns
returns c =
    let tape = c.args.tape.now in
    let L = tape.layout in
    let kind = kind_seen L c.args.kind in
    let items = c.args.items.now in
    let inv = c.loop-item.invariant in
    let many = count-parts_view items in
    let all = all_seen items c.loop-item.item-index c.loop-item-test.false in
    let closed = rw inv.layout at c.in_ok-close_vector.ensures.waits in
    let sum = rw inv.layout at c.in_ok-close_vector.ensures.room in
    record {
      adds = record {
        waits = λ others w. closed others (map view items) (sym (length-map items view))
            (items_known L kind items c.requires.element c.requires.fits)
            (λ small. rw all at (inv.elements (rw inv.room at small))) (rw inv.layout at (inv.waits others w));
        sum = omega (arith, sum, inv.room, ap (vector_room L kind) many);
        layout = c.close_vector.ensures.layout ∙ inv.layout;
        whole = c.in_ok-close_vector.ensures.whole;
      };
    }
