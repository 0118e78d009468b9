use Rattle.std.proofs.Common.{◌≡◌, List, length, drop}
use Rattle.serde_json.specs.View.{items_view}
use Rattle.fb_layout.specs.Laid.{stored_kind}
use Rattle.fb_value.specs.Datum.{Datum}
use Rattle.fb_json.specs.Meant.{items_meant}
use Rattle.fb_json.proofs.slots.OneSlotOrFieldMore.{after}
use Rattle.fb_build.specs.OneByOne.{EachElementFits}
use Rattle.fb_encode.specs.TreesNoted.{AddsInline}
use Rattle.fb_encode.proofs.elements.push_elements.Given as goal

abbrev pub invariant-loop-element : goal.invariant-loop-element
invariant-loop-element l = record {
  elements : List Datum;
  gives : items_meant l.source.layout.now l.source.unknown (items_view l.elements) l.kind l.place l.levels l.fn.left
      ≡ after elements
      (items_meant l.source.layout.now l.source.unknown (items_view (drop l.element-index l.elements)) l.kind
      l.place l.levels l.left);
  count : length elements ≡ l.element-index;
  fits : EachElementFits l.source.layout.now (stored_kind l.source.layout.now.schema l.kind) elements;
  adds : AddsInline l.source.layout.now (stored_kind l.source.layout.now.schema l.kind) l.fn.tape l.tape elements;
}
