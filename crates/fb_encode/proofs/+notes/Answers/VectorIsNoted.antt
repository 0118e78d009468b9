-- An array is noted as a vector, and what its elements name.
use Rattle.std.proofs.Common.{◌≡◌, ◌∙◌, ◌++◌, ◌∷◌, [], refl, sym, ap, length, arith}
use Rattle.std.proofs.lemmas.Result.{err_from_is_err_and}
use Rattle.serde_json.specs.View.{view as tree_view}
use Rattle.fb_layout.specs.Laid.{stored_kind}
use Rattle.fb_value.specs.Datum.{a_vector}
use Rattle.fb_value.specs.Room.{vector_room}
use Rattle.fb_value.specs.View.{parts_in}
use Rattle.fb_value.proofs.types.PartsByTheirIndex.{count_parts}
use Rattle.fb_build.proofs.noted.OneMoreFits.{elements_fit, long_more, parts_room_more}
use Rattle.fb_build.proofs.noted.PartsAreAdded.{adds_same, adds_then}
use Rattle.fb_build.proofs.noted.PartsFollow.{elements_known, named_more}
use Rattle.fb_encode.proofs.elements.ElementsAreNoted.{one_more_fits, one_more_given}
use Rattle.fb_encode.proofs.parts.ArrayIsNoted.{array_given, array_refused, if_err_then, vector_refused}
use Rattle.fb_encode.proofs.parts.TreesByTheirKind.{no_vector_by}
use Rattle.fb_encode.proofs.+notes.Goals as goal

pub no_array_refused : goal.parts::note_array-returns-in_default-clause-refused
no_array_refused t c =
    no_vector_by c.args.source.layout.now c.args.source.unknown c.args.place c.args.levels c.args.left c.args.kind
    (tree_view c.args.tree.now) c.in_default.ensures

pub long_array_refused : goal.parts::note_array-returns-then-len-left-clause-refused
long_array_refused t c =
    array_refused c.args.source.layout.now c.args.source.unknown c.args.place c.args.levels c.args.left c.args.kind
    (tree_view c.args.tree.now) c.in-Some.elements.now.items c.in-Some.ensures c.len.result
    (omega (arith, c.len.ensures, c.in-Some.elements.now.small)) c.if-len-left.true

pub elements_add : goal.parts::note_array-returns-then-not-is_reference-clause-noted
elements_add t c =
    let given = array_given c.args.source.layout.now c.args.source.unknown c.args.place c.args.levels c.args.left
    c.args.kind (tree_view c.args.tree.now) c.deref.result.now (rw c.deref.ensures.value c.in-Some.ensures)
    c.len-2.result (omega (arith, c.len-2.ensures, c.deref.ensures.len))
    (omega (arith, c.len.ensures, c.len-2.ensures, c.if-len-left.false)) in
    rw given c.note_elements.ensures.noted

pub element_fault_refused : goal.parts::note_array-returns-then-not-is_reference-clause-refused
element_fault_refused t c =
    let given = array_given c.args.source.layout.now c.args.source.unknown c.args.place c.args.levels c.args.left
    c.args.kind (tree_view c.args.tree.now) c.deref.result.now (rw c.deref.ensures.value c.in-Some.ensures)
    c.len-2.result (omega (arith, c.len-2.ensures, c.deref.ensures.len))
    (omega (arith, c.len.ensures, c.len-2.ensures, c.if-len-left.false)) in
    if_err_then c.note_elements.result _ _ (λ f h. rw given (vector_refused _ f h)) c.note_elements.ensures.refused

pub target_fault_refused : goal.parts::note_array-returns-in_err-rest-clause-refused
target_fault_refused t c =
    let given = array_given c.args.source.layout.now c.args.source.unknown c.args.place c.args.levels c.args.left
    c.args.kind (tree_view c.args.tree.now) c.deref-2.result.now (rw c.deref-2.ensures.value c.in-Some.ensures)
    c.len-2.result (omega (arith, c.len-2.ensures, c.deref-2.ensures.len))
    (omega (arith, c.len.ensures, c.len-2.ensures, c.if-len-left.false)) in
    let p = err_from_is_err_and c.from_residual.result c.from_residual.ensures.1 in
    rw (p.1, p.2) (rw given (vector_refused _ c.in_err-rest.field-0.0 c.in_err-rest.ensures.refused))

pub references_add : goal.parts::note_array-returns-clause-noted
references_add t c =
    let L = c.args.source.layout.now in
    let kind = stored_kind L.schema c.args.kind in
    let given = array_given L c.args.source.unknown c.args.place c.args.levels c.args.left
    c.args.kind (tree_view c.args.tree.now) c.deref-2.result.now (rw c.deref-2.ensures.value c.in-Some.ensures)
    c.len-2.result (omega (arith, c.len-2.ensures, c.deref-2.ensures.len))
    (omega (arith, c.len.ensures, c.len-2.ensures, c.if-len-left.false)) in
    let h = c.in_ok-rest.ensures.noted in
    let fit = elements_fit L kind h.elements h.fits in
    let same = h.adds.layout ∙ c.requires.layout in
    let pushed = rw same at c.in_ok-push_references.ensures.waits in
    let sum = rw same at c.in_ok-push_references.ensures.room in
    let long : c.len-3.result ≡ length h.elements = omega (arith, c.len-3.ensures, c.deref-2.ensures.len, h.count_is) in
    record {
      value = a_vector (parts_in h.elements);
      given_is = given ∙ rw h.given_is refl;
      fits = fit.0;
      whole = fit.1;
      adds = record {
        waits = λ others w. pushed others h.elements long (elements_known L kind h.elements c.requires.element h.fits)
            (rw same at (h.adds.waits others w));
        sum = omega (arith, h.adds.sum, sum, ap (vector_room L kind) (count_parts h.elements ∙ sym long));
        layout = c.push_references.ensures.layout ∙ h.adds.layout;
        whole = c.in_ok-push_references.ensures.whole;
      };
    }

pub next_target_adds : goal.parts::note_targets-loop-element-preserved
next_target_adds t c =
    let L = c.args.source.layout.now in
    let kind = stored_kind L.schema c.args.kind in
    let inv = c.loop-element.invariant in
    let h = c.in_ok-left.ensures.noted in
    let ds = inv.elements in
    record {
      elements = ds ++ (h.value ∷ []);
      gives = one_more_given L c.args.source.unknown c.args.kind c.args.place c.args.levels c.loop-element.left _ ds
          c.args.elements.now c.loop-element.element-index c.element-item.result c.loop-element-test.true
          c.element-item.is inv.gives h.value c.in_ok-left.left h.given_is;
      count = omega (arith, long_more ds h.value, inv.count);
      fits = one_more_fits L kind ds h.value h.fits h.whole inv.fits;
      adds = adds_same _ _ _ _ _ _ (sym (named_more kind ds h.value)) (sym (parts_room_more L kind ds h.value))
          (adds_then _ _ _ _ _ _ _ inv.adds h.adds);
      opened = c.in_ok-left.ensures.opened ∙ inv.opened;
    }
