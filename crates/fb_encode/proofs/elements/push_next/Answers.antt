use mir.Facts.{to_z-of_z}
use Rattle.std.proofs.Common.{◌∙◌, ap, refl, rules, subst, sym}
use Rattle.std.proofs.lemmas.Result.{err_from_is_err_and}
use Rattle.std.specs.Int.{w128}
use Rattle.std.specs.Prelude.{FitsSigned}
use Rattle.fb_layout.specs.Laid.{LaidSchema, one_of}
use Rattle.fb_value.specs.Datum.{Datum, a_number, a_struct}
use Rattle.fb_value.specs.Fits.{Fits}
use Rattle.fb_value.specs.View.{parts_view}
use Rattle.fb_value.proofs.types.EachVariantHasItsView.{view-Number}
use Rattle.fb_build.specs.Fields.{kind_seen}
use Rattle.fb_encode.proofs.elements.push_next.Goals as goal

pub returns-in_err-number-clause-refused : goal.returns-in_err-number-clause-refused
returns-in_err-number-clause-refused c =
    let p = err_from_is_err_and c.from_residual.result c.from_residual.ensures.1 in
    let fails = rw c.in_err-number.was at c.in-Some.ensures.gives c.args.vector.levels c.args.left in
    rw (p.1, p.2) fails

pub push_element-pushed-requires-clause-fits : goal.push_element-pushed-requires-clause-fits
push_element-pushed-requires-clause-fits c =
    let number = c.in_ok-number.field-0 in
    let wide : FitsSigned w128 number = search (rules, c.number_of.type_inv, c.in-Some.is, c.in_ok-number.was) in
    let seen = view-Number _ ∙ ap a_number (to_z-of_z {w = w128} {z = number} wide) in
    let fits = rw c.in_ok-number.was at c.in-Some.ensures.fits in
    let L = c.args.tape.now.layout in
    subst (λ (d : Datum). Fits L (one_of (kind_seen L c.args.vector.kind)) d) (sym seen)
    (subst (λ (M : LaidSchema). Fits M (one_of (kind_seen M c.args.vector.kind)) (a_number number))
    (sym c.requires.layout) fits)

pub returns-in-Some-clause-added : goal.returns-in-Some-clause-added
returns-in-Some-clause-added c =
    let number = c.in_ok-number.field-0 in
    let wide : FitsSigned w128 number = search (rules, c.number_of.type_inv, c.in-Some.is, c.in_ok-number.was) in
    let seen = view-Number _ ∙ ap a_number (to_z-of_z {w = w128} {z = number} wide) in
    let pushed = c.in_ok-pushed.ensures in
    record {
      value = a_number number;
      given_is = rw c.in_ok-number.was at c.in-Some.ensures.gives c.args.vector.levels c.args.left;
      fits = rw c.in_ok-number.was at c.in-Some.ensures.fits;
      whole = refl;
      adds = record {
        unfinished = rw (c.requires.layout, seen) at pushed.adds;
        waits = pushed.waits;
        room = pushed.room;
        layout = pushed.layout;
      };
    }

pub returns-clause-added : goal.returns-clause-added
returns-clause-added c =
    let parts = c.in_ok-left.ensures in
    let pushed = c.in_ok-push_struct.ensures in
    rw c.in-Struct.is (record {
      value = a_struct (parts_view c.struct_parts.new.parts.items);
      given_is = parts.gives;
      fits = parts.fits;
      whole = parts.whole;
      adds = record {
        unfinished = rw (c.requires.layout, c.as_slice.ensures.value) at pushed.adds;
        waits = pushed.waits;
        room = pushed.room;
        layout = pushed.layout;
      };
    })
