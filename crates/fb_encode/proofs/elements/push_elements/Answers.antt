use Rattle.std.proofs.Common.{◌++◌, ◌∷◌, [], arith}
use Rattle.std.proofs.lemmas.Result.{err_from_is_err_and}
use Rattle.fb_layout.specs.Laid.{stored_kind}
use Rattle.fb_build.proofs.noted.OneMoreFits.{long_more}
use Rattle.fb_encode.proofs.elements.ElementsAreNoted.{all_given, one_more_fits, one_more_given, one_refused}
use Rattle.fb_encode.proofs.elements.InlineVectorIsNoted.{inline_then}
use Rattle.fb_encode.proofs.elements.push_elements.Goals as goal

pub returns-in_err-left-clause-refused : goal.returns-in_err-left-clause-refused
returns-in_err-left-clause-refused c =
    let inv = c.loop-element.invariant in
    let p = err_from_is_err_and c.from_residual.result c.from_residual.ensures.1 in
    rw (p.1, p.2) (one_refused c.args.source.layout.now c.args.source.unknown c.args.kind c.args.place c.args.levels
    c.loop-element.left _ inv.elements c.args.elements.now c.loop-element.element-index c.element-item.result
    c.loop-element-test.true c.element-item.is inv.gives c.in_err-left.field-0.0 c.in_err-left.ensures.refused)

pub loop-element-preserved : goal.loop-element-preserved
loop-element-preserved c =
    let L = c.args.source.layout.now in
    let inv = c.loop-element.invariant in
    let next = c.in_ok-left.ensures.added in
    let d = next.value in
    record {
      elements = inv.elements ++ (d ∷ []);
      gives = one_more_given L c.args.source.unknown c.args.kind c.args.place c.args.levels c.loop-element.left _
          inv.elements c.args.elements.now c.loop-element.element-index c.element-item.result c.loop-element-test.true
          c.element-item.is inv.gives d c.in_ok-left.left next.given_is;
      count = omega (arith, long_more inv.elements d, inv.count);
      fits = one_more_fits L (stored_kind L.schema c.args.kind) inv.elements d next.fits next.whole inv.fits;
      adds = inline_then L (stored_kind L.schema c.args.kind) c.args.tape.now c.loop-element.tape
          c.push_next.new.tape inv.elements (d ∷ []) inv.adds next.adds;
    }

pub returns-clause-added : goal.returns-clause-added
returns-clause-added c =
    let L = c.args.source.layout.now in
    let inv = c.loop-element.invariant in
    let all = all_given L c.args.source.unknown c.args.kind c.args.place c.args.levels c.loop-element.left _
    inv.elements c.args.elements.now c.loop-element.element-index c.loop-element-test.false inv.gives in
    record {
      elements = inv.elements;
      given_is = all;
      count_is = omega (
        arith,
        inv.count,
        c.loop-element-test.false,
        c.loop-element.auto.element-index-end,
      );
      fits = inv.fits;
      adds = inv.adds;
    }
