use Rattle.std.proofs.Common.{◌≡◌, ◌<◌, All, refl, arith}
use Rattle.std.proofs.lemmas.List.Elements.{All-from_get_or}
use Rattle.std.proofs.lemmas.Result.{err_from_is_err_and}
use Rattle.fb_value.specs.declared.faults.ReadFault.TheVariants.{Memory}
use Rattle.fb_value.specs.Holds.{front_of, front_fault, checked_identifier}
use Rattle.fb_value.proofs.held.HeldValueFitsTheRoot.{fits_where_held_shown}
use Rattle.fb_value.proofs.types.NestingIsBoundedByDepth.{nesting_of_depth_shown}
use Rattle.fb_owned.proofs.reader.FaultsAreNoMemory.{refusal_no_memory}
use Rattle.fb_owned.proofs.reader.RootValueIsHeld.{root_kept, root_reached}
use Rattle.fb_owned.proofs.reader.read_framed.Goals as goal

pub returns-in_err-root : goal.returns-in_err-root
returns-in_err-root c =
    let p = err_from_is_err_and c.from_residual.result c.from_residual.ensures.1 in
    let refuses = c.in_err-root.ensures.fault in
    let rule : c.in_err-root.field-0.0 ≡ Memory → ⊥ = refusal_no_memory (front_of c.args.framing.prefixed)
    c.args.framing.prefixed (checked_identifier c.args.layout.now c.args.framing.raw) c.args.layout.now c.args.limits
    c.args.bytes.now _ refuses in
    rw (p.1, p.2) (record {
      value = tt;
      fits = tt;
      deep = tt;
      nests = tt;
      fault = λ other. refuses;
      memory = λ memory. absurd (rule cc);
      reached = λ memory. absurd (rule cc);
      rises = c.in_err-root.ensures.rises;
      counted = c.in_err-root.ensures.counted;
      each = tt;
      refused = λ other. c.in_err-root.ensures.refused;
    })

pub returns-in_err-value_of_view : goal.returns-in_err-value_of_view
returns-in_err-value_of_view c =
    let p = err_from_is_err_and c.from_residual-in_err-value_of_view.result
    c.from_residual-in_err-value_of_view.ensures.1 in
    let held = c.in_ok-root.ensures.held in
    let kept = root_kept (front_of c.args.framing.prefixed)
    (front_fault c.args.framing.prefixed c.args.bytes.now (checked_identifier c.args.layout.now c.args.framing.raw))
    c.args.layout.now c.args.limits c.args.bytes.now held.0 held.1 in
    rw (p.1, p.2) (record {
      value = tt;
      fits = tt;
      deep = tt;
      nests = tt;
      fault = λ other. absurd (other refl);
      memory = λ memory. kept;
      reached = λ memory. root_reached (front_of c.args.framing.prefixed) _ c.args.layout.now c.args.limits
          c.args.bytes.now kept;
      rises = c.in_ok-root.ensures.rises;
      counted = c.in_ok-root.ensures.counted;
      each = tt;
      refused = λ other. absurd (other refl);
    })

pub returns-clause-value : goal.returns-clause-value
returns-clause-value c =
    let held = c.in_ok-root.ensures.held in
    rw (c.in_ok-value_of_view.ensures held.0 (c.in_ok-root.ensures.stands held.0 held.1)) held.1

pub returns-clause-fits : goal.returns-clause-fits
returns-clause-fits c =
    let small : All (λ x. x < 256) c.args.bytes.now = All-from_get_or (λ x. x < 256) c.args.bytes.now 0
    (λ i less. (let fits = c.type_inv.bytes i in omega arith)) in
    fits_where_held_shown (front_of c.args.framing.prefixed) _ c.args.layout.now c.args.limits c.args.bytes.now _
    c.layout_is_well_made.ensures small (returns-clause-value c)

pub returns-clause-deep : goal.returns-clause-deep
returns-clause-deep c =
    let held = returns-clause-value c in
    let deep = held.deep in
    omega (arith, deep, c.most_depth.ensures.exact, c.most_depth.ensures.few)

pub returns-clause-nests : goal.returns-clause-nests
returns-clause-nests c =
    nesting_of_depth_shown c.args.layout.now _ c.layout_is_well_made.ensures (returns-clause-fits c)
    (returns-clause-deep c)

pub returns-clause-each : goal.returns-clause-each
returns-clause-each c = c.in_ok-root.ensures.each _ (returns-clause-value c)
