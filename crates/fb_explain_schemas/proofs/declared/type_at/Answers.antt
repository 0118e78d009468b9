use Rattle.std.proofs.Common.{◌+◌, drop, slice_get, ap, sym, ◌∙◌}
use Rattle.std.specs.Option.{option_copied}
use Rattle.fb_explain_schemas.specs.FoundInText.{types_of}
use Rattle.fb_explain_schemas.proofs.declared.TypesInOrder.{type_here, no_type_here, later_type}
use Rattle.fb_explain_schemas.proofs.declared.type_at.Goals as goal
use Rattle.fb_explain_schemas.proofs.declared.type_at.Goals.{in-Some+else-left-eq0, in_default}

pub loop-declaration-preserved : goal.loop-declaration-preserved
loop-declaration-preserved c =
    let ds = c.declarations-declaration-items.result.now in
    let i = c.loop-declaration.declaration-index in
    let left = c.loop-declaration.left in
    let rest = types_of (drop (i + 1) ds) in
    elim c.match-type_in.branch [
      | in-Some+else-left-eq0 w ↦
          let here = type_here ds i c.declaration-item.result w.in-Some.declared.now c.loop-declaration-test.true
          c.declaration-item.is
          (ap option_copied (sym w.in-Some.is) ∙ c.type_in.ensures) in
          sym (later_type w.in-Some.declared.now rest left c.match-type_in.left w.if-left-eq0.false w.left-is)
          ∙ ap (λ types. slice_get types left) (sym here) ∙ c.loop-declaration.invariant
      | in_default w ↦
          let here = no_type_here ds i c.declaration-item.result c.loop-declaration-test.true c.declaration-item.is
          (ap option_copied (sym w.in_default.is) ∙ c.type_in.ensures) in
          ap (slice_get rest) w.left-is ∙ ap (λ types. slice_get types left) (sym here) ∙ c.loop-declaration.invariant
    ]
