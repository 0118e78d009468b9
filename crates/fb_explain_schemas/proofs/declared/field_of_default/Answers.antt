use Rattle.std.proofs.Common.{◌+◌, drop, ap, sym, ◌∙◌}
use Rattle.std.specs.Option.{option_copied, option_or}
use Rattle.std.specs.List.{find, flat_map}
use Rattle.fb_explain_schemas.specs.FoundInText.{types_of, fields_of, has_default_at}
use Rattle.fb_explain_schemas.proofs.declared.TypesInOrder.{type_here, no_type_here}
use Rattle.fb_explain_schemas.proofs.declared.FieldsInOrder.{field_here}
use Rattle.fb_explain_schemas.proofs.declared.field_of_default.Goals as goal
use Rattle.fb_explain_schemas.proofs.declared.field_of_default.Goals.{in-Some+in_default-field_with_default, in_default}

pub returns-in-Some-field_with_default : goal.returns-in-Some-field_with_default
returns-in-Some-field_with_default c =
    let ds = c.declarations-declaration-items.result.now in
    let i = c.loop-declaration.declaration-index in
    let test = has_default_at c.args.offset in
    let rest = types_of (drop (i + 1) ds) in
    let here = type_here ds i c.declaration-item.result c.in-Some.declared.now c.loop-declaration-test.true
    c.declaration-item.is
    (ap option_copied (sym c.in-Some.is) ∙ c.type_in.ensures) in
    sym (field_here test (types_of (drop i ds)) rest c.in-Some.declared.now
    (option_copied c.field_with_default.result) here c.field_with_default.ensures
    ∙ ap (λ found. option_or (option_copied found) (find test (flat_map fields_of rest)))
    c.in-Some-field_with_default.is)
    ∙ c.loop-declaration.invariant

pub loop-declaration-preserved : goal.loop-declaration-preserved
loop-declaration-preserved c =
    let ds = c.declarations-declaration-items.result.now in
    let i = c.loop-declaration.declaration-index in
    let test = has_default_at c.args.offset in
    let rest = types_of (drop (i + 1) ds) in
    elim c.match-type_in.branch [
      | in-Some+in_default-field_with_default w ↦
          let here = type_here ds i c.declaration-item.result w.in-Some.declared.now c.loop-declaration-test.true
          c.declaration-item.is
          (ap option_copied (sym w.in-Some.is) ∙ c.type_in.ensures) in
          sym (field_here test (types_of (drop i ds)) rest w.in-Some.declared.now
          (option_copied w.field_with_default.result) here w.field_with_default.ensures
          ∙ ap (λ found. option_or (option_copied found) (find test (flat_map fields_of rest)))
          w.in_default-field_with_default.is)
          ∙ c.loop-declaration.invariant
      | in_default w ↦
          let here = no_type_here ds i c.declaration-item.result c.loop-declaration-test.true c.declaration-item.is
          (ap option_copied (sym w.in_default.is) ∙ c.type_in.ensures) in
          ap (λ types. find test (flat_map fields_of types)) (sym here) ∙ c.loop-declaration.invariant
    ]
