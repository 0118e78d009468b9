use Rattle.std.proofs.Common.{◌≡◌, drop}
use Rattle.std.specs.List.{find, flat_map}
use Rattle.fb_explain_schemas.specs.FoundInText.{types_of, fields_of, has_default_at}
use Rattle.fb_explain_schemas.proofs.declared.field_of_default.Given as goal

abbrev pub invariant-loop-declaration : goal.invariant-loop-declaration
invariant-loop-declaration l =
    find (has_default_at l.offset) (flat_map fields_of (types_of (drop l.declaration-index l.declaration-items)))
    ≡ find (has_default_at l.offset) (flat_map fields_of (types_of l.decls.declarations))
