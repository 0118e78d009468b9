use Rattle.std.proofs.Common.{◌≡◌, drop, slice_get}
use Rattle.fb_explain_schemas.specs.FoundInText.{types_of}
use Rattle.fb_explain_schemas.proofs.declared.type_at.Given as goal

abbrev pub invariant-loop-declaration : goal.invariant-loop-declaration
invariant-loop-declaration l =
    slice_get (types_of (drop l.declaration-index l.declaration-items)) l.left ≡ slice_get
    (types_of l.decls.declarations) l.number
