-- The first field of several types that passes a test, type by type.
use Rattle.std.proofs.Common.{◌≡◌, Bool, List, ◌∷◌, Option, ap, sym, ◌∙◌}
use Rattle.std.specs.Option.{option_or}
use Rattle.std.specs.List.{find, flat_map}
use Rattle.std.proofs.lemmas.List.Folds.{find-append}
use Rattle.fb_syntax.specs.FieldRead.{FieldRead}
use Rattle.fb_syntax.specs.declared.declarations.TypeDecl.{TypeDecl}
use Rattle.fb_explain_schemas.specs.FoundInText.{fields_of}

pub field_here : (test : FieldRead → Bool) (types rest : List TypeDecl) (t : TypeDecl) (found : Option FieldRead)
    → types ≡ t ∷ rest
    → found ≡ find test (fields_of t) → find test (flat_map fields_of types) ≡ option_or found
    (find test (flat_map fields_of rest))
field_here test types rest t found is first =
    ap (λ ts. find test (flat_map fields_of ts)) is ∙ find-append test (fields_of t) (flat_map fields_of rest)
    ∙ ap (λ f. option_or f (find test (flat_map fields_of rest))) (sym first)
