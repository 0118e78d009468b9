use Rattle.std.proofs.Common.{ℕ, ◌≡◌, ◌<◌, ◌∙◌, List, Option, Some, ℤ, length, slice_get, get_or}
use Rattle.std.proofs.Common.{ap, arith, refl, rules, subst, sym}
use Rattle.std.proofs.lemmas.Bool.{ltb-true}
use Rattle.std.proofs.lemmas.List.{length-map}
use Rattle.std.proofs.lemmas.Option.{slice_get_read}
use Rattle.std.specs.Option.{option_and_then, option_copied, option_or}
use Rattle.fb_syntax.specs.TypesRead.{EnumRead}
use Rattle.fb_syntax.specs.declared.declarations.TypeDecl.TheVariants.{Enum}
use Rattle.fb_schema.specs.Schema.{Name}
use Rattle.fb_resolve.specs.Outline.{TypeRead, full_name}
use Rattle.fb_resolve.specs.ResolvedFields.{EnumValues}
use Rattle.fb_resolve.specs.EnumValues.{behind, value_at, number_named, values_over, enum_values_of}
use Rattle.fb_resolve.proofs.ValuesOfTypes.{values_at}
use Rattle.fb_resolve.proofs.value_names.value_at.Goals as goal

abbrev number_in : EnumValues → Option Name → Option ℤ
number_in values name = option_and_then (number_named (values_over values.base values.bit_flags values.values)) name

-- what the name of a value means in a type that is an enum
value_read : (types : List TypeRead) (t : ℕ) (name : Name) (r : TypeRead) (e : EnumRead)
    → slice_get types t ≡ Some r → r.declaration ≡ Enum e
    → option_or (number_in (enum_values_of types r) (Some name))
    (option_or (number_in (enum_values_of types r) (behind e.name.bytes name))
    (number_in (enum_values_of types r) (behind (full_name r.scope e.name.bytes) name)))
    ≡ value_at types t name
unfolding value_at
value_read types t name r e at is = rw (at, is) refl

pub index-values-requires : goal.index-values-requires
index-values-requires c =
    let types = c.args.scope.types.now in
    let within : c.args.number < length types = ltb-true _ _ (sym c.in_ok-read.ensures.lookup.0) in
    omega (arith, ap length c.args.scope.valued, length-map types (enum_values_of types))

pub returns : goal.returns
returns c =
    let types = c.args.scope.types.now in
    let i = c.args.number in
    let name = c.args.name.now in
    let read = c.read.inside in
    let r : TypeRead = record { scope = option_copied read.scope; declaration = read.declaration.now } in
    let e = c.in-Enum.declaration in
    let values = c.index-values.result.now in
    let found = c.in_ok-read.ensures.lookup in
    let within : i < length types = ltb-true _ _ (sym found.0) in
    let at : r ≡ get_or types i r = subst (λ x. x ≡ get_or types i x) (sym c.read.view_is) found.1 in
    let is : values ≡ enum_values_of types r =
    values_at types c.args.scope.names.now.values.items i r values c.args.scope.valued within at
    c.index-values.ensures in
    let one : c.number-number.result ≡ number_in values (Some name) = c.number-number.ensures in
    let short : c.number-behind_name.result ≡ number_in values (behind e.name.bytes name) = grind rules in
    let full : c.number.result ≡ number_in values (behind (full_name r.scope e.name.bytes) name) = grind rules in
    c.or-2.ensures ∙ (rw (one, c.or.ensures, short, full, is) (value_read types i name r e
    (slice_get_read types (length types) i r refl within at) c.in-Enum.is))
