use Rattle.std.proofs.Common.{rules, length, ◌≡◌, ◌+◌, ◌∷◌, drop, ap, sym, subst, ◌∙◌, arith}
use Rattle.std.proofs.lemmas.Grind.{common_steps}
use Rattle.std.proofs.lemmas.List.{drop_more, length-map}
use Rattle.fb_resolve.specs.EnumValues.{enum_values_of}
use Rattle.std.proofs.lemmas.Slice.Zip.{AllZip-long}
use Rattle.fb_resolve.specs.Scopes.{tree_of, names_of}
use Rattle.fb_resolve.specs.Paths.{AreNotesOf}
use Rattle.fb_resolve.proofs.PathsKept.{zip_at}
use Rattle.fb_resolve.proofs.ValuesOfTypes.{values_at}
use Rattle.fb_resolve.proofs.resolve.resolved_types.Goals as goal

pub index-notes-requires : goal.index-notes-requires
index-notes-requires c = let names = c.args.names.now in
    omega (
      arith,
      AllZip-long (AreNotesOf (tree_of names.scopes) (names_of names.scopes)) names.notes.items
          c.args.types.now c.requires.notes,
      c.loop-number-test.true,
    )

pub index-values-requires : goal.index-values-requires
index-values-requires c = let types = c.args.types.now in
    omega (arith, ap length c.requires.values, length-map types (enum_values_of types), c.loop-number-test.true)

pub invariant_of-scope : goal.invariant_of-scope
invariant_of-scope c = let names = c.args.names.now in
    let noted = zip_at (AreNotesOf (tree_of names.scopes) (names_of names.scopes)) names.notes.items c.args.types.now
    c.loop-number.number c.index-notes.result.now c.index-types-number.result c.requires.notes
    c.loop-number-test.true in
    record { valued = c.requires.values; here = grind (rules, noted.namespace) }

pub resolved_declaration-requires-clause-used : goal.resolved_declaration-requires-clause-used
resolved_declaration-requires-clause-used c = let names = c.args.names.now in
    let noted = zip_at (AreNotesOf (tree_of names.scopes) (names_of names.scopes)) names.notes.items c.args.types.now
    c.loop-number.number c.index-notes.result.now c.index-types-number.result c.requires.notes
    c.loop-number-test.true in
    grind (rules, noted.uses)

pub loop-number-preserved : goal.loop-number-preserved
loop-number-preserved c =
    let i = c.loop-number.number in
    let types = c.args.types.now in
    let item = c.index-types-number.result in
    let next : drop i types ≡ item ∷ drop (i + 1) types =
    drop_more types i item c.loop-number-test.true ∙ ap (λ r. r ∷ drop (i + 1) types) (sym c.index-types-number.is) in
    record { room = omega arith; so_far = grind (arith, common_steps, next, c.loop-number.invariant.so_far) }

pub returns : goal.returns
returns c = grind (arith, common_steps, c.loop-number.invariant.so_far)

pub resolved_declaration-requires-clause-values : goal.resolved_declaration-requires-clause-values
resolved_declaration-requires-clause-values c =
    let types = c.args.types.now in
    let values = c.index-values.result.now in
    subst (λ r. values ≡ enum_values_of types r) (sym c.read.view_is)
    (values_at types c.args.names.now.values.items c.loop-number.number c.index-types-number.result values
    c.requires.values c.loop-number-test.true c.index-types-number.is c.index-values.ensures)
