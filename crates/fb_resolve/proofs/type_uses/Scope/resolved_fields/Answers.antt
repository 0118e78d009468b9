use Rattle.std.proofs.Common.{arith}
use Rattle.std.proofs.lemmas.Grind.{common_steps}
use Rattle.fb_resolve.specs.Scopes.{names_of}
use Rattle.fb_resolve.specs.Meaning.{type_name}
use Rattle.fb_resolve.proofs.PathsKept.{use_at, uses_counted}
use Rattle.fb_resolve.proofs.type_uses.Scope.resolved_fields.Goals as goal

pub bounds-uses-number : goal.bounds-uses-number
bounds-uses-number c = uses_counted (λ f. (type_name f.kind).bytes)
    (names_of c.args.self.names.now.scopes) c.args.uses.now c.args.fields.now c.loop-number.number c.requires.used
    c.loop-number-test.true

pub meaning-meaning-requires-clause-noted : goal.meaning-meaning-requires-clause-noted
meaning-meaning-requires-clause-noted c = let item = c.index-fields-number in (
  _,
  use_at (λ f. (type_name f.kind).bytes) (names_of c.args.self.names.now.scopes) c.args.uses.now c.args.fields.now
      c.loop-number.number _ item.result c.requires.used c.loop-number-test.true item.is,
)

pub loop-number-preserved : goal.loop-number-preserved
loop-number-preserved c =
    let item = c.index-fields-number in
    let meant = c.meaning-meaning.ensures _ (use_at (λ f. (type_name f.kind).bytes)
    (names_of c.args.self.names.now.scopes) c.args.uses.now c.args.fields.now c.loop-number.number _ item.result
    c.requires.used c.loop-number-test.true item.is) in
    record { room = omega arith; so_far = grind (arith, common_steps, meant, c.loop-number.invariant.so_far) }
