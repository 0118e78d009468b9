use Rattle.std.proofs.Common.{rules, ap, sym, ◌∙◌}
use Rattle.fb_resolve.specs.Scopes.{names_of}
use Rattle.fb_resolve.specs.EnumValues.{integer_type}
use Rattle.fb_resolve.proofs.PathsKept.{first_use}
use Rattle.fb_resolve.proofs.type_uses.Scope.resolved_enum.Goals as goal

pub meaning-requires-clause-noted : goal.meaning-requires-clause-noted
meaning-requires-clause-noted c = (
  c.args.declared.now.underlying.bytes,
  rw c.index.ensures (first_use (names_of c.args.self.names.now.scopes) c.args.notes.now.uses.items
      c.args.declared.now.underlying.bytes _ c.requires.used),
)

pub invariant_of-result : goal.invariant_of-result
invariant_of-result c =
    let meant = c.meaning.ensures c.args.declared.now.underlying.bytes
    (rw c.index.ensures (first_use (names_of c.args.self.names.now.scopes) c.args.notes.now.uses.items
    c.args.declared.now.underlying.bytes _ c.requires.used)) in
    ap (λ v. v.base) c.requires.values ∙ ap integer_type (sym meant)

pub returns : goal.returns
returns c =
    let meant = c.meaning.ensures c.args.declared.now.underlying.bytes
    (rw c.index.ensures (first_use (names_of c.args.self.names.now.scopes) c.args.notes.now.uses.items
    c.args.declared.now.underlying.bytes _ c.requires.used)) in
    grind (rules, meant)
