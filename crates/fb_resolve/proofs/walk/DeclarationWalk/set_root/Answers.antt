use Rattle.std.proofs.Common.{rules, ◌≡◌}
use Rattle.std.proofs.lemmas.Option.{same_Some}
use Rattle.fb_resolve.specs.Paths.{IsNoted}
use Rattle.fb_resolve.proofs.PathsKept.{placed_grown}
use Rattle.fb_resolve.proofs.walk.DeclarationWalk.set_root.Goals as goal

pub returns-clause-placed : goal.returns-clause-placed
returns-clause-placed c =
    let w = c.args.self.now in
    let used = c.type_use.new.used in
    let noted = c.in_ok-self.ensures in
    let placed = c.requires.placed in
    let grown = placed_grown w w.tree used w.scope w.path placed.tree
    (λ n p h. h) noted.tree noted.kept placed.scope placed in
    let number = c.in_ok-self.field-0 in
    let name : c.as_str.result.now ≡ c.args.name.now.bytes = grind rules in
    let named : IsNoted used number c.args.name.now.bytes = rw name at noted.noted in record {
      tree = grown.tree;
      used = grown.used;
      scope = grown.scope;
      notes = grown.notes;
      values = grown.values;
      full_names = grown.full_names;
      root = λ r e. rw (← (same_Some _ r e)) (grown.scope, named);
    }
