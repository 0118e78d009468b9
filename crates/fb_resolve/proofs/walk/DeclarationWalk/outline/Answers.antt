use Rattle.fb_resolve.proofs.PathsKept.{names_numbered}
use Rattle.fb_resolve.proofs.walk.DeclarationWalk.outline.Goals as goal

pub of-requires-clause-full_names : goal.of-requires-clause-full_names
of-requires-clause-full_names c = let w = c.args.self in
    rw c.as_slice.ensures.value (names_numbered w.tree w.full_names.items w.types.items c.requires.placed.full_names).0

pub invariant_of-result : goal.invariant_of-result
invariant_of-result c =
    let w = c.args.self in
    let placed = c.requires.placed in
    let made = c.in_ok-of.ensures in
    let full_names = c.as_slice.ensures.value in (
      record {
        scopes = rw (← (names_numbered w.tree w.full_names.items w.types.items placed.full_names).1, ← full_names)
            made.scopes;
        notes = rw (made.tree, made.names) placed.notes;
        values = placed.values w.types.items;
        repeats = c.requires.repeats;
      },
      rw (made.tree, made.names) placed.root,
    )
