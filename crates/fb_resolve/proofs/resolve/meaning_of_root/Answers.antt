use Rattle.std.proofs.Common.{rules}
use Rattle.fb_resolve.proofs.resolve.meaning_of_root.Goals as goal

pub invariant_of-scope : goal.invariant_of-scope
invariant_of-scope c = let known = c.requires.root c.in-Some.root.now (grind rules) in
    record { valued = c.requires.names.values; here = grind (rules, known.0) }

pub meaning-requires-clause-noted : goal.meaning-requires-clause-noted
meaning-requires-clause-noted c = let r = c.in-Some.root.now in (r.name.bytes, (c.requires.root r (grind rules)).1)

pub returns : goal.returns
returns c = let r = c.in-Some.root.now in grind
    (rules, c.meaning.ensures r.name.bytes (c.requires.root r (grind rules)).1)
