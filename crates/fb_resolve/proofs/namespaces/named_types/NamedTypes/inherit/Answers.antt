use Rattle.std.specs.Option.{option_or}
use Rattle.fb_resolve.specs.Maps.{value_in}
use Rattle.fb_resolve.specs.NamedTypes.{type_at}
use Rattle.fb_resolve.proofs.namespaces.NamedTypesKept.{top-read, other-top}
use Rattle.fb_resolve.proofs.namespaces.named_types.NamedTypes.inherit.Goals as goal

pub returns-clause-noted : goal.returns-clause-noted
unfolding type_at
returns-clause-noted c = λ p n.
    let t = c.args.self.now in
    let tops = t.tops.items in
    let path = c.args.path in
    let inner = top-read tops path c.index.result.now c.requires.path c.index.ensures in
    let outer = top-read tops c.args.outer c.index-2.result.now c.requires.outer c.index-2.ensures in
    rw (← inner, ← outer)
    (other-top t.maps c.overlay.new.self tops path c.in_ok-self.field-0 c.requires.path c.in_ok-self.ensures.kept
    c.requires.maps.tops
    (λ k. option_or (value_in t.maps c.index.result.now k) (value_in t.maps c.index-2.result.now k))
    c.in_ok-self.ensures.entries p n)
