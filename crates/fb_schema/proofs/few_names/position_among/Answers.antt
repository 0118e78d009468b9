use Rattle.std.proofs.Common.{◌≡◌, true, false, bytes_eq, get_or, ap, sym, ◌∙◌}
use Rattle.fb_schema.proofs.Positions.{position-map, found_here, found_later, found_nowhere}
use Rattle.fb_schema.proofs.few_names.position_among.Goals as goal

pub returns-then-is_same : goal.returns-then-is_same
returns-then-is_same g c =
    let items = c.args.items.now in
    let name = c.args.name.now in
    let item = c.index-items-place.result in
    let same : bytes_eq name (g.T.Named.name (get_or items c.loop-place.place item)) ≡ true =
    ap (λ x. bytes_eq name (g.T.Named.name x)) (sym c.index-items-place.is)
    ∙ (ap (bytes_eq name) (sym c.name.ensures) ∙ (sym c.is_same.ensures ∙ c.if-is_same.true)) in
    sym (position-map g.T.Named.name (bytes_eq name) items
    ∙ found_here (λ x. bytes_eq name (g.T.Named.name x)) items c.loop-place.place c.loop-place.invariant item
    c.loop-place-test.true same)

pub loop-place-preserved : goal.loop-place-preserved
loop-place-preserved g c =
    let items = c.args.items.now in
    let name = c.args.name.now in
    let item = c.index-items-place.result in
    let other : bytes_eq name (g.T.Named.name (get_or items c.loop-place.place item)) ≡ false =
    ap (λ x. bytes_eq name (g.T.Named.name x)) (sym c.index-items-place.is)
    ∙ (ap (bytes_eq name) (sym c.name.ensures) ∙ (sym c.is_same.ensures ∙ c.if-is_same.false)) in
    found_later (λ x. bytes_eq name (g.T.Named.name x)) items c.loop-place.place c.loop-place.invariant item
    c.loop-place-test.true other

pub returns : goal.returns
returns g c =
    let items = c.args.items.now in
    let name = c.args.name.now in
    sym (position-map g.T.Named.name (bytes_eq name) items
    ∙ found_nowhere (λ x. bytes_eq name (g.T.Named.name x)) items c.loop-place.place c.loop-place.invariant
    c.loop-place-test.false)
