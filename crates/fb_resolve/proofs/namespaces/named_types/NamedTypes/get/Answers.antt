use Rattle.std.proofs.Common.{◌∙◌, ap}
use Rattle.fb_resolve.specs.Maps.{value_in}
use Rattle.fb_resolve.specs.NamedTypes.{type_at}
use Rattle.fb_resolve.proofs.namespaces.NamedTypesKept.{top-read}
use Rattle.fb_resolve.proofs.namespaces.named_types.NamedTypes.get.Goals as goal

pub returns : goal.returns
unfolding type_at
returns c =
    let t = c.args.self.now in
    let top = top-read t.tops.items c.args.path c.index.result.now c.requires.path c.index.ensures in
    c.get.ensures ∙ ap (λ m. value_in t.maps m c.args.name) top
