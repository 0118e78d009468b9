use Rattle.std.proofs.Common.{◌≡◌, ℕ, List, Option, sym, ap, ◌∙◌}
use Rattle.std.specs.Option.{option_map_or}
use Rattle.fb_schema.specs.declared.kinds.Kind.{Kind}
use Rattle.fb_layout.specs.declared.extents.Extent.{Extent}
use Rattle.fb_layout.specs.declared.extents.StructSizes.{StructSizes}
use Rattle.fb_layout.specs.declared.layouts.Layout.TheInside.{Inside}
use Rattle.fb_layout.specs.Laid.{LaidSchema, stored_kind, size_of}
use Rattle.fb_layout.specs.Known.{structs_seen, extent_of}
use Rattle.fb_layout.specs.Held.{layout_seen}
use Rattle.fb_layout.proofs.extents.UnknownStructTakesNothing.{size_known}
use Rattle.fb_layout.proofs.layouts.Layout.size_of.Goals as goal

abbrev size_in : Option Extent → ℕ
size_in found = option_map_or (λ (e : Extent). e.size) found 0

size_held : (held : Inside) (L : LaidSchema) (structs : List (Option StructSizes)) (kind : Kind)
    (found : Option Extent) → found ≡ extent_of (structs_seen structs) (stored_kind held.schema kind)
    → structs ≡ held.structs.items → layout_seen held ≡ L → size_in found ≡ size_of L (stored_kind L.schema kind)
size_held held L structs kind found is all seen =
    ap size_in is
    ∙ ap (λ known. size_in (extent_of (structs_seen known) (stored_kind held.schema kind))) all
    ∙ size_known held.schema (structs_seen held.structs.items) (stored_kind held.schema kind)
    ∙ ap (λ M. size_of M (stored_kind M.schema kind)) seen

pub returns-in-Some : goal.returns-in-Some
returns-in-Some c = c.from.ensures ∙ ap size_in (sym c.in-Some.is)
    ∙ size_held c.self.inside c.args.self.now c.as_slice.result.now c.args.kind c.extent_of.result c.extent_of.ensures
    c.as_slice.ensures.value c.self.view_is

pub returns-in-None : goal.returns-in-None
returns-in-None c = ap size_in (sym c.in-None.is)
    ∙ size_held c.self.inside c.args.self.now c.as_slice.result.now c.args.kind c.extent_of.result c.extent_of.ensures
    c.as_slice.ensures.value c.self.view_is
