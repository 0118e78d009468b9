use Rattle.std.proofs.Common.{◌≡◌, ℕ, List, Option, sym, ap, ◌∙◌}
use Rattle.std.specs.Option.{option_map_or}
use Rattle.fb_schema.specs.declared.kinds.Kind.{Kind}
use Rattle.fb_layout.specs.declared.extents.Extent.{Extent}
use Rattle.fb_layout.specs.declared.extents.StructSizes.{StructSizes}
use Rattle.fb_layout.specs.declared.layouts.Layout.TheInside.{Inside}
use Rattle.fb_layout.specs.Laid.{LaidSchema, stored_kind, align_of}
use Rattle.fb_layout.specs.Known.{structs_seen, extent_of}
use Rattle.fb_layout.specs.Held.{layout_seen}
use Rattle.fb_layout.proofs.extents.UnknownStructTakesNothing.{align_known}
use Rattle.fb_layout.proofs.layouts.Layout.align_of.Goals as goal

abbrev align_in : Option Extent → ℕ
align_in found = option_map_or (λ (e : Extent). e.align) found 1

align_held : (held : Inside) (L : LaidSchema) (structs : List (Option StructSizes)) (kind : Kind)
    (found : Option Extent) → found ≡ extent_of (structs_seen structs) (stored_kind held.schema kind)
    → structs ≡ held.structs.items → layout_seen held ≡ L → align_in found ≡ align_of L (stored_kind L.schema kind)
align_held held L structs kind found is all seen =
    ap align_in is
    ∙ ap (λ known. align_in (extent_of (structs_seen known) (stored_kind held.schema kind))) all
    ∙ align_known held.schema (structs_seen held.structs.items) (stored_kind held.schema kind)
    ∙ ap (λ M. align_of M (stored_kind M.schema kind)) seen

pub returns-in-Some : goal.returns-in-Some
returns-in-Some c = c.from.ensures ∙ ap align_in (sym c.in-Some.is)
    ∙ align_held c.self.inside c.args.self.now c.as_slice.result.now c.args.kind c.extent_of.result c.extent_of.ensures
    c.as_slice.ensures.value c.self.view_is

pub returns-in-None : goal.returns-in-None
returns-in-None c = ap align_in (sym c.in-None.is)
    ∙ align_held c.self.inside c.args.self.now c.as_slice.result.now c.args.kind c.extent_of.result c.extent_of.ensures
    c.as_slice.ensures.value c.self.view_is
