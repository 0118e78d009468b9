use Rattle.std.proofs.Common.{◌≡◌, Option, None, Some}
use Rattle.std.specs.Prelude.{IfSome}
use Rattle.fb_value.specs.Datum.{Parts}
use Rattle.fb_read.specs.TypedItems.{AreTexts, ShowsTexts}
use Rattle.fb_read.specs.declared.typed_items.TextItems.{TextItems}
use Rattle.fb_text.proofs.stored.EntryShown.texts.Goals as goal

-- what is there are the texts
texts_there : (o : Option TextItems) (ds : Parts) → ShowsTexts o ds → IfSome o (λ items. AreTexts items ds)
texts_there None ds shows = tt
texts_there (Some items) ds shows = shows

pub returns-in-Vector : goal.returns-in-Vector
returns-in-Vector c L ds shown =
    let shows = rw c.in-Vector.is at shown in
    let same : shows.1 ≡ ds = cc in
    texts_there c.texts.result ds (rw same at (c.texts.ensures shows.1 shows.3))
