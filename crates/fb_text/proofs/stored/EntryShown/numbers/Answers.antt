use Rattle.std.proofs.Common.{◌≡◌, Option, None, Some}
use Rattle.std.specs.Prelude.{IfSome}
use Rattle.fb_value.specs.Datum.{Parts}
use Rattle.fb_read.specs.TypedItems.{AreNumbers, ShowsNumbers}
use Rattle.fb_read.specs.declared.typed_items.NumberItems.{NumberItems}
use Rattle.fb_text.proofs.stored.EntryShown.numbers.Goals as goal

-- what is there are the numbers
numbers_there : (o : Option NumberItems) (ds : Parts) → ShowsNumbers o ds → IfSome o (λ items. AreNumbers items ds)
numbers_there None ds shows = tt
numbers_there (Some items) ds shows = shows

pub returns-in-Vector : goal.returns-in-Vector
returns-in-Vector c L ds shown =
    let shows = rw c.in-Vector.is at shown in
    let same : shows.1 ≡ ds = cc in
    numbers_there c.numbers.result ds (rw same at (c.numbers.ensures shows.1 shows.3))
