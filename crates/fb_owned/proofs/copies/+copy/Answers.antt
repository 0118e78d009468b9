use Rattle.std.proofs.Common.{arith}
use Rattle.std.proofs.lemmas.Grind.{common_steps}
use Rattle.fb_value.proofs.types.EachVariantHasItsView.{view-Fields}
use Rattle.fb_owned.proofs.copies.+copy.Goals as goal

pub copy_in-returns-in_ok-copy_entries-in-Fields : goal.copy_in-returns-in_ok-copy_entries-in-Fields
copy_in-returns-in_ok-copy_entries-in-Fields t c =
    rw (
      c.in-Fields.is,
      view-Fields c.in-Fields.type_id c.in-Fields.entries,
      view-Fields c.in-Fields.type_id c.in_ok-copy_entries-in-Fields.field-0,
    ) (let e = c.copy_entries.ensures in
    grind (arith, common_steps))
