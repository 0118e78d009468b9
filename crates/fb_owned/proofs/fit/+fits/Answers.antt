use Rattle.std.proofs.Common.{arith, sym}
use Rattle.std.proofs.lemmas.List.{length-map}
use Rattle.std.proofs.lemmas.Bool.{false≢true}
use Rattle.fb_layout.specs.Laid.{stored_shape}
use Rattle.fb_value.specs.View.{parts_view, entries_view}
use Rattle.fb_value.proofs.types.EachVariantHasItsView.{view-Fixed, view-Fields}
use Rattle.fb_owned.proofs.rooms.RoomIsThatOfTheParts.{slots_seen}
use Rattle.fb_layout.specs.Seen.{kinds_seen}
use Rattle.fb_value.proofs.types.ValueFitsPartByPart.{parts_count, entries_count, struct_fits, table_fits}
use Rattle.fb_owned.proofs.fit.+fits.Goals as goal

pub parts_fit-returns-then-fields-parts : goal.parts_fit-returns-then-fields-parts
parts_fit-returns-then-fields-parts t c = (
  (λ bad. absurd (false≢true bad)),
  (λ h. let long = simp length-map
      at (parts_count c.args.layout.now (kinds_seen c.args.layout.now c.args.fields.now) c.args.parts.now h) in
      absurd (omega arith)),
)

pub entries_fit-returns-then-slots-entries : goal.entries_fit-returns-then-slots-entries
entries_fit-returns-then-slots-entries t c = (
  (λ bad. absurd (false≢true bad)),
  (λ h. let long = simp length-map
      at (entries_count c.args.layout.now (slots_seen c.args.layout.now c.args.slots.now) c.args.entries.now h)
      in absurd (omega arith)),
)

pub fits_in-returns-in-Some-struct_wanted : goal.fits_in-returns-in-Some-struct_wanted
fits_in-returns-in-Some-struct_wanted t c =
    let L = c.args.layout.now in
    let fits = struct_fits L (stored_shape L.schema c.args.shape) c.in-Some-struct_wanted.structure.0
    (parts_view c.in-Fixed.parts.items) (sym (c.in-Some-struct_wanted.ensures L.schema)) in
    let own = rw (c.parts_of.ensures.parts, c.deref-in-Some-struct_wanted.ensures.value) at c.parts_fit.ensures in
    rw (c.in-Fixed.is, view-Fixed c.in-Fixed.parts) ((λ yes. fits.1 (own.0 yes)), (λ h. own.1 (fits.0 h)))

pub fits_in-returns-then-is_table : goal.fits_in-returns-then-is_table
fits_in-returns-then-is_table t c =
    let L = c.args.layout.now in
    let fits = table_fits L (stored_shape L.schema c.args.shape) c.in-Fields.owner.0
    (entries_view c.in-Fields.entries.items) in
    let wanted = (c.is_table.ensures L.schema).0 c.if-is_table.true in
    let own = rw (c.slots_of.ensures.slots, c.deref-then-is_table.ensures.value) at c.entries_fit.ensures in
    rw (c.in-Fields.is, view-Fields c.in-Fields.owner c.in-Fields.entries) (
      (λ yes. fits.1 (wanted, own.0 yes)),
      (λ h. own.1 (fits.0 h).1),
    )
