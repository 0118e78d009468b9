-- A number at its default adds no field.
use Rattle.std.proofs.Common.{◌≡◌, ◌∙◌, [], false, not, Some, sym, ap}
use Rattle.std.proofs.lemmas.List.{append-nil}
use Rattle.fb_value.specs.View.{view}
use Rattle.fb_build.specs.Fields.{is_stored, slot_seen}
use Rattle.fb_build.proofs.noted.EntryHasItsFields.{no_fields}
use Rattle.fb_owned.proofs.noting.+noting.Answers.EntryIsNoted.{no_code}
use Rattle.fb_owned.proofs.noting.+noting.Goals as goal

pub default_adds_nothing : goal.note_entry-returns-then-is_default-clause-fields
default_adds_nothing t c =
    let L = c.args.layout.now in
    let v = c.in-Some.value in
    let fits = (rw c.in-Some.is at c.requires.fits).1 in
    let none = c.is_default.ensures.stored L (no_code L c.args.slot.now.shape (view v) fits) in
    let same : is_stored (slot_seen L c.args.slot.now) (Some (view v)) ≡ false = none ∙ ap not c.if-is_default.true in
    rw c.in-Some.is ([], sym (append-nil c.args.noting.now.opened), no_fields L c.args.k _ (view v) same)
