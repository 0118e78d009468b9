use Rattle.std.proofs.Common.{◌∙◌, sym}
use Rattle.fb_schema.specs.Seen.{field_seen}
use Rattle.fb_json.proofs.absent.SlotNeedsNothing.{default_given}
use Rattle.fb_json.proofs.absent.is_absent.Goals as goal
use Rattle.std.proofs.lemmas.Bool.{not-true}
use Rattle.fb_json.proofs.slots.CodeSlots.{code_handed_on}

pub returns-then-not-slot-clause-code : goal.returns-then-not-slot-clause-code
returns-then-not-slot-clause-code c S seen at code other =
    let f = field_seen c.args.slot.now in
    code_handed_on S seen at code f.deprecated f.name f.shape (sym c.is_of_union.ensures ∙ not-true _ other)

pub returns-then-not-slot-clause-entry : goal.returns-then-not-slot-clause-entry
returns-then-not-slot-clause-entry c L seen at code levels left other none =
    let f = field_seen c.args.slot.now in
    default_given L seen f at code levels left c.if-not-slot.true (sym c.is_of_union.ensures ∙ not-true _ other) none
