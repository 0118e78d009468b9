use Rattle.std.proofs.Common.{◌≡◌, ◌∙◌, None, replicate, ap}
use Rattle.fb_json.proofs.slot_members.FewOrMany.{are_few_empty, few_empty, empty_of_no_slots}
use Rattle.fb_json.proofs.slot_members.SlotMembers.begin.Goals.{then-self-ne0, else-self-ne0}
use Rattle.fb_json.proofs.slot_members.SlotMembers.begin.Goals as goal

-- whatever it had before
empty : (c : goal.Else-slots-gt-FEW_NAMES) → c.if-self-ne0.self-inside.few ≡ replicate 16 None
empty c = elim c.if-self-ne0.branch [
  | then-self-ne0 w ↦ ap (λ s. s.few) w.self-inside-is
  | else-self-ne0 w ↦
      ap (λ s. s.few) w.self-inside-is
      ∙ empty_of_no_slots c.self.inside.slots c.self.inside.few c.self.invariant w.if-self-ne0.false
]

pub invariant_of-self-else-slots-gt-FEW_NAMES : goal.invariant_of-self-else-slots-gt-FEW_NAMES
invariant_of-self-else-slots-gt-FEW_NAMES c = are_few_empty c.args.slots c.if-self-ne0.self-inside.few (empty c)

pub returns-else-slots-gt-FEW_NAMES : goal.returns-else-slots-gt-FEW_NAMES
returns-else-slots-gt-FEW_NAMES c =
    let s = c.if-self-ne0.self-inside in
    few_empty c.args.slots s.few s.many c.if-slots-gt-FEW_NAMES.false (empty c)
