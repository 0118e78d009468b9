use Rattle.std.proofs.Common.{◌≡◌, ℕ, List, [], ◌∷◌, None, length, map, find, slice_get, refl, sym, ap, ◌∙◌, arith}
use Rattle.fb_layout.specs.Laid.{LaidSchema, Slot, slot_of, slots_of}
use Rattle.fb_layout.specs.Required.{required_slots}
use Rattle.fb_value.specs.Num.{Bytes}
use Rattle.fb_value.specs.Missing.{is_missing_slot}
use Rattle.fb_value.specs.Rules.{first_missing}
use Rattle.fb_value.proofs.rules.FirstMissingSlotIsRequired.{first_shown}
use Rattle.fb_read.specs.Visits.{slots_seen, first_unset}
use Rattle.fb_read.proofs.rules.missing_slot.Goals as goal

-- nothing is missing where nothing is required
none_missing : (L : LaidSchema) (b : Bytes) (t p : ℕ) (required : List ℕ) → required ≡ required_slots L t
    → length required ≡ 0 → first_missing b p 0 (slots_of L t) ≡ None
none_missing L b t p [] is none = first_shown L b t p ∙ (rw (← is) refl)
none_missing L b t p (k ∷ ks) is none = absurd (omega arith)

pub returns-then-is_empty : goal.returns-then-is_empty
returns-then-is_empty c =
    let none : length c.required_slots-required.result.now ≡ 0 = grind arith in
    sym (none_missing c.args.layout.now c.args.bytes.now c.args.table.0 c.args.at c.required_slots-required.result.now
    c.required_slots-required.ensures none)

pub returns : goal.returns
returns c =
    let L = c.args.layout.now in
    let b = c.args.bytes.now in
    let slots : slots_seen L c.slots_of.result.now ≡ slots_of L c.args.table.0 =
    ap (λ fs. map (slot_of L.schema) fs) c.slots_of.ensures.slots in
    let found : c.missing_among.result ≡ first_unset L b c.args.at c.slots_of.result.now
    (required_slots L c.args.table.0) = c.missing_among.ensures L
    ∙ ap (λ (r : List ℕ). first_unset L b c.args.at c.slots_of.result.now r) c.required_slots-required.ensures in
    found ∙ ap (λ (fs : List Slot). find (λ k. is_missing_slot b c.args.at k (slice_get fs k))
    (required_slots L c.args.table.0)) slots ∙ sym (first_shown L b c.args.table.0 c.args.at)
