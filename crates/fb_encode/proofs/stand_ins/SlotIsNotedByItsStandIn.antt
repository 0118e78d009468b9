-- A slot is noted, or refused, as with a member in the place of its own that means the same.
use Rattle.std.proofs.Common.{◌≡◌, ◌∙◌, ℕ, Bool, Some, Result, Ok, Err, ap, refl, sym, subst}
use Rattle.serde_json.specs.Data.{Data}
use Rattle.fb_schema.specs.Seen.{field_seen}
use Rattle.fb_layout.specs.Laid.{LaidSchema}
use Rattle.fb_layout.specs.Seen.{slot_seen}
use Rattle.fb_build.specs.declared.noting.Noting.{Noting}
use Rattle.fb_json.specs.declared.faults.JsonFault.{JsonFault}
use Rattle.fb_json.specs.Meant.{Look, code_after, entry_meant, meant, slot_place}
use Rattle.fb_json.specs.Outcome.{◌>>=◌, Fails}
use Rattle.fb_encode.specs.declared.entries.SlotRead.{SlotRead}
use Rattle.fb_encode.specs.declared.objects.AfterSlot.{AfterSlot}
use Rattle.fb_encode.specs.SlotTexts.{IsSlotNotedOr, slot_meant}
use Rattle.fb_encode.specs.StandIns.{AreAlike}
use Rattle.fb_encode.specs.TreesNoted.{IsEntryNoted}
use Rattle.fb_encode.proofs.stand_ins.AlikeTreesFillASlotAlike.{code_same, entry_same}

pub bind_each : {A B : Type 0} (r : Result A JsonFault) (k l : A → Result B JsonFault) → ((a : A) → k a ≡ l a)
    → (r >>= k) ≡ (r >>= l)
bind_each (Ok a) k l each = each a
bind_each (Err e) k l each = refl

pub bind_same : {A B : Type 0} (r s : Result A JsonFault) (k l : A → Result B JsonFault) → r ≡ s → ((a : A) → k a ≡ l a)
    → (r >>= k) ≡ (s >>= l)
bind_same r s k l same each = ap (λ o. o >>= k) same ∙ bind_each s k l each

module _ (L : LaidSchema) (unknown : Bool) (seen bare : Look) (slot : SlotRead) (t d : Data)
    (is : seen (field_seen slot.field.now).name ≡ Some (t, meant L unknown t))
    (was : bare (field_seen slot.field.now).name ≡ Some (d, meant L unknown d))
    (alike : AreAlike L unknown slot.field.now.shape t d) (levels : ℕ) where
  code_is : (code : ℕ) → code_after L.schema seen (slot_place slot.owner.0 slot.number) code slot.field.now.deprecated
      (field_seen slot.field.now).name slot.field.now.shape
      ≡ code_after L.schema bare (slot_place slot.owner.0 slot.number) code slot.field.now.deprecated
      (field_seen slot.field.now).name slot.field.now.shape
  code_is code =
      code_same L.schema seen bare (slot_place slot.owner.0 slot.number) code slot.field.now.deprecated
      (field_seen slot.field.now).name slot.field.now.shape t d _ _ is was alike.code

  entry_is : (code left : ℕ) → entry_meant L seen (field_seen slot.field.now) (slot_place slot.owner.0 slot.number)
      code levels left
      ≡ entry_meant L bare (field_seen slot.field.now) (slot_place slot.owner.0 slot.number) code levels left
  entry_is code left =
      entry_same L unknown (field_seen slot.field.now) (slot_place slot.owner.0 slot.number) code levels left seen bare
      t d is was alike

  slot_is : (code left : ℕ) → slot_meant L seen slot code levels left ≡ slot_meant L bare slot code levels left
  slot_is code left = bind_same _ _ _ _ (code_is code) (λ c. entry_is c left)

  pub noted_by_stand_in : (before : AfterSlot) (a b : Noting) (r : Result AfterSlot JsonFault)
      → IsSlotNotedOr L bare slot levels before a b r → IsSlotNotedOr L seen slot levels before a b r
  noted_by_stand_in before a b (Ok after) noted = (
    code_is before.code ∙ noted.0,
    subst (λ given. IsEntryNoted L slot.number (slot_seen L slot.field.now) given a.tape b.tape a.opened b.opened
        after.left) (sym (entry_is after.code before.left)) noted.1,
  )
  noted_by_stand_in before a b (Err f) fails =
      subst (λ given. Fails f given) (sym (slot_is before.code before.left)) fails
