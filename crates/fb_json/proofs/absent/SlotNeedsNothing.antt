-- A slot that isn't required and not of a union needs no member.
use Rattle.std.proofs.Common.{◌≡◌, ◌∙◌, ℕ, ℤ, Bool, true, false, ◌&&◌, not, Option, None, Some, Ok}
use Rattle.std.proofs.Common.{option_map, ap, refl}
use Rattle.fb_schema.specs.declared.kinds.Kind.TheVariants.{Union, Code}
use Rattle.fb_schema.specs.declared.kinds.Shape.{Shape}
use Rattle.fb_schema.specs.declared.kinds.Shape.TheVariants.{One}
use Rattle.fb_schema.specs.Schema.{DeclaredField}
use Rattle.fb_layout.specs.Laid.{LaidSchema, slot_of}
use Rattle.fb_value.specs.Datum.{a_number}
use Rattle.fb_json.specs.declared.faults.Place.{Place}
use Rattle.fb_json.specs.Meant.{Look, as_absent, entry_meant, plain_meant, used_meant}
use Rattle.fb_json.specs.SlotMembers.{is_of_union}
use Rattle.fb_json.proofs.slots.EntryIsWhatTheLookUpFinds.{entry_none}

module _ (L : LaidSchema) (look : Look) (f : DeclaredField) (at : Place) (code levels left : ℕ) where
  none_used : (shape : Shape) → is_of_union shape ≡ false → used_meant L f code None at levels left shape
      ≡ as_absent (slot_of L.schema f).if_absent (slot_of L.schema f).required at left
  unfolding plain_meant
  none_used (One (Union u)) plain = absurd cc
  none_used (One (Code u)) plain = absurd cc
  none_used _ plain = refl

  unneeded : (o : Option ℤ) (required : Bool) → required ≡ false
      → as_absent o required at left ≡ Ok (option_map a_number o, left)
  unneeded (Some n) required h = refl
  unneeded None true h = absurd cc
  unneeded None false h = refl

  pub default_given : f.required ≡ false → is_of_union f.shape ≡ false → look f.name ≡ None
      → entry_meant L look f at code levels left ≡ Ok (option_map a_number (slot_of L.schema f).if_absent, left)
  unfolding entry_meant
  default_given optional plain none = by f.deprecated refl
    where
      by : (b : Bool) → f.deprecated ≡ b
          → entry_meant L look f at code levels left ≡ Ok (option_map a_number (slot_of L.schema f).if_absent, left)
      by true old = rw old refl
      by false used =
          entry_none L look f at code levels left used none
          ∙ (none_used f.shape plain
          ∙ unneeded (slot_of L.schema f).if_absent (slot_of L.schema f).required
          (ap (λ b. b && not f.deprecated) optional))
