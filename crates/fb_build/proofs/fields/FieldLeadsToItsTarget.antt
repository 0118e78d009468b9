-- Where the references of a table lead while its fields are laid.
use Rattle.std.proofs.Common.{◌≡◌, ℕ, Bool, true, false, List, slice_index, Option, None, Some, refl}
use Rattle.std.proofs.lemmas.Bool.{both_ways}
use Rattle.fb_layout.specs.Laid.{Slot}
use Rattle.fb_value.specs.Datum.{Datum}
use Rattle.fb_value.specs.Num.{Bytes}
use Rattle.fb_build.specs.Tails.{TailSeen, Grows}
use Rattle.fb_build.specs.Fields.{is_stored, target_for}
use Rattle.fb_build.specs.Made.{FieldLeads, FieldsLead}
use Rattle.fb_build.proofs.covered.ReferenceLeadsThereFurtherOn.{leads_grown}

pub field_kept : (a b : TailSeen) (t : Bool) (f : Slot) (x : Option Datum) (target e : ℕ) → Grows a b
    → FieldLeads a.bytes t f x target e → FieldLeads b.bytes t f x target e
field_kept a b false f x target e g h = h
field_kept a b true f None target e g h = tt
field_kept a b true f (Some d) target e g h = λ is. leads_grown a b (target_for f.shape d) e target g (h is)

pub fields_kept : (a b : TailSeen)
    (t : ℕ → Slot → Bool) (fs : List Slot) (xs : List (Option Datum)) (targets ends : List ℕ) → Grows a b
    → FieldsLead a.bytes t fs xs targets ends → FieldsLead b.bytes t fs xs targets ends
fields_kept a b t fs xs targets ends g h k f x fk xk =
    field_kept a b (t k f) f x (slice_index targets k) (slice_index ends k) g (h k f x fk xk)

unstored : (s : Bytes) (f : Slot) (x : Option Datum) (target e : ℕ) → is_stored f x ≡ false
    → FieldLeads s true f x target e
unstored s f None target e out = tt
unstored s f (Some d) target e out = λ is. absurd (both_ways (is_stored f (Some d)) out is)

pub field_or_out : (s : Bytes) (f : Slot) (x : Option Datum) (target e : ℕ) → (is_stored f x ≡ true → ⊥)
    → FieldLeads s true f x target e
field_or_out s f x target e never = unstored s f x target e (false_of (is_stored f x) never)
  where
    false_of : (b : Bool) → (b ≡ true → ⊥) → b ≡ false
    false_of true h = absurd (h refl)
    false_of false h = refl
