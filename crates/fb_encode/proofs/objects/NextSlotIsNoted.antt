-- The next slot is noted: it has no text, or one that isn't null.
use Rattle.std.proofs.Common.{◌≡◌, ◌≢◌, ◌∙◌, ◌++◌, ◌∷◌, [], ℕ, Bool, true, false, List, Option, None, Some, Ok}
use Rattle.std.proofs.Common.{◌-◌, ap, pos, refl, sym}
use Rattle.serde_json.specs.Data.{Data, null, boolean, number, string, array, object}
use Rattle.fb_schema.specs.declared.kinds.Kind.TheVariants.{Scalar, Enum, Struct, Table, Union, Code, Text}
use Rattle.fb_schema.specs.declared.kinds.Base.TheVariants.{U8}
use Rattle.fb_schema.specs.declared.kinds.Shape.{Shape}
use Rattle.fb_schema.specs.declared.kinds.TypeId.{TypeId}
use Rattle.fb_schema.specs.declared.kinds.Shape.TheVariants.{One, Many}
use Rattle.fb_schema.specs.Schema.{DeclaredField, DeclaredSchema, Name}
use Rattle.fb_schema.specs.WellDeclared.{MarksFit}
use Rattle.fb_layout.specs.Laid.{LaidSchema, member_by_code, one_of, scalar_kind, slot_of, stored_shape, table_kind}
use Rattle.fb_value.specs.Datum.{Datum, a_number}
use Rattle.fb_tape.specs.OpenFields.{AddsInlineField, OpenField, reference_field}
use Rattle.fb_tape.specs.Tapes.{Taped}
use Rattle.fb_json.specs.declared.faults.JsonFault.{JsonFault}
use Rattle.fb_json.specs.declared.faults.JsonFault.TheVariants.{UnionMismatch}
use Rattle.fb_json.specs.declared.faults.Place.{Place}
use Rattle.fb_json.specs.Meant.{Look, code_after, entry_meant, is_null, meant, used_meant}
use Rattle.fb_json.specs.Outcome.{◌>>=◌, Fails}
use Rattle.fb_json.specs.SlotMembers.{is_of_union}
use Rattle.fb_json.proofs.slots.EntryIsWhatTheLookUpFinds.{entry_some}
use Rattle.fb_json.proofs.slots.OneSlotOrFieldMore.{fails_by}
use Rattle.fb_encode.specs.TreesNoted.{IsEntryNoted, IsNoted, IsPart}
use Rattle.fb_encode.proofs.entries.PresentEntryIsNoted.{member_given, member_noted, member_refused}
use Rattle.fb_encode.proofs.entries.PresentEntryIsNoted.{mismatch_refused, part_plain, plain_given, plain_refused}
use Rattle.fb_encode.proofs.entries.PresentEntryIsNoted.{reference_noted}
use Rattle.fb_encode.proofs.entries.SlotStoresNothing.{given_nothing, nothing_noted, unused_nothing}
use Rattle.fb_encode.proofs.tables.SlotsAreNoted.{entry_by}
use Rattle.fb_json.proofs.slots.CodeSlots.{code_handed_on}

-- where a slot has a text, it is in use
pub used_by : (b : Bool) {A : Type 0} (o : Option A) (x : A) → (b ≡ true → o ≡ None) → o ≡ Some x → b ≡ false
used_by true o x old is =
    let both : None ≡ Some x = sym (old refl) ∙ is in
    cc
used_by false o x old is = refl

code_old : (S : DeclaredSchema) (look : Look) (at : Place) (code : ℕ) (name : Name) (shape : Shape)
    → code_after S look at code true name shape ≡ Ok code
unfolding code_after
code_old S look at code name shape = refl

code_union : (S : DeclaredSchema) (look : Look) (at : Place) (code : ℕ) (b : Bool) (name : Name) (u : TypeId)
    → code_after S look at code b name (One (Union u)) ≡ Ok code
unfolding code_after
code_union S look at code true name u = refl
code_union S look at code false name u = refl

not_null : (t : Data) → t ≢ null → is_null t ≡ false
not_null null apart = absurd (apart refl)
not_null (boolean b) apart = refl
not_null (number n) apart = refl
not_null (string s) apart = refl
not_null (array ds) apart = refl
not_null (object ms) apart = refl

module _ (L : LaidSchema) (f : DeclaredField) (seen : Look) (k code levels left : ℕ) (at : Place) where
  abbrev NextIs : Taped → Taped → List OpenField → List OpenField → ℕ → Type 0
  NextIs a b before now rest =
      (code_after L.schema seen at code f.deprecated f.name f.shape ≡ Ok code)
      × IsEntryNoted L k (slot_of L.schema f) (entry_meant L seen f at code levels left) a b before now rest

  -- a deprecated slot
  pub old_next : f.deprecated ≡ true → (a : Taped) (opens : List OpenField) → a.unfinished ≡ []
      → NextIs a a opens opens left
  unfolding entry_meant
  old_next old a opens whole =
      let given : entry_meant L seen f at code levels left ≡ Ok (None, left) = rw old refl in (
        rw old (code_old L.schema seen at code f.name f.shape),
        nothing_noted L k (slot_of L.schema f) _ None left a opens whole given (unused_nothing L f old),
      )

  -- a slot without a member
  pub absent_next : MarksFit L.schema f f.shape → (unknown : Bool) → seen f.name ≡ None
      → code_after L.schema seen at code f.deprecated f.name f.shape ≡ Ok code → (x : Option Datum)
      → entry_meant L seen f at code levels left ≡ Ok (x, left) → (a : Taped) (opens : List OpenField)
      → a.unfinished ≡ [] → NextIs a a opens opens left
  absent_next marks unknown none coded x given a opens whole =
      let nothing = given_nothing L f marks unknown code at levels left x left
      (sym (entry_by L unknown seen f None at code levels left none) ∙ given) in
      (coded, nothing_noted L k (slot_of L.schema f) _ x left a opens whole given nothing)

  -- a slot whose member isn't null
  module _ (used : f.deprecated ≡ false) (unknown : Bool) (t : Data) (apart : t ≢ null)
      (found : seen f.name ≡ Some (t, meant L unknown t)) where
    abbrev NextFails : JsonFault → Type 0
    NextFails e = Fails e (code_after L.schema seen at code f.deprecated f.name f.shape
        >>= λ c. entry_meant L seen f at c levels left)

    entry_is : entry_meant L seen f at code levels left
        ≡ used_meant L f code (Some (meant L unknown t)) at levels left f.shape
    entry_is =
        entry_some L seen f at code levels left used t (meant L unknown t) found ∙ (rw (not_null t apart) refl)

    -- of a reference's shape
    module _ (part : IsPart L (stored_shape L.schema f.shape)) where
      code_is_plain : code_after L.schema seen at code f.deprecated f.name f.shape ≡ Ok code
      code_is_plain = code_handed_on L.schema seen at code f.deprecated f.name f.shape (part_plain L f.shape part)

      pub reference_next : (a b : Taped) (before now : List OpenField) (rest : ℕ)
          → IsNoted L (stored_shape L.schema f.shape) (meant L unknown t f.shape at levels left) a b rest
          → now ≡ before ++ (reference_field k ∷ []) → NextIs a b before now rest
      reference_next a b before now rest noted pushed = (
        code_is_plain,
        reference_noted L k f used _ a b before now rest (meant L unknown t f.shape at levels left) part
            (λ d h. entry_is ∙ plain_given L f code (meant L unknown t) at levels left (part_plain L f.shape part) d
            rest h) noted pushed,
      )

      pub reference_fails : (e : JsonFault) → Fails e (meant L unknown t f.shape at levels left) → NextFails e
      reference_fails e fails =
          fails_by e _ _ (λ h. rw code_is_plain (entry_is ∙ h))
          (plain_refused L f code (meant L unknown t) at levels left (part_plain L f.shape part) e fails)

    -- of a union
    module _ (u : TypeId) (union : f.shape ≡ One (Union u)) where
      code_is_before : code_after L.schema seen at code f.deprecated f.name f.shape ≡ Ok code
      code_is_before =
          ap (code_after L.schema seen at code f.deprecated f.name) union
          ∙ code_union L.schema seen at code f.deprecated f.name u

      pub member_next : (m : ℕ) → member_by_code L u.0 code ≡ Some m → (a b : Taped)
          (before coded now : List OpenField) (rest : ℕ)
          → IsNoted L (one_of (table_kind m)) (meant L unknown t (One (Table (record { 0 = m }))) at levels left) a b rest
          → AddsInlineField L (k - 1) (scalar_kind U8) (a_number (pos code)) before coded
          → now ≡ coded ++ (reference_field k ∷ []) → NextIs a b before now rest
      member_next m known a b before coded now rest noted code_pushed pushed = (
        code_is_before,
        member_noted L k f used _ a b before now rest
            (meant L unknown t (One (Table (record { 0 = m }))) at levels left) u m code union known
            (λ d h. entry_is ∙ member_given L f code (meant L unknown t) at levels left u union m known d rest h)
            noted coded code_pushed pushed,
      )

      pub member_fails : (m : ℕ) → member_by_code L u.0 code ≡ Some m → (e : JsonFault)
          → Fails e (meant L unknown t (One (Table (record { 0 = m }))) at levels left) → NextFails e
      member_fails m known e fails =
          fails_by e _ _ (λ h. rw code_is_before (entry_is ∙ h))
          (member_refused L f code (meant L unknown t) at levels left u union m known e fails)

      pub mismatch_fails : member_by_code L u.0 code ≡ None → NextFails (UnionMismatch at)
      mismatch_fails none =
          rw code_is_before (entry_is ∙ mismatch_refused L f code (meant L unknown t) at levels left u union none)
