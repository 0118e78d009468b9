-- A slot without a member stores nothing: it is empty, or has its default.
use Rattle.std.specs.Prelude.{ℤ}
use Rattle.std.specs.Ordering.{int_eq}
use Rattle.std.proofs.Common.{◌≡◌, ◌⊎◌, inl, inr, ◌∙◌, ◌&&◌, ◌||◌, ℕ, zero, suc, Bool, true, false, not, List, []}
use Rattle.std.proofs.Common.{Option, None, Some, Result, Ok, Err, IfOk, IfErr, option_map, if◌then◌else◌, refl, sym}
use Rattle.std.proofs.Common.{ap, subst}
use Rattle.std.proofs.lemmas.List.{append-nil}
use Rattle.std.proofs.lemmas.Bool.Decides.{Decides-int_eq}
use Rattle.fb_schema.specs.declared.kinds.Base.{Base}
use Rattle.fb_schema.specs.declared.kinds.Kind.TheVariants.{Scalar, Enum, Struct, Table, Union, Code, Text}
use Rattle.fb_schema.specs.declared.kinds.Shape.{Shape}
use Rattle.fb_schema.specs.declared.kinds.Shape.TheVariants.{One, Many}
use Rattle.fb_schema.specs.Schema.{DeclaredField, base_in, body_at}
use Rattle.fb_schema.specs.WellDeclared.{InRange, MarksFit}
use Rattle.fb_layout.specs.Laid.{LaidSchema, Slot, default_of, one_of, scalar_kind, code_kind, slot_of, stored_shape}
use Rattle.fb_value.specs.Datum.{Datum, a_number}
use Rattle.fb_value.specs.Entries.{EntryFits, entry_room}
use Rattle.fb_value.specs.View.{view}
use Rattle.fb_value.specs.declared.values.Value.{Value}
use Rattle.fb_tape.specs.NamedParts.{as_list, entry_apart}
use Rattle.fb_tape.specs.OpenFields.{OpenField}
use Rattle.fb_tape.specs.Tapes.{Taped}
use Rattle.fb_json.specs.declared.faults.JsonFault.{JsonFault}
use Rattle.fb_json.specs.declared.faults.Place.{Place}
use Rattle.fb_json.specs.Meant.{as_absent, plain_meant, union_meant, used_meant}
use Rattle.fb_json.specs.Outcome.{Counted, Fails, Gives}
use Rattle.fb_build.specs.Fields.{is_stored}
use Rattle.fb_build.specs.Noted.{AreFieldsOf}
use Rattle.fb_build.specs.Parts.{EntryWhole}
use Rattle.fb_build.proofs.noted.EntryHasItsFields.{no_fields}
use Rattle.fb_build.proofs.noted.PartsAreAdded.{adds_none, adds_same}
use Rattle.fb_encode.specs.SlotsRead.{left_of}
use Rattle.fb_encode.specs.TreesNoted.{IsEntryNoted, entry_given}
use Rattle.std.proofs.Math.Bool.{and-false}
use Rattle.fb_json.proofs.slots.CodeSlots.{code_default}

pub record StoresNothing (L : LaidSchema) (f : Slot) (x : Option Datum) : Type 0 where
  pub fits : EntryFits L f x
  pub whole : EntryWhole x
  pub apart : entry_apart f x ≡ None
  pub room : entry_room L f x ≡ 0
  pub fields : (k : ℕ) → AreFieldsOf L k f x []

-- Nothing is noted for it.
pub nothing_noted : (L : LaidSchema) (k : ℕ) (f : Slot) (given : Counted (Option Datum)) (x : Option Datum) (rest : ℕ)
    (a : Taped) (opens : List OpenField) → a.unfinished ≡ [] → given ≡ Ok (x, rest) → StoresNothing L f x
    → IsEntryNoted L k f given a a opens opens rest
nothing_noted L k f given x rest a opens whole is none = record {
  entry = x;
  given_is = is;
  fits = none.fits;
  whole = none.whole;
  adds = adds_same a a [] _ 0 _ (sym (ap as_list none.apart)) (sym none.room) (adds_none a whole);
  fields = ([], sym (append-nil opens), none.fields k);
}

empty_slot : (L : LaidSchema) (f : Slot) → f.required ≡ false → f.if_absent ≡ None → StoresNothing L f None
empty_slot L f free none =
    record { fits = (free, none); whole = tt; apart = refl; room = refl; fields = λ k. refl }

-- what is given of what is counted
abbrev pub given_or : {A : Type 0} → A → Counted A → A
given_or other (Ok x) = x.0
given_or other (Err e) = other

-- what is given where there is no member
either : (o : Option ℤ) (required : Bool) (at : Place) (left : ℕ) (x : Option Datum) (rest : ℕ)
    → as_absent o required at left ≡ Ok (x, rest)
    → ((x ≡ None) × (o ≡ None) × (required ≡ false)) ⊎ ((n : ℤ) × (x ≡ Some (a_number n)) × (o ≡ Some n))
either (Some n) required at left x rest h =
    let same : Some (a_number n) ≡ x = ap (given_or x) h in inr (n, sym same, refl)
either None true at left x rest h = cc
either None false at left x rest h = let same : None ≡ x = ap (given_or x) h in inl (sym same, refl, refl)

module _ (L : LaidSchema) (f : DeclaredField) where
  -- the slot of a number
  record IsNumber (n : ℤ) : Type 0 where
    used : f.deprecated ≡ false
    base : Base
    shape : stored_shape L.schema f.shape ≡ one_of (scalar_kind base)
    range : InRange base n
    free : f.required ≡ false

  parts_false : (a b : Bool) → (a || b) ≡ false → a ≡ false
  parts_false true b h = cc
  parts_false false b h = refl

  number_at : (b : Bool) (shape : Shape) (n : ℤ) → MarksFit L.schema f shape
      → default_of b f.default (stored_shape L.schema shape) ≡ Some n
      → (b ≡ false) × ((base : Base) × (stored_shape L.schema shape ≡ one_of (scalar_kind base)) × InRange base n
      × (f.required ≡ false))
  number_at false (One (Scalar base)) n marks e =
      let same : f.default ≡ n = cc in (refl, (base, refl, subst (InRange base) same marks.0, marks.2))
  number_at false (One (Enum id)) n marks e =
      let same : f.default ≡ n = cc in (
        refl,
        (
          base_in (body_at L.schema id.0),
          refl,
          subst (InRange (base_in (body_at L.schema id.0))) same marks.0,
          marks.2,
        ),
      )
  number_at true (One (Scalar base)) n marks e = cc
  number_at true (One (Enum id)) n marks e = cc
  number_at false (One (Struct id)) n marks e = cc
  number_at true (One (Struct id)) n marks e = cc
  number_at false (One (Table id)) n marks e = cc
  number_at true (One (Table id)) n marks e = cc
  number_at false (One (Union id)) n marks e = cc
  number_at true (One (Union id)) n marks e = cc
  number_at false (One (Code id)) n marks e = cc
  number_at true (One (Code id)) n marks e = cc
  number_at false (One Text) n marks e = cc
  number_at true (One Text) n marks e = cc
  number_at false (Many kind) n marks e = cc
  number_at true (Many kind) n marks e = cc

  default_slot : MarksFit L.schema f f.shape → (n : ℤ) → (slot_of L.schema f).if_absent ≡ Some n
      → StoresNothing L (slot_of L.schema f) (Some (a_number n))
  default_slot marks n is =
      let own = number_at (f.deprecated || f.optional) f.shape n marks is in
      let used = parts_false f.deprecated f.optional own.0 in
      let free : (slot_of L.schema f).required ≡ false = rw own.1.3 refl in
      let same : int_eq n n ≡ true = (Decides-int_eq n n).1 refl in
      let stored : is_stored (slot_of L.schema f) (Some (a_number n)) ≡ false = rw (free, is, same) refl in
      record {
        fits = (used, rw own.1.1 own.1.2);
        whole = refl;
        apart = rw own.1.1 refl;
        room = refl;
        fields = λ k. no_fields L k (slot_of L.schema f) (a_number n) stored;
      }

  -- a union's code comes with its value
  pub code_slot : (u : ℕ) (shape : Shape) → f.shape ≡ shape → stored_shape L.schema shape ≡ one_of (code_kind u)
      → f.required ≡ false → StoresNothing L (slot_of L.schema f) None
  code_slot u shape e code free =
      let stored : stored_shape L.schema f.shape ≡ one_of (code_kind u) = ap (stored_shape L.schema) e ∙ code in
      empty_slot L (slot_of L.schema f) (rw free refl)
      (rw stored (code_default (f.deprecated || f.optional) f.default u))

  by_either : MarksFit L.schema f f.shape → (at : Place) (left : ℕ) (x : Option Datum) (rest : ℕ)
      → as_absent (slot_of L.schema f).if_absent (slot_of L.schema f).required at left ≡ Ok (x, rest)
      → StoresNothing L (slot_of L.schema f) x
  by_either marks at left x rest h =
      elim (either (slot_of L.schema f).if_absent (slot_of L.schema f).required at left x rest h) [
        | inl none ↦ subst (StoresNothing L (slot_of L.schema f)) (sym none.0)
            (empty_slot L (slot_of L.schema f) none.2 none.1)
        | inr some ↦ subst (StoresNothing L (slot_of L.schema f)) (sym some.1) (default_slot marks some.0 some.2)
      ]

  used_nothing : (shape : Shape) → f.shape ≡ shape → MarksFit L.schema f f.shape → (c : ℕ) (at : Place)
      (levels left : ℕ) (x : Option Datum) (rest : ℕ)
      → used_meant L f c None at levels left shape ≡ Ok (x, rest) → StoresNothing L (slot_of L.schema f) x
  unfolding union_meant plain_meant
  used_nothing (One (Code u)) e marks c at levels left x rest h =
      let none : None ≡ x = ap (given_or x) h in
      let free : f.required ≡ false = (rw e at marks).1 in
      subst (StoresNothing L (slot_of L.schema f)) none (code_slot u.0 (One (Code u)) e refl free)
  used_nothing (One (Union u)) e marks zero at levels left x rest h = by_either marks at left x rest h
  used_nothing (One (Union u)) e marks (suc c) at levels left x rest h = cc
  used_nothing (One (Scalar base)) e marks c at levels left x rest h = by_either marks at left x rest h
  used_nothing (One (Enum id)) e marks c at levels left x rest h = by_either marks at left x rest h
  used_nothing (One (Struct id)) e marks c at levels left x rest h = by_either marks at left x rest h
  used_nothing (One (Table id)) e marks c at levels left x rest h = by_either marks at left x rest h
  used_nothing (One Text) e marks c at levels left x rest h = by_either marks at left x rest h
  used_nothing (Many kind) e marks c at levels left x rest h = by_either marks at left x rest h

  -- a slot in use without a member
  pub absent_nothing : MarksFit L.schema f f.shape → (c : ℕ) (at : Place) (levels left : ℕ) (x : Option Datum)
      (rest : ℕ) → used_meant L f c None at levels left f.shape ≡ Ok (x, rest) → StoresNothing L (slot_of L.schema f) x
  absent_nothing marks c at levels left x rest h = used_nothing f.shape refl marks c at levels left x rest h

  -- a deprecated slot
  pub unused_nothing : f.deprecated ≡ true → StoresNothing L (slot_of L.schema f) None
  unused_nothing e = empty_slot L (slot_of L.schema f)
      (ap (λ (b : Bool). f.required && not b) e ∙ and-false f.required)
      (ap (λ (b : Bool). default_of (b || f.optional) f.default (stored_shape L.schema f.shape)) e)

  by_mark : MarksFit L.schema f f.shape → (c : ℕ) (at : Place) (levels left : ℕ) (x : Option Datum) (rest : ℕ)
      (b : Bool) → f.deprecated ≡ b
      → (if b then Ok (None, left) else used_meant L f c None at levels left f.shape) ≡ Ok (x, rest)
      → StoresNothing L (slot_of L.schema f) x
  by_mark marks c at levels left x rest true e h =
      let none : None ≡ x = ap (given_or x) h in subst (StoresNothing L (slot_of L.schema f)) none (unused_nothing e)
  by_mark marks c at levels left x rest false e h = absent_nothing marks c at levels left x rest h

  -- a slot without a member, deprecated or not
  pub given_nothing : MarksFit L.schema f f.shape → (unknown : Bool) (c : ℕ) (at : Place) (levels left : ℕ)
      (x : Option Datum) (rest : ℕ) → entry_given L unknown f None at c levels left ≡ Ok (x, rest)
      → StoresNothing L (slot_of L.schema f) x
  given_nothing marks unknown c at levels left x rest h = by_mark marks c at levels left x rest f.deprecated refl h

  -- what is read of a slot in use without a member
  module _ (marks : MarksFit L.schema f f.shape) (k c : ℕ) (at : Place) (levels left : ℕ)
      (given : Counted (Option Datum)) (is : given ≡ used_meant L f c None at levels left f.shape) (a : Taped)
      (opens : List OpenField) (whole : a.unfinished ≡ []) where
    pub absent_noted : (r : Result (Option Value × ℕ) JsonFault)
        → Gives (λ x. (option_map view x.0, x.1)) r (used_meant L f c None at levels left f.shape)
        → IfOk (left_of r) (IsEntryNoted L k (slot_of L.schema f) given a a opens opens)
    absent_noted (Ok (x, rest)) h =
        nothing_noted L k (slot_of L.schema f) given (option_map view x) rest a opens whole (is ∙ h)
        (absent_nothing marks c at levels left (option_map view x) rest h)
    absent_noted (Err e) h = tt

    pub absent_refused : (r : Result (Option Value × ℕ) JsonFault)
        → Gives (λ x. (option_map view x.0, x.1)) r (used_meant L f c None at levels left f.shape)
        → IfErr (left_of r) (λ e. Fails e given)
    absent_refused (Ok x) h = tt
    absent_refused (Err e) h = rw is h
