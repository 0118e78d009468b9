-- An entry adds its fields.
use Rattle.std.proofs.Common.{◌≡◌, ◌∙◌, ◌++◌, ℕ, false, [], ◌∷◌, not, Option, None, Some, Ok, Err, Result, refl, sym, ap}
use Rattle.std.specs.Prelude.{OnOk}
use Rattle.fb_schema.specs.declared.kinds.Kind.TheVariants.{Code}
use Rattle.fb_schema.specs.declared.kinds.Shape.{Shape}
use Rattle.fb_schema.specs.declared.kinds.Shape.TheVariants.{One}
use Rattle.fb_layout.specs.Laid.{LaidSchema, stored_shape}
use Rattle.fb_value.specs.Datum.{Datum, a_member}
use Rattle.fb_value.specs.Fits.{Fits}
use Rattle.fb_value.specs.View.{view}
use Rattle.fb_tape.specs.OpenFields.{reference_field}
use Rattle.fb_build.specs.Fields.{code_in, is_coded, kind_seen, slot_seen}
use Rattle.fb_build.proofs.noted.EntryHasItsFields.{inline_fields, member_fields, reference_fields}
use Rattle.fb_build.proofs.tables.CodeSlotHasNoEntry.{no_code_entry}
use Rattle.fb_owned.proofs.noting.+noting.Goals as goal
use Rattle.fb_owned.proofs.noting.+noting.Goals.{note_entry-in-Some-code_of+in_ok-push_code}
use Rattle.fb_owned.proofs.noting.+noting.Goals.{note_entry-in_default-code_of}

-- a slot with an entry is no union's code
pub no_code : (L : LaidSchema) (shape : Shape) (d : Datum) → Fits L (stored_shape L.schema shape) d
    → is_coded shape ≡ false
no_code L (One (Code u)) d fits = absurd (no_code_entry L u.0 d fits)
no_code L _ d fits = refl

-- a datum with a union's code is a member
member_of : (d : Datum) (c : ℕ) → code_in (Some d) ≡ Some c → (e : Datum) × (d ≡ a_member c e)
member_of (a_member b d) c is = let same : b ≡ c = cc in (d, ap (λ n. a_member n d) same)
member_of _ c is = cc

on_ok : {A E : Type 0} (r : Result A E) (P Q : Type 0) → (P → Q) → OnOk r P → OnOk r Q
on_ok (Ok x) P Q more h = more h
on_ok (Err e) P Q more h = tt

pub inline_adds_itself : goal.note_entry-returns-clause-fields
inline_adds_itself t c =
    let L = c.args.layout.now in
    let v = c.in-Some.value in
    let f = slot_seen L c.args.slot.now in
    let fits = (rw c.in-Some.is at c.requires.fits).1 in
    let stored = c.is_default.ensures.stored L (no_code L c.args.slot.now.shape (view v) fits)
    ∙ ap not c.if-is_default.false in
    let inline = sym (c.is_reference.ensures L) ∙ c.if-is_reference.false in
    let shape = ap (λ s. stored_shape L.schema s) c.in-One.is in
    rw c.in-Some.is (on_ok c.push_inline.result _ _ (λ added. (
      added.0 ∷ [],
      added.1,
      inline_fields L c.args.k f (kind_seen L c.in-One.kind) (view v) added.0 shape inline fits stored added.2,
    )) c.push_inline.ensures.adds)

none_unless : {A : Type 0} (r : Option A) → ((x : A) → r ≡ Some x → ⊥) → r ≡ None
none_unless None not = refl
none_unless (Some x) not = absurd (not x refl)

pub reference_adds_itself : goal.note_entry-returns-then-is_reference-clause-fields
reference_adds_itself t c =
    let L = c.args.layout.now in
    let v = c.in-Some.value in
    let f = slot_seen L c.args.slot.now in
    let fits = (rw c.in-Some.is at c.requires.fits).1 in
    let refers = sym (c.is_reference.ensures L) ∙ c.if-is_reference.true in
    elim c.match-code_of.branch [
      | note_entry-in-Some-code_of+in_ok-push_code w ↦ (let member = member_of (view v) w.in-Some-code_of.code
          (sym c.code_of.ensures ∙ w.in-Some-code_of.is) in
          let after = c.in_ok-push_reference.ensures.adds ∙ ap (λ os. os ++ (reference_field c.args.k ∷ []))
          (c.in_ok-note_part.ensures.opened ∙ ap (λ n. n.opened) w.noting-is) in
          rw (c.in-Some.is, member.1) (member_fields L c.args.k f w.in-Some-code_of.code member.0 _ _ _
          (w.in_ok-push_code.ensures.adds L) after))
      | note_entry-in_default-code_of w ↦ (let after = c.in_ok-push_reference.ensures.adds
          ∙ ap (λ os. os ++ (reference_field c.args.k ∷ []))
          (c.in_ok-note_part.ensures.opened ∙ ap (λ n. n.opened) w.noting-is) in
          let none = sym c.code_of.ensures ∙ none_unless c.code_of.result w.in_default-code_of.not-Some in
          rw c.in-Some.is
          (reference_field c.args.k ∷ [], after, reference_fields L c.args.k f (view v) refers fits none))
    ]
