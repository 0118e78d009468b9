use Rattle.std.proofs.Common.{◌≡◌, ℕ, ◌<◌, ◌+◌, Bool, true, false, not, ◌&&◌, cond, List, [], ◌∷◌, ◌++◌, length, map}
use Rattle.std.proofs.Common.{take, get_or, ap, refl, ◌∙◌, arith}
use Rattle.std.proofs.lemmas.Grind.{common_steps}
use Rattle.std.proofs.lemmas.List.{take_all}
use Rattle.std.proofs.lemmas.Option.{slice_get-map, slice_get_read}
use Rattle.std.specs.Option.{option_map}
use Rattle.fb_schema.specs.Seen.{field_seen}
use Rattle.fb_schema.specs.declared.types.FieldInfo.{FieldInfo}
use Rattle.fb_layout.specs.Required.{required_numbers}
use Rattle.fb_layout.proofs.required.required_in.Goals as goal
use Rattle.fb_layout.proofs.required.required_in.Goals.{then-field+then-not-field+in_ok-push, else-field}
use Rattle.fb_layout.proofs.required.required_in.Goals.{else-field-via-then-field+else-not-field}
use Rattle.fb_layout.proofs.required.required_in.Goals.{else-field-via-else-field}

-- the numbers of one slot more
numbers_more : (slots : List FieldInfo) (i : ℕ) (f : FieldInfo) (b : Bool) (numbers more : List ℕ) → i < length slots
    → f ≡ get_or slots i f → (f.required && not f.deprecated) ≡ b → more ≡ cond b (numbers ++ f.slot ∷ []) numbers
    → numbers ≡ required_numbers (map field_seen (take i slots))
    → more ≡ required_numbers (map field_seen (take (i + 1) slots))
numbers_more slots i f b numbers more within at counts grown so_far = grind (arith, common_steps)

pub overflow_cast-field : goal.overflow_cast-field
overflow_cast-field c =
    let slots = c.args.slots.now in
    let at = slice_get_read slots _ c.loop-field.field-index c.field-item.result refl c.loop-field-test.true
    c.field-item.is in
    let small = c.requires c.loop-field.field-index (field_seen c.field-item.result)
    (slice_get-map field_seen slots c.loop-field.field-index ∙ ap (option_map field_seen) at) in
    omega (arith, small)

pub loop-field-preserved : goal.loop-field-preserved
loop-field-preserved c =
    let slots = c.args.slots.now in
    let i = c.loop-field.field-index in
    let f = c.field-item.result in
    let numbers = c.loop-field.numbers.items in
    elim c.if-field.branch [
      | then-field+then-not-field+in_ok-push w ↦ numbers_more slots i f true numbers _ c.loop-field-test.true
          c.field-item.is (rw (w.if-field.true, w.if-not-field.true) refl)
          (ap (λ v. v.items) w.numbers-is ∙ w.in_ok-push.ensures.items) c.loop-field.invariant
      | else-field w ↦ elim w.else-field.branch [
        | else-field-via-then-field+else-not-field v ↦ numbers_more slots i f false numbers _ c.loop-field-test.true
            c.field-item.is (rw (v.if-field.true, v.if-not-field.false) refl) (ap (λ v. v.items) w.numbers-is)
            c.loop-field.invariant
        | else-field-via-else-field v ↦ numbers_more slots i f false numbers _ c.loop-field-test.true c.field-item.is
            (rw v.if-field.false refl) (ap (λ v. v.items) w.numbers-is) c.loop-field.invariant
      ]
    ]

pub returns : goal.returns
returns c =
    c.loop-field.invariant
    ∙ ap (λ (fs : List FieldInfo). required_numbers (map field_seen fs))
    (take_all c.loop-field.field-index c.args.slots.now c.loop-field-test.false)
