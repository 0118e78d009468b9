use Rattle.std.proofs.Common.{List, ℕ, sym, arith, ◌≡◌, None, FitsSigned, rules, refl, Bool, Some, cond, ap, ◌∙◌, true}
use Rattle.std.proofs.Common.{false, ℤ, Option}
use Rattle.std.specs.Int.{w128}
use Rattle.std.specs.Option.{option_or}
use Rattle.std.specs.Str.{bytes_eq}
use Rattle.std.specs.Bool.{one_answer}
use Rattle.std.proofs.lemmas.Int.{to_z-of_z}
use Rattle.std.proofs.lemmas.Slice.Eq.{bytes_eq-Decides}
use Rattle.fb_resolve.specs.EnumValues.{number_of}
use Rattle.fb_schema.specs.Schema.{Name}
use Rattle.fb_resolve.proofs.enum_values.note_number.Goals.{in-Some+in_ok-insert, in_default}
use Rattle.fb_resolve.proofs.enum_values.note_number.Goals as goal

bytes_eq-sym : (a b : List ℕ) → bytes_eq a b ≡ bytes_eq b a
bytes_eq-sym a b = one_answer (bytes_eq a b) (bytes_eq b a) (bytes_eq-Decides a b)
    ((λ h. sym ((bytes_eq-Decides b a).0 h)), (λ e. (bytes_eq-Decides b a).1 (sym e)))

-- a name that had no number is noted
noted_first : (name other : Name) (old : Name → Option ℤ) (x : ℤ) → old name ≡ None
    → cond (bytes_eq name other) (Some x) (old other) ≡ option_or (old other) (cond (bytes_eq other name) (Some x) None)
noted_first name other old x none = rw (bytes_eq-sym other name) (by (bytes_eq name other) refl (old other) refl)
  where
    by : (b : Bool) → bytes_eq name other ≡ b → (o : Option ℤ) → old other ≡ o
        → cond b (Some x) o ≡ option_or o (cond b (Some x) None)
    by true e o is = rw (sym is ∙ sym (ap old ((bytes_eq-Decides name other).0 e)) ∙ none) refl
    by false e None is = refl
    by false e (Some y) is = refl

-- a name that had a number keeps it
noted_again : (name other : Name) (old : Name → Option ℤ) (x y : ℤ) → old name ≡ Some x
    → cond (bytes_eq name other) (Some x) (cond (bytes_eq name other) (Some y) (old other)) ≡ option_or (old other)
    (cond (bytes_eq other name) (Some y) None)
noted_again name other old x y had = rw (bytes_eq-sym other name) (by (bytes_eq name other) refl (old other) refl)
  where
    by : (b : Bool) → bytes_eq name other ≡ b → (o : Option ℤ) → old other ≡ o
        → cond b (Some x) (cond b (Some y) o) ≡ option_or o (cond b (Some y) None)
    by true e o is = rw (sym is ∙ sym (ap old ((bytes_eq-Decides name other).0 e)) ∙ had) refl
    by false e None is = refl
    by false e (Some z) is = refl

pub returns-clause-numbers : goal.returns-clause-numbers
returns-clause-numbers c = λ other.
    let name = c.args.name.now in
    let old = c.args.numbers.now in
    let number = c.args.number in
    let first : c.in_ok-first.first ≡ number_of old name = grind rules in
    let fits : FitsSigned w128 number = search rules in
    let noted : number_of c.insert.new.self other ≡ cond (bytes_eq name other) (Some number) (number_of old other) =
    grind (
      arith,
      rules,
      c.in_ok-first.ensures.updates.0 (record { ref_ptr = (0, 0); now = other }),
      to_z-of_z w128 number fits,
    ) in
    elim c.match-first.branch [
      | in-Some+in_ok-insert w ↦
          let x = w.in-Some.first in
          let fits : FitsSigned w128 x = search rules in
          let kept : number_of w.insert-in-Some.new.self other ≡ cond (bytes_eq name other) (Some x)
          (number_of c.insert.new.self other) =
          grind (
            arith,
            rules,
            w.in_ok-insert.ensures.updates.0 (record { ref_ptr = (0, 0); now = other }),
            to_z-of_z w128 x fits,
          ) in
          ap (λ m. number_of m other) w.numbers-is ∙ kept ∙ ap (cond (bytes_eq name other) (Some x)) noted
          ∙ noted_again name other (number_of old) x number (sym first ∙ w.in-Some.is)
      | in_default w ↦ ap (λ m. number_of m other) w.numbers-is ∙ noted
          ∙ noted_first name other (number_of old) number (sym first ∙ grind rules)
    ]
