use Rattle.std.proofs.Common.{List, sym, arith, ◌≡◌, ◌∷◌, [], None, take, map, rules, refl, Bool, Some}
use Rattle.std.proofs.Common.{length, get_or, drop, ℕ, ◌<◌, ◌≤◌, cond, ◌+◌, ap, ◌∙◌, true, false, ℤ, Option, ◌++◌}
use Rattle.std.specs.Int.{w128}
use mir.Val.{to_z, of_z}
use Rattle.std.specs.List.{find, list_any}
use Rattle.std.specs.Option.{is_some, option_or, option_map}
use Rattle.std.specs.Str.{bytes_eq}
use Rattle.std.proofs.lemmas.Grind.{common_steps}
use Rattle.std.proofs.lemmas.Int.{to_z-of_z}
use Rattle.std.proofs.lemmas.List.{take_all}
use Rattle.fb_resolve.specs.EnumValues.{name_of_value, value_number, value_over, number_named, number_of}
use Rattle.fb_resolve.specs.RepeatedNames.{again_behind, repeated_names}
use Rattle.fb_resolve.specs.ResolvedFields.{ResolvedValue}
use Rattle.fb_syntax.specs.declared.declarations.EnumValue.{EnumValue}
use Rattle.fb_schema.specs.Schema.{Name}
use Rattle.fb_schema.specs.declared.kinds.Base.{Base}
use Rattle.fb_resolve.proofs.enum_values.numbers_over.Goals as goal

-- a name has a number exactly where a value has it
named_again : (base : Base) (flags : Bool) (vs : List ResolvedValue) (name : Name)
    → is_some (number_named (map (value_over base flags) vs) name) ≡ list_any (bytes_eq name) (map name_of_value vs)
unfolding number_named
named_again base flags [] name = refl
named_again base flags (v ∷ vs) name = grind (arith, common_steps, named_again base flags vs name)

-- the number of a name among one value more
named_more : (vs : List (Name × ℤ)) (v : Name × ℤ) (name : Name)
    → number_named (vs ++ v ∷ []) name ≡ option_or (number_named vs name) (cond (bytes_eq name v.0) (Some v.1) None)
unfolding number_named
named_more [] v name = by (bytes_eq name v.0)
  where
    by : (b : Bool) → option_map (λ (w : Name × ℤ). w.1) (cond b (Some v) None) ≡ cond b (Some v.1) None
    by true = refl
    by false = refl
named_more (w ∷ vs) v name = by (bytes_eq name w.0) (named_more vs v name)
  where
    rest : Option (Name × ℤ)
    rest = find (λ u. bytes_eq name u.0) (vs ++ v ∷ [])

    by : (b : Bool) → option_map (λ (u : Name × ℤ). u.1) rest ≡ option_or (number_named vs name)
        (cond (bytes_eq name v.0) (Some v.1) None)
        → option_map (λ (u : Name × ℤ). u.1) (cond b (Some w) rest) ≡ option_or
        (option_map (λ (u : Name × ℤ). u.1) (cond b (Some w) (find (λ u. bytes_eq name u.0) vs)))
        (cond (bytes_eq name v.0) (Some v.1) None)
    by true h = refl
    by false h = h

-- the marks of one value more
marked_more : (vs : List ResolvedValue) (i : ℕ) (v : ResolvedValue) (again : Bool) (marks more : List Bool)
    → i < length vs → v ≡ get_or vs i v → again ≡ list_any (bytes_eq (name_of_value v)) (map name_of_value (take i vs))
    → more ≡ marks ++ again ∷ []
    → marks ++ again_behind bytes_eq name_of_value (take i vs) (drop i vs) ≡ repeated_names name_of_value vs
    → more ++ again_behind bytes_eq name_of_value (take (i + 1) vs) (drop (i + 1) vs) ≡ repeated_names name_of_value vs
marked_more vs i v again marks more within at is grown so_far = grind (arith, common_steps)

mapped_more : {A B : Type 0} (f : A → B) (vs : List A) (i : ℕ) (v : A) → i < length vs → v ≡ get_or vs i v
    → map f (take (i + 1) vs) ≡ map f (take i vs) ++ f v ∷ []
mapped_more f vs i v within at = grind (arith, common_steps)

-- the marks of all values
marked_all : (vs : List ResolvedValue) (i : ℕ) (marks all : List Bool) → length vs ≤ i
    → marks ++ again_behind bytes_eq name_of_value (take i vs) (drop i vs) ≡ all → marks ≡ all
marked_all vs i marks all past so_far = grind (arith, common_steps)

pub loop-resolved-init : goal.loop-resolved-init
unfolding number_named
loop-resolved-init c = record {
  room = omega (arith, c.in_ok-repeats.ensures.len, c.in_ok-repeats.ensures.capacity);
  repeats = rw c.in_ok-repeats.ensures.items refl;
  numbers = λ name. rw c.in_ok-numbers.ensures.empty refl;
}

pub loop-resolved-preserved : goal.loop-resolved-preserved
loop-resolved-preserved c =
    let r = c.resolved-item.result in
    let name = r.value.name.bytes in
    let value = value_over c.args.base c.args.flags in
    let values = c.args.values.now in
    let i = c.loop-resolved.resolved-index in
    let old = c.loop-resolved.numbers in
    let number = c.value_number-number.result in
    let name_is = ap (λ (v : EnumValue). v.name.bytes) c.value.view_is
    ∙ ap (λ (v : ResolvedValue). v.value.name.bytes) c.resolved.view_is in
    record {
      room = omega arith;
      repeats =
          let again : c.in_ok-note_number.field-0 ≡ list_any (bytes_eq name) (map name_of_value (take i values)) =
          c.in_ok-note_number.ensures.again
          ∙ ap (λ n. is_some (number_of old n))
          name_is
          ∙ ap is_some (c.loop-resolved.invariant.numbers name)
          ∙ named_again c.args.base c.args.flags (take i values) name in
          marked_more values i r c.in_ok-note_number.field-0 c.loop-resolved.repeats.items _ c.loop-resolved-test.true
          c.resolved-item.is again c.push_reserved.ensures.items c.loop-resolved.invariant.repeats;
      numbers = λ other.
          let more = mapped_more value values i r c.loop-resolved-test.true c.resolved-item.is in
          let same : (value r).1 ≡ number =
          sym
          (c.value_number-number.ensures
          ∙ ap (value_number c.args.base c.args.flags)
          (to_z-of_z w128 c.resolved.inside.number (search rules)
          ∙ ap (λ (v : ResolvedValue). v.number) c.resolved.view_is)) in
          let noted : number_of c.note_number.new.numbers other ≡ option_or (number_of old other)
          (cond (bytes_eq other name) (Some number) None) =
          c.in_ok-note_number.ensures.numbers other
          ∙ ap (λ n. option_or (number_of old other)
          (cond (bytes_eq other n) (Some (to_z w128 (of_z w128 number))) None)) name_is
          ∙ ap (λ n. option_or (number_of old other) (cond (bytes_eq other name) (Some n) None))
          (to_z-of_z w128 number (search rules)) in
          noted
          ∙ ap (λ o. option_or o (cond (bytes_eq other name) (Some number) None))
          (c.loop-resolved.invariant.numbers other)
          ∙ ap (λ n. option_or (number_named (map value (take i values)) other)
          (cond (bytes_eq other name) (Some n) None)) (sym same)
          ∙ sym (ap (λ vs. number_named vs other) more ∙ named_more (map value (take i values)) (value r) other);
    }

pub returns-clause-repeats : goal.returns-clause-repeats
returns-clause-repeats c = marked_all c.args.values.now c.loop-resolved.resolved-index c.loop-resolved.repeats.items _
    c.loop-resolved-test.false c.loop-resolved.invariant.repeats

pub returns-clause-numbers : goal.returns-clause-numbers
returns-clause-numbers c = λ name.
    c.loop-resolved.invariant.numbers name
    ∙ ap (λ vs. number_named (map (value_over c.args.base c.args.flags) vs) name)
    (take_all c.loop-resolved.resolved-index c.args.values.now c.loop-resolved-test.false)
