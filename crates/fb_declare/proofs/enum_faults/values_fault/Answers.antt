use Rattle.std.proofs.Common.{◌≡◌, refl, FitsSigned, true, cond, not, ◌∙◌, ◌||◌, rules, ap, sym, map, take}
use Rattle.std.proofs.Common.{arith}
use Rattle.std.proofs.lemmas.List.{take_all}
use Rattle.std.specs.Int.{w128}
use Rattle.std.specs.List.{list_any}
use Rattle.std.proofs.Math.Bool.{not-not}
use Rattle.std.proofs.lemmas.Cmp.{int_eq_equiv}
use Rattle.std.proofs.lemmas.Int.{to_z-of_z}
use Rattle.std.specs.Ordering.{int_eq}
use Rattle.std.specs.Str.{bytes_eq}
use Rattle.fb_declare.specs.declared.faults.SchemaFault.TheVariants.{DuplicateName, BadEnumValue}
use Rattle.fb_declare.specs.Faults.{least_of}
use Rattle.fb_declare.specs.FaultRows.{when}
use Rattle.fb_declare.specs.EnumFaults.{is_out_of_range, value_faults}
use Rattle.fb_resolve.specs.RepeatedNames.{is_again, repeated_names}
use Rattle.fb_resolve.specs.EnumValues.{name_of_value}
use Rattle.fb_declare.proofs.TypesKept.{told_among}
use Rattle.fb_declare.proofs.Least.{least_of_append, least_more, map-taken, list_any-snoc, one_more}
use Rattle.fb_declare.proofs.enum_faults.values_fault.Goals as goal

pub bounds-repeats-place : goal.bounds-repeats-place
bounds-repeats-place c =
    (told_among name_of_value c.as_slice-repeats.result.now c.as_slice-values.result.now c.loop-place.place
    c.index-values-place.result
    (c.as_slice-repeats.ensures.value ∙ c.of_enum.invariant.1
    ∙ ap (repeated_names name_of_value) (sym c.as_slice-values.ensures.value)) c.loop-place-test.true
    c.index-values-place.is).0

pub loop-place-preserved : goal.loop-place-preserved
loop-place-preserved c =
    let values = c.as_slice-values.result.now in
    let base = c.of_enum.inside.base in
    let flags = c.of_enum.inside.bit_flags in
    let i = c.loop-place.place in
    let v = c.index-values-place.result in
    let h = c.loop-place-test.true in
    let e = c.index-values-place.is in
    let named_again = (told_among name_of_value c.as_slice-repeats.result.now values i v
    (c.as_slice-repeats.ensures.value ∙ c.of_enum.invariant.1
    ∙ ap (repeated_names name_of_value) (sym c.as_slice-values.ensures.value)) h e).1 in
    let m = v.number in
    let keys = c.loop-place.numbers.keys in
    let number : c.resolved.inside.number ≡ m = grind rules in
    let own : FitsSigned w128 c.resolved.inside.number = grind rules in
    let fits : FitsSigned w128 m = grind rules in
    let name_faults = when (is_again bytes_eq name_of_value (take i values) v) (DuplicateName v.value.name.at) in
    let number_faults = when (is_out_of_range base flags m || is_again int_eq (λ v. v.number) (take i values) v)
    (BadEnumValue v.value.name.at) in
    let again : not c.in_ok-is_new.is_new ≡ list_any (int_eq m) keys =
    rw (c.in_ok-is_new.ensures.added, not-not, to_z-of_z w128 c.resolved.inside.number own, number) refl in
    let at : c.name.inside.at ≡ v.value.name.at = grind rules in
    let bad_name : c.fault_if-bad_name.result ≡ least_of name_faults = rw
    (c.fault_if-bad_name.ensures, named_again, at) refl in
    let bad_number : c.fault_if-bad_number.result ≡ least_of number_faults =
    grind (rules, again, c.loop-place.invariant.numbers m) in
    record {
      least = rw (
        c.earlier_fault-least.ensures,
        c.earlier_fault.ensures,
        bad_name,
        bad_number,
        c.loop-place.invariant.least,
        ← least_of_append name_faults number_faults,
      )
          (least_more (value_faults base flags) values i v h e);
      numbers = λ n.
          let met = list_any (int_eq n) keys in
          let more : list_any (int_eq n) c.insert.new.self.keys ≡ cond (int_eq m n) true met =
          grind (rules, c.in_ok-is_new.ensures.updates.0 n, to_z-of_z w128 m fits) in
          more ∙ one_more (int_eq m n) met ∙ ap (λ b. met || b) (int_eq_equiv.symm m n)
          ∙ ap (λ b. b || int_eq n m) (c.loop-place.invariant.numbers n)
          ∙ sym (ap (list_any (int_eq n)) (map-taken (λ v. v.number) values i v h e)
          ∙ list_any-snoc (int_eq n) (map (λ v. v.number) (take i values)) m);
    }

pub returns : goal.returns
returns c =
    let values = c.as_slice-values.result.now in
    let all = take_all c.loop-place.place values (omega (arith, c.loop-place-test.false)) in
    rw (← c.of_enum.view_is, ← c.as_slice-values.ensures.value, ← all) c.loop-place.invariant.least
