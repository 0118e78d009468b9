use Rattle.std.proofs.Common.{◌≡◌, ◌++◌, map, take, drop, ◌+◌, ◌≤◌, length, vec_len, vec_capacity}
use Rattle.std.specs.Str.{bytes_eq}
use Rattle.fb_resolve.specs.EnumValues.{name_of_value, value_over, IndexesValues}
use Rattle.fb_resolve.specs.RepeatedNames.{again_behind, repeated_names}
use Rattle.fb_resolve.proofs.enum_values.numbers_over.Given as goal

abbrev pub invariant-loop-resolved : goal.invariant-loop-resolved
invariant-loop-resolved l = let i = l.resolved-index in record {
  room : vec_len l.repeats + length l.values ≤ i + vec_capacity l.repeats;
  repeats : l.repeats.items ++ again_behind bytes_eq name_of_value (take i l.values)
      (drop i l.values) ≡ repeated_names name_of_value l.values;
  numbers : IndexesValues l.numbers (map (value_over l.base l.flags) (take i l.values));
}
