use Rattle.std.proofs.Common.{List, map, ap, subst, ◌∙◌}
use Rattle.fb_schema.specs.declared.types.TypeInfo.{TypeInfo}
use Rattle.fb_schema.specs.Seen.{type_seen}
use Rattle.fb_schema.specs.Indexed.{IndexesNumbers, IndexesTypes}
use Rattle.fb_schema.specs.Keys.{key_of_types}
use Rattle.fb_schema.proofs.schema.Schema.new.Goals as goal

pub invariant_of-result : goal.invariant_of-result
invariant_of-result c =
    record {
      declared = c.requires;
      keyed = c.in_ok-names.ensures.key ∙ (c.key_of_types-key.ensures
          ∙ ap (λ (l : List TypeInfo). key_of_types (map type_seen l)) c.as_slice.ensures.value);
      names = subst (λ (l : List TypeInfo). IndexesTypes c.in_ok-names.names (map type_seen l))
          c.as_slice-2.ensures.value c.in_ok-names.ensures.types;
      numbers = subst (λ (l : List TypeInfo). IndexesNumbers c.in_ok-numbers.numbers (map type_seen l))
          c.as_slice-3.ensures.value c.in_ok-numbers.ensures;
    }
