use Rattle.std.proofs.Common.{◌≡◌, ◌++◌, ◌∷◌, [], List, length, slice_get, ap, refl, sym, subst, ◌∙◌}
use Rattle.std.proofs.lemmas.Option.{slice_get-map, slice_get_read}
use Rattle.std.specs.Option.{option_map}
use Rattle.fb_schema.specs.Schema.{DeclaredType, body_in, slots_in}
use Rattle.fb_schema.specs.Seen.{type_seen}
use Rattle.fb_layout.specs.Required.{HaveSmallNumbers, required_numbers}
use Rattle.fb_layout.proofs.required.NumbersOfEachType.{type_more, total_more}
use Rattle.fb_layout.proofs.required.RequiredSlots.of.Goals as goal

pub required_in-requires : goal.required_in-requires
required_in-requires c =
    let types = c.types-types.result.now in
    let i = c.loop-info.info-index in
    let at = slice_get_read types _ i c.info-item.result refl c.loop-info-test.true c.info-item.is in
    let type = ap (λ (ts : List DeclaredType). slice_get ts i) (sym c.types-types.ensures.types)
    ∙ slice_get-map type_seen types i ∙ ap (option_map type_seen) at in
    let slots = c.slots_in.ensures ∙ sym (ap (λ o. slots_in (body_in o)) type) in
    subst HaveSmallNumbers (sym slots) (c.requires i)

pub loop-info-preserved : goal.loop-info-preserved
loop-info-preserved c =
    let numbers = c.loop-info.numbers.items in
    let ends = c.loop-info.ends.items in
    let more = c.in_ok-more.more.items in
    let so_far = c.loop-info.invariant in
    let numbers_are : c.extend_from_slice.new.self.items ≡ numbers ++ more =
    c.in_ok-extend_from_slice.ensures.items ∙ ap (λ xs. numbers ++ xs) c.as_slice.ensures.value in
    let count : c.len.result ≡ length (numbers ++ more) =
    c.len.ensures ∙ (c.extend_from_slice.new.self.ok.0 ∙ ap length numbers_are) in
    let ends_are : c.push.new.self.items ≡ ends ++ length (numbers ++ more) ∷ [] =
    rw count at c.in_ok-push.ensures.items in
    let own : more ≡ required_numbers (slots_in (type_seen c.info-item.result).body) =
    c.in_ok-more.ensures ∙ ap required_numbers c.slots_in.ensures in
    record {
      total = rw (ends_are, numbers_are) (total_more ends (length (numbers ++ more)));
      have = rw (ends_are, numbers_are) (type_more c.types-types.result.now c.loop-info.info-index c.info-item.result
          numbers more ends c.loop-info-test.true c.info-item.is so_far.total so_far.have own);
    }
