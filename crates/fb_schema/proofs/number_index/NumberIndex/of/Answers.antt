use Rattle.std.proofs.Common.{◌≡◌, ◌++◌, ◌∷◌, [], String, Global, ℤ, length, map, string_bytes, ap, sym, arith, ◌∙◌}
use Rattle.std.proofs.Common.{length-append}
use Rattle.std.proofs.lemmas.Simd.{map-map}
use Rattle.fb_schema.specs.Schema.{Name}
use Rattle.fb_schema.specs.Seen.{type_seen}
use Rattle.fb_schema.specs.Indexed.{inner_numbers}
use Rattle.fb_schema.proofs.NumbersIndexed.{type_more}
use Rattle.fb_schema.proofs.number_index.NumberIndex.of.Goals as goal

abbrev seen : String Global × ℤ → Name × ℤ
seen v = (string_bytes v.0, v.1)

pub loop-info-preserved : goal.loop-info-preserved
loop-info-preserved c =
    let places = c.loop-info.places.items in
    let firsts = c.loop-info.firsts.items in
    let more = c.in_ok-more.more.items in
    let numbers : inner_numbers (type_seen c.info-item.result).body ≡ map (λ v. v.1) c.values_of.result.now =
    ap (map (λ v. v.1)) (sym c.values_of.ensures) ∙ map-map (λ v. v.1) seen c.values_of.result.now in
    let places_are : c.extend_from_slice.new.self.items ≡ places ++ more =
    c.in_ok-extend_from_slice.ensures.items ∙ ap (λ xs. places ++ xs) c.as_slice.ensures.value in
    let count : c.len.result ≡ length places = c.len.ensures ∙ c.loop-info.places.ok.0 in
    let firsts_are : c.push.new.self.items ≡ firsts ++ length places ∷ [] = rw count at c.in_ok-push.ensures.items in
    record {
      count = rw firsts_are (omega (arith, c.loop-info.invariant.count, length-append firsts (length places ∷ [])));
      each = rw (places_are, firsts_are) (type_more c.args.types.now c.loop-info.info-index c.info-item.result places
          more firsts c.loop-info-test.true c.info-item.is c.loop-info.invariant.count c.loop-info.invariant.each
          (rw numbers c.in_ok-more.ensures));
    }
