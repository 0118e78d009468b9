use Rattle.std.proofs.Common.{◌≡◌, length, map, string_bytes, ap, ◌∙◌}
use Rattle.std.proofs.lemmas.Simd.{map-map}
use Rattle.fb_schema.specs.Seen.{type_seen}
use Rattle.fb_schema.proofs.NamesIndexed.{still_at}
use Rattle.fb_schema.proofs.name_index.NameIndex.of.Goals as goal

pub returns-clause-types : goal.returns-clause-types
returns-clause-types c =
    let types = c.args.types.now in
    let none : length c.reserve.new.self.keys ≡ 0 = ap length (c.reserve.ensures.keys ∙ c.new-digests.ensures) in
    let names : map (λ t. t.name) (map type_seen types) ≡ map (λ t. string_bytes t.name) types =
    map-map (λ t. t.name) type_seen types in
    let first = rw none at c.in_ok-push_names.ensures.at in
    record {
      full = rw names (still_at c.push_names.new.digests.keys c.push_all_inner_names.new.digests.keys c.args.key 0
          (map (λ t. string_bytes t.name) types) c.in_ok-firsts.ensures.kept first);
      inner = c.in_ok-firsts.ensures.inner;
    }
