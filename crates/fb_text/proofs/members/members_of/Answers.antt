use Rattle.std.proofs.Common.{Option, Bor, List, String, Global, ℕ, None, Some, [], ◌≡◌, map, string_bytes, refl}
use Rattle.std.proofs.Common.{ap, ◌∙◌}
use Rattle.std.specs.Option.{option_map, unwrap_or}
use Rattle.fb_schema.specs.declared.kinds.TypeId.{TypeId}
use Rattle.fb_schema.specs.Schema.{Name, members_in}
use Rattle.fb_schema.specs.Seen.{body_seen}
use Rattle.fb_text.proofs.names.TypeAtItsNumber.{body_there, members_asked}
use Rattle.fb_text.proofs.members.members_of.Goals as goal

abbrev Members : Type 0
Members = List (String Global × TypeId)

abbrev seen : Members → List (Name × ℕ)
seen members = map (λ m. (string_bytes m.0, m.1.0)) members

seen_or_none : (o : Option (Bor Members)) (none : Bor Members) → none.now ≡ []
    → seen (unwrap_or o none).now ≡ unwrap_or (option_map (λ l. seen l.now) o) []
seen_or_none None none empty = ap seen empty
seen_or_none (Some l) none empty = refl

pub returns-in-Some : goal.returns-in-Some
returns-in-Some c =
    let there = body_there c.types.result.now c.args.schema.now c.args.union.0 c.get.result c.types.ensures.types
    c.get.ensures.lookup.0 c.get.ensures.lookup.1 in
    ap (λ (l : Bor Members). seen l.now) c.unwrap_or.ensures
    ∙ (seen_or_none c.as_union.result _ refl
    ∙ (ap (λ o. unwrap_or o []) c.as_union.ensures
    ∙ (members_asked (body_seen c.in-Some.info.now.body) ∙ ap members_in (rw c.in-Some.is at there))))

pub returns-in-None : goal.returns-in-None
returns-in-None c =
    let there = body_there c.types.result.now c.args.schema.now c.args.union.0 c.get.result c.types.ensures.types
    c.get.ensures.lookup.0 c.get.ensures.lookup.1 in
    ap members_in (rw c.in-None.is at there)
