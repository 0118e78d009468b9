use Rattle.std.proofs.Common.{◌≡◌, ℕ, suc, List, String, Global, map, slice_get, Option, Some, string_bytes, ap, sym}
use Rattle.std.proofs.Common.{◌∙◌, arith}
use Rattle.std.specs.Option.{option_map}
use Rattle.std.proofs.lemmas.Option.{slice_get-map}
use Rattle.fb_schema.specs.declared.kinds.TypeId.{TypeId}
use Rattle.fb_schema.specs.Schema.{Name, DeclaredBody, members_in}
use Rattle.fb_schema.specs.Seen.{body_seen}
use Rattle.fb_schema.specs.Found.{member_coded}
use Rattle.fb_schema.proofs.Got.{got}
use Rattle.fb_schema.proofs.finding.member_in.Goals as goal

seen : String Global × TypeId → Name × ℕ
seen m = (string_bytes m.0, m.1.0)

-- the table of the member at a place, whose code is one more
member_at : (members : List (String Global × TypeId)) (at : ℕ) (member : String Global × TypeId) (body : DeclaredBody)
    (code : ℕ) → Some member ≡ slice_get members at
    → map (λ m. (string_bytes m.0, m.1.0)) members ≡ members_in body → suc at ≡ code
    → Some member.1.0 ≡ member_coded body code
unfolding seen
member_at members at member body code there same next =
    let first : Some member.1.0 ≡ member_coded body (suc at) =
    ap (λ (o : Option (String Global × TypeId)). option_map (λ m. m.1) (option_map seen o)) there
    ∙ ap (option_map (λ m. m.1)) (sym (slice_get-map seen members at)
    ∙ ap (λ (l : List (Name × ℕ)). slice_get l at) same) in
    first ∙ ap (member_coded body) next

pub returns : goal.returns
returns c =
    let members = c.members_of.result.now in
    let member = c.in_ok-member.member in
    let there = got members c.from.result (Some member) c.in_ok-member.ensures.lookup.0 c.in_ok-member.ensures.lookup.1
    in
    let next : suc c.from.result ≡ c.args.code = omega (arith, c.in_ok-at.ensures, c.from.ensures) in
    member_at members c.from.result member.now (body_seen c.args.body.now) c.args.code there c.members_of.ensures next
