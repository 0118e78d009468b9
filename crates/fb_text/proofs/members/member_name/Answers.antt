use Rattle.std.proofs.Common.{◌≡◌, ℕ, suc, [], List, String, Global, map, slice_get, Option, Some, None, string_bytes}
use Rattle.std.proofs.Common.{ap, sym, ◌∙◌, arith}
use Rattle.std.specs.Option.{option_map, unwrap_or}
use Rattle.std.proofs.lemmas.Option.{slice_get-map}
use Rattle.fb_schema.specs.declared.kinds.TypeId.{TypeId}
use Rattle.fb_schema.specs.Schema.{Name, DeclaredBody, body_at, members_in}
use Rattle.fb_schema.proofs.Got.{got}
use Rattle.fb_text.specs.Texts.{member_name}
use Rattle.fb_text.proofs.members.member_name.Goals as goal

seen : String Global × TypeId → Name × ℕ
seen m = (string_bytes m.0, m.1.0)

name_of : Option (Name × ℕ) → Name
name_of o = unwrap_or (option_map (λ m. m.0) o) []

-- the name of the member at a place, whose code is one more
named : (members : List (String Global × TypeId)) (at : ℕ) (o : Option (String Global × TypeId)) (body : DeclaredBody)
    (code : ℕ) → o ≡ slice_get members at → map (λ m. (string_bytes m.0, m.1.0)) members ≡ members_in body
    → suc at ≡ code → name_of (option_map seen o) ≡ member_name body code
unfolding seen name_of
named members at o body code there same next =
    ap (λ (p : Option (String Global × TypeId)). name_of (option_map seen p)) there
    ∙ (ap name_of (sym (slice_get-map seen members at) ∙ ap (λ (l : List (Name × ℕ)). slice_get l at) same)
    ∙ ap (member_name body) next)

pub returns : goal.returns
unfolding seen name_of
returns c =
    let members = c.members_of.result.now in
    let there = got members c.from.result (Some c.in-Some-get.member) c.in-Some-get.ensures.lookup.0
    c.in-Some-get.ensures.lookup.1 in
    let next : suc c.from.result ≡ c.args.code = omega (arith, c.in-Some.ensures, c.from.ensures) in
    c.as_str.ensures.value ∙ named members c.from.result (Some c.in-Some-get.member.now)
    (body_at c.args.schema.now c.args.union.0) c.args.code there c.members_of.ensures next

pub returns-in_default-get : goal.returns-in_default-get
unfolding seen name_of
returns-in_default-get c =
    let members = c.members_of.result.now in
    let there = rw c.in_default-get.is at (got members c.from.result c.get.result c.get.ensures.lookup.0
    c.get.ensures.lookup.1) in
    let next : suc c.from.result ≡ c.args.code = omega (arith, c.in-Some.ensures, c.from.ensures) in
    named members c.from.result None (body_at c.args.schema.now c.args.union.0) c.args.code there c.members_of.ensures
    next
