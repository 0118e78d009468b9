use Rattle.std.proofs.Common.{◌≡◌, ◌+◌, ℕ, suc, false, List, String, Global, map, position, None, Some}
use Rattle.std.proofs.Common.{bytes_eq, codes, string_bytes, ap, sym, ◌∙◌, arith, refl}
use Rattle.fb_schema.specs.declared.kinds.TypeId.{TypeId}
use Rattle.fb_schema.specs.Schema.{Name, DeclaredBody, union_body}
use Rattle.fb_schema.specs.Seen.{body_seen}
use Rattle.fb_schema.specs.Indexed.{inner_names}
use Rattle.fb_schema.proofs.LookUps.{union_of, code_through, keys_seen}
use Rattle.fb_schema.proofs.finding.code_in.Goals as goal

abbrev seen : String Global × TypeId → Name × ℕ
seen m = (string_bytes m.0, m.1.0)

module _ (members : List (String Global × TypeId)) (body : DeclaredBody) (is : body ≡ union_body (map seen members))
    (name : Name) where
  -- the names of a union's members are the names in it
  names_are : inner_names body ≡ map (λ m. string_bytes m.0) members
  names_are = ap inner_names is ∙ sym (keys_seen seen (λ m. m.0) (bytes_eq name) members (map seen members) refl)

pub position-requires-clause-indexed : goal.position-requires-clause-indexed
position-requires-clause-indexed c =
    let body = body_seen c.args.body.now in
    rw (← (names_are c.in_ok-members.members.now body (union_of body _ c.in_ok-members.ensures) c.args.name.now))
    c.requires.indexed

pub position-requires-clause-distinct : goal.position-requires-clause-distinct
position-requires-clause-distinct c =
    let body = body_seen c.args.body.now in
    rw (← (names_are c.in_ok-members.members.now body (union_of body _ c.in_ok-members.ensures) c.args.name.now))
    c.requires.distinct.names

pub returns-in_err-at : goal.returns-in_err-at
returns-in_err-at c =
    let body = body_seen c.args.body.now in
    let members = c.in_ok-members.members.now in
    let other : bytes_eq c.args.name.now (codes "NONE") ≡ false = sym c.eq.ensures ∙ c.if-eq.false in
    let place = c.in_err-at.ensures ∙ ap (position (bytes_eq c.args.name.now))
    (keys_seen seen (λ m. m.0) (bytes_eq c.args.name.now) members (map seen members) refl) in
    rw c.from_residual-in_err-at.ensures (code_through body (map seen members) c.args.name.now None
    (union_of body _ c.in_ok-members.ensures) place other)

pub returns : goal.returns
returns c =
    let body = body_seen c.args.body.now in
    let members = c.in_ok-members.members.now in
    let other : bytes_eq c.args.name.now (codes "NONE") ≡ false = sym c.eq.ensures ∙ c.if-eq.false in
    let next : c.in_ok-at.at + 1 ≡ suc c.in_ok-at.at = omega arith in
    let place = c.in_ok-at.ensures ∙ ap (position (bytes_eq c.args.name.now))
    (keys_seen seen (λ m. m.0) (bytes_eq c.args.name.now) members (map seen members) refl) in
    ap Some next ∙ code_through body (map seen members) c.args.name.now (Some c.in_ok-at.at)
    (union_of body _ c.in_ok-members.ensures) place other
