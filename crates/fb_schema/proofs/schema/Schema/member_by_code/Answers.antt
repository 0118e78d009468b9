use Rattle.std.proofs.Common.{◌≡◌, ℕ, zero, suc, [], None, Some, refl, ap, sym, ◌∙◌}
use Rattle.fb_schema.specs.Schema.{DeclaredBody, table_body}
use Rattle.fb_schema.specs.Found.{member_coded}
use Rattle.fb_schema.proofs.Got.{got_of}
use Rattle.fb_schema.proofs.LookUps.{body_there, no_body}
use Rattle.fb_schema.proofs.schema.Schema.member_by_code.Goals as goal

no_member : (code : ℕ) → None ≡ member_coded (table_body []) code
no_member zero = refl
no_member (suc k) = refl

pub returns-in_err-info : goal.returns-in_err-info
returns-in_err-info c =
    let s = c.self.inside in
    let none = got_of c.deref.result.now s.types.items c.args.union.0 None c.deref.ensures.value
    c.in_err-info.ensures.lookup.0 c.in_err-info.ensures.lookup.1 in
    rw (c.from_residual.ensures, ← c.self.view_is)
    (no_member c.args.code
    ∙ ap (λ (b : DeclaredBody). member_coded b c.args.code) (sym (no_body s.types.items c.args.union.0 none)))

pub returns : goal.returns
returns c =
    let s = c.self.inside in
    let info = c.in_ok-info.info in
    let there = got_of c.deref.result.now s.types.items c.args.union.0
    (Some info) c.deref.ensures.value c.in_ok-info.ensures.lookup.0 c.in_ok-info.ensures.lookup.1 in
    rw (← c.self.view_is)
    (c.member_in.ensures ∙ ap (λ (b : DeclaredBody). member_coded b c.args.code)
    (sym (body_there s.types.items c.args.union.0 info.now there)))
