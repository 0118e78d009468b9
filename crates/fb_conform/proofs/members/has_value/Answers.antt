use Rattle.std.proofs.Common.{rules, ◌≡◌, ◌↔◌, IsTrue, eqb, of_z, Some, string_bytes, false, true, sym, ap, ◌∙◌}
use Rattle.std.specs.Int.{w128}
use Rattle.fb_schema.specs.Schema.{DeclaredSchema, body_at}
use Rattle.fb_schema.specs.Found.{number_named}
use Rattle.fb_conform.proofs.members.ValueIsFoundByItsName.{value_found}
use Rattle.fb_conform.proofs.members.has_value.Goals as goal

pub returns-in-Some : goal.returns-in-Some
returns-in-Some c =
    let found = value_found c.args.layout.now.schema c.schema.ensures.made.declared c.args.enumeration.0
    c.args.value.now.1 (string_bytes c.args.value.now.0) in
    let told : c.number_of_name.result ≡ number_named (body_at c.args.layout.now.schema c.args.enumeration.0)
    (string_bytes c.args.value.now.0) =
    c.number_of_name.ensures
    ∙ ap (λ (S : DeclaredSchema). number_named (body_at S c.args.enumeration.0) c.as_str.result.now)
    c.schema.ensures.schema
    ∙ ap (λ name. number_named (body_at c.args.layout.now.schema c.args.enumeration.0) name)
    c.as_str.ensures.value in
    let same : IsTrue (eqb (of_z w128 c.in-Some.number) (of_z w128 c.args.value.now.1))
    ↔ (c.in-Some.number ≡ c.args.value.now.1) = search rules in
    let number : Some c.in-Some.number ≡ number_named (body_at c.args.layout.now.schema c.args.enumeration.0)
    (string_bytes c.args.value.now.0) = sym c.in-Some.is ∙ told in
    (λ e. found.0 (sym number ∙ ap Some (same.0 e)), λ there. same.1 (let known = found.1 there in cc))

pub returns-in-None : goal.returns-in-None
returns-in-None c =
    let found = value_found c.args.layout.now.schema c.schema.ensures.made.declared c.args.enumeration.0
    c.args.value.now.1 (string_bytes c.args.value.now.0) in
    let told : c.number_of_name.result ≡ number_named (body_at c.args.layout.now.schema c.args.enumeration.0)
    (string_bytes c.args.value.now.0) =
    c.number_of_name.ensures
    ∙ ap (λ (S : DeclaredSchema). number_named (body_at S c.args.enumeration.0) c.as_str.result.now)
    c.schema.ensures.schema
    ∙ ap (λ name. number_named (body_at c.args.layout.now.schema c.args.enumeration.0) name)
    c.as_str.ensures.value in
    (λ (e : false ≡ true). cc, λ there. let bad = found.1 there in cc)
