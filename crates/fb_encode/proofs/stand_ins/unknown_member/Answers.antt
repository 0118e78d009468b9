use Rattle.std.proofs.Common.{◌≡◌, ◌∙◌, ◌&&◌, Bool, Option, None, Some, Bor, false, is_some, option_copied, option_map}
use Rattle.std.proofs.Common.{string_bytes, ap, refl, sym}
use Rattle.serde_json.specs.View.{members_view}
use Rattle.serde_json.proofs.Views.{view-Object}
use Rattle.fb_schema.specs.declared.types.FieldInfo.{FieldInfo}
use Rattle.fb_schema.specs.Found.{field_named}
use Rattle.fb_schema.specs.Schema.{DeclaredSchema, Name, body_at}
use Rattle.fb_schema.specs.Seen.{field_seen}
use Rattle.fb_json.specs.Meant.{is_used, names_known}
use Rattle.fb_encode.proofs.slot_texts.OneMemberMore.{known_put}
use Rattle.fb_encode.proofs.stand_ins.unknown_member.Goals as goal

unused : (o : Option (Bor FieldInfo)) → is_some o ≡ false → is_used (option_map field_seen (option_copied o)) ≡ false
unused None is = refl
unused (Some f) is = absurd cc

pub returns : goal.returns
returns c =
    let t = c.args.owner.0 in
    let body = body_at c.args.source.layout.now.schema t in
    let members = members_view c.new-members.result.entries in
    let name : Name = string_bytes c.new-name.result in
    let found : field_named body name ≡ option_map field_seen (option_copied c.field_by_name.result) =
    sym (c.field_by_name.ensures
    ∙ (ap (λ (s : DeclaredSchema). field_named (body_at s t) c.as_str.result.now) c.schema.ensures.schema
    ∙ ap (field_named body) c.as_str.ensures.value)) in
    let none : is_used (field_named body name) ≡ false =
    ap is_used found ∙ unused c.field_by_name.result (sym c.is_some.ensures ∙ c.if-is_some.false) in (
      members_view c.put_member.new.object.entries,
      view-Object c.put_member.new.object,
      ap (names_known body) c.in_ok-put_member.ensures
          ∙ (known_put body name _ members ∙ ap (λ (b : Bool). b && names_known body members) none),
    )
