use Rattle.std.proofs.Common.{◌≡◌, ℕ, suc, false, List, slice_get, Some, option_map, option_copied}
use Rattle.std.proofs.Common.{string_bytes, map, sym, ap, ◌∙◌, rules}
use Rattle.std.proofs.lemmas.Option.{slice_get-map}
use Rattle.fb_schema.specs.Schema.{Name, DeclaredField, DeclaredBody, table_body, struct_body, union_body}
use Rattle.fb_schema.specs.Schema.{body_at, is_union}
use Rattle.fb_schema.specs.Seen.{field_seen, body_seen}
use Rattle.fb_schema.specs.Found.{fields_in}
use Rattle.fb_schema.proofs.Got.{got, got_of}
use Rattle.fb_conform.specs.Names.{name_in}
use Rattle.fb_conform.proofs.names.name_in.Goals as goal

member_name : (ms : List (Name × ℕ)) (k slot : ℕ) (m : Name × ℕ) → slot ≡ suc k → slice_get ms k ≡ Some m
    → Some m.0 ≡ name_in (union_body ms) slot
member_name ms k slot m next at = rw next (sym (ap (option_map (λ x. x.0)) at))

field_name : (body : DeclaredBody) (slot : ℕ) (f : DeclaredField) → is_union body ≡ false
    → slice_get (fields_in body) slot ≡ Some f → Some f.name ≡ name_in body slot
field_name (table_body fs) slot f other at = sym (ap (option_map (λ x. x.name)) at)
field_name (struct_body fs force) slot f other at = sym (ap (option_map (λ x. x.name)) at)
field_name _ slot f other at = absurd cc

pub returns-in_ok-get-in-Union : goal.returns-in_ok-get-in-Union
returns-in_ok-get-in-Union c =
    let items = c.in-Union.members.items in
    let ms : List (Name × ℕ) = map (λ m. (string_bytes m.0, m.1.0)) items in
    let was : body_at c.args.layout.now.schema c.args.owner.0 ≡ union_body ms =
    sym c.body_of.ensures.body ∙ ap body_seen c.in-Union.is in
    let k = c.in_ok-checked_sub-in-Union.field-0 in
    let next : c.args.slot ≡ suc k = search rules in
    let m = c.in_ok-get-in-Union.field-0.now in
    let at : slice_get ms k ≡ Some (string_bytes m.0, m.1.0) =
    slice_get-map (λ x. (string_bytes x.0, x.1.0)) items k
    ∙ ap (option_map (λ x. (string_bytes x.0, x.1.0)))
    (sym (got_of _ items k c.get.result c.deref.ensures.value c.get.ensures.lookup.0 c.get.ensures.lookup.1)
    ∙ ap option_copied c.in_ok-get-in-Union.was) in
    ap Some c.as_str.ensures.value ∙ member_name ms k c.args.slot (string_bytes m.0, m.1.0) next at
    ∙ ap (λ body. name_in body c.args.slot) (sym was)

pub returns-in_ok-get-in_default : goal.returns-in_ok-get-in_default
returns-in_ok-get-in_default c =
    let fs = c.fields_of.result.now in
    let seen : is_union (body_seen c.body_of.result.now) ≡ false = search rules in
    let f = c.in_ok-get-in_default.field-0.now in
    let there = got fs c.from-at.result c.get-in_default.result c.get-in_default.ensures.lookup.0
    c.get-in_default.ensures.lookup.1 in
    let at : slice_get (fields_in (body_at c.args.layout.now.schema c.args.owner.0)) c.args.slot
    ≡ Some (field_seen f) =
    ap (λ (k : ℕ). slice_get (fields_in (body_at c.args.layout.now.schema c.args.owner.0)) k) (sym c.from-at.ensures)
    ∙ ap (λ (ds : List DeclaredField). slice_get ds c.from-at.result) (sym c.fields_of.ensures.fields)
    ∙ slice_get-map field_seen fs c.from-at.result
    ∙ ap (option_map field_seen) (sym there ∙ ap option_copied c.in_ok-get-in_default.was) in
    ap Some c.as_str-in_default.ensures.value
    ∙ field_name _ c.args.slot (field_seen f) (ap is_union (sym c.body_of.ensures.body) ∙ seen) at
