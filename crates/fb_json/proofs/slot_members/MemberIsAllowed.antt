-- Whether each name is known, one member after the other.
use Rattle.std.proofs.Common.{◌≡◌, ◌∙◌, Bool, true, false, ◌||◌, ◌&&◌, ℕ, Option, refl, ap}
use Rattle.serde_json.specs.Data.{Data, Members, member, no_members}
use Rattle.fb_schema.specs.Schema.{Name, DeclaredField, DeclaredSchema, body_at}
use Rattle.fb_schema.specs.Found.{field_named}
use Rattle.fb_json.specs.Meant.{is_used, names_known}

next : (unknown used rest : Bool) → (unknown || used) ≡ true → (unknown || (used && rest)) ≡ (unknown || rest)
next true used rest h = refl
next false true rest h = refl
next false false rest h = cc

none : (unknown used rest : Bool) → (unknown || used) ≡ false → (unknown || (used && rest)) ≡ false
none true used rest h = cc
none false true rest h = cc
none false false rest h = refl

module _ (S seen : DeclaredSchema) (t : ℕ) (name asked : Name) (d : Data) (ms : Members) (unknown : Bool)
    (o : Option DeclaredField) (is : seen ≡ S) (same : asked ≡ name) (answer : o ≡ field_named (body_at seen t) asked)
  where
    found : o ≡ field_named (body_at S t) name
    found = answer ∙ (ap (λ (s : DeclaredSchema). field_named (body_at s t) asked) is
        ∙ ap (field_named (body_at S t)) same)

    pub allowed_next : (unknown || is_used o) ≡ true → (unknown || names_known (body_at S t) (member name d ms))
        ≡ (unknown || names_known (body_at S t) ms)
    unfolding names_known
    allowed_next allowed = next unknown (is_used (field_named (body_at S t) name)) (names_known (body_at S t) ms)
        (rw (← found) allowed)

    pub not_allowed : (unknown || is_used o) ≡ false → (unknown || names_known (body_at S t) (member name d ms)) ≡ false
    unfolding names_known
    not_allowed unknown_name = none unknown (is_used (field_named (body_at S t) name)) (names_known (body_at S t) ms)
        (rw (← found) unknown_name)

pub none_left : (S : DeclaredSchema) (t : ℕ) (unknown : Bool) → (unknown || names_known (body_at S t) no_members) ≡ true
unfolding names_known
none_left S t true = refl
none_left S t false = refl
