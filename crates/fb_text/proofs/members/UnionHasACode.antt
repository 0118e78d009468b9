-- The code of a union is printed in front of its member, and nothing of another value.
use Rattle.std.proofs.Common.{◌≡◌, ℕ, List, ◌++◌, [], codes, Bool, true, false, Option, Some, refl}
use Rattle.fb_schema.specs.Schema.{Name, DeclaredSchema, body_at}
use Rattle.fb_schema.specs.declared.kinds.Kind.TheVariants.{Union}
use Rattle.fb_schema.specs.declared.kinds.Shape.{Shape}
use Rattle.fb_schema.specs.declared.kinds.Shape.TheVariants.{One}
use Rattle.fb_schema.specs.declared.kinds.TypeId.{TypeId}
use Rattle.fb_value.specs.Datum.{Datum, a_member}
use Rattle.fb_text.specs.Texts.{code_text, has_code, member_line, member_name, in_quotes}
use Rattle.fb_text.specs.Shown.{IsTop}
use Rattle.fb_text.specs.declared.shown.ValueHead.{ValueHead}
use Rattle.fb_text.specs.declared.shown.ValueHead.TheVariants.{Absent, Number, Text, Vector}
use Rattle.fb_text.specs.declared.shown.ValueHead.TheVariants.{Struct, Table, Member, Unknown}

-- a member is found as one
found_member : (found : ValueHead) (code : ℕ) (d : Datum) → IsTop found (Some (a_member code d))
    → (x : ℕ) × (found ≡ Member x)
found_member (Member x) code d top = (x, refl)
found_member Absent code d top = absurd cc
found_member (Number n) code d top = absurd cc
found_member (Text s) code d top = absurd cc
found_member Vector code d (ds, is) = absurd cc
found_member Struct code d (ds, is) = absurd cc
found_member (Table t) code d (es, is) = absurd cc
found_member Unknown code d (x, is) = absurd cc

module _ (S : DeclaredSchema) (indent : Option (List ℕ)) (some : Bool) (name : Name) where
  bare : (shape : Shape) (d : Datum) → ((code : ℕ) (e : Datum) → d ≡ a_member code e → ⊥)
      → (code_text S indent some name shape d ≡ []) × (has_code shape d ≡ false)
  bare (One (Union u)) (a_member code d) is = absurd (is code d refl)
  bare _ _ is = (refl, refl)

  pub no_code : (shape : Shape) (found : ValueHead) (d : Datum) → ((code : ℕ) → found ≡ Member code → ⊥)
      → IsTop found (Some d) → (code_text S indent some name shape d ≡ []) × (has_code shape d ≡ false)
  no_code shape found d none top =
      bare shape d (λ code e is. let (x, member) = found_member found code e (rw is at top) in none x member)

  pub union_code : (shape : Shape) (u : TypeId) (found : ValueHead) (code : ℕ) (d : Datum) → shape ≡ One (Union u)
      → found ≡ Member code → IsTop found (Some d)
      → (member_line indent some name (codes "_type") ++ in_quotes (member_name (body_at S u.0) code)
      ≡ code_text S indent some name shape d) × (has_code shape d ≡ true)
  union_code shape u found code d union member top =
      let (e, is) = rw member at top in
      let same : d ≡ a_member code e = cc in
      rw (union, same) (refl, refl)
