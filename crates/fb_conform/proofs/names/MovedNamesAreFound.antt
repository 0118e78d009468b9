-- Whether the name in a place is moved, by the name and what it stands for in the new type.
use Rattle.std.proofs.Common.{◌≡◌, ◌≢◌, ◌↔◌, ℕ, IsTrue, not, nat_eq, None, Some}
use Rattle.std.proofs.Common.{sym, ap, ◌∙◌, arith}
use Rattle.std.proofs.lemmas.Bool.Decides.{nat_tests}
use Rattle.fb_schema.specs.Schema.{Name, DeclaredBody, body_at}
use Rattle.fb_schema.specs.WellDeclared.{IsBody, IsDeclared}
use Rattle.fb_layout.specs.Laid.{LaidSchema}
use Rattle.fb_conform.specs.declared.names.MovedName.{MovedName}
use Rattle.fb_conform.specs.Names.{slot_named, name_in, IsMoved}
use Rattle.fb_conform.specs.Twins.{Twins}
use Rattle.fb_conform.proofs.laws.EachBodyIsDeclared.{is_body}
use Rattle.fb_conform.proofs.names.NamesHaveOneSlot.{name_stands, stands_in}
use Rattle.fb_conform.proofs.twins.TypesAreFoundByTheirNames.{one_twin, twin_declared}

pub apart : (j k : ℕ) → IsTrue (not (nat_eq j k)) ↔ (j ≢ k)
apart j k = (λ test same. grind (arith, nat_tests, test, same), λ differ. grind (arith, nat_tests, differ))

module _ (A B : LaidSchema) (declared : IsDeclared A.schema) (m : MovedName) (u : ℕ)
    (twins : Twins A.schema B.schema m.type_id.0 u) where
  abbrev body : DeclaredBody
  body = body_at A.schema m.type_id.0

  is : IsBody A.schema m.type_id.0 body
  is = is_body A.schema declared m.type_id.0 (twin_declared A.schema B.schema m.type_id.0 u twins)

  pub no_name : name_in body m.slot ≡ None → IsMoved A B m → ⊥
  no_name none moved =
      let bad : None ≡ Some moved.name =
      sym none ∙ stands_in A.schema m.type_id.0 body is moved.name m.slot moved.old in
      cc

  -- what the name stands for, if it is moved
  pub new_slot : (name : Name) → name_in body m.slot ≡ Some name → (moved : IsMoved A B m)
      → slot_named (body_at B.schema u) name ≡ Some moved.slot
  new_slot name here moved =
      let both : Some name ≡ Some moved.name =
      sym here ∙ stands_in A.schema m.type_id.0 body is moved.name m.slot moved.old in
      let same : name ≡ moved.name = cc in
      ap (slot_named (body_at B.schema u)) same
      ∙ ap (λ (w : ℕ). slot_named (body_at B.schema w) moved.name)
      (one_twin A.schema B.schema m.type_id.0 u moved.type twins moved.twins)
      ∙ moved.new

  pub moved_to : (name : Name) → name_in body m.slot ≡ Some name → (k : ℕ)
      → slot_named (body_at B.schema u) name ≡ Some k → IsMoved A B m ↔ (k ≢ m.slot)
  moved_to name here k new = (
    λ moved same.
        let both : Some k ≡ Some moved.slot = sym new ∙ new_slot name here moved in
        let one : k ≡ moved.slot = cc in
        moved.moved (sym one ∙ same),
    λ apart. record {
      name = name;
      type = u;
      slot = k;
      twins = twins;
      old = name_stands A.schema m.type_id.0 body is m.slot name here;
      new = new;
      moved = apart;
    },
  )
