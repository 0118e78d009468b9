-- The last slot of a declared table is no code: its union follows it.
use Rattle.std.proofs.Common.{◌≡◌, ℕ, zero, suc, Bool, true, false, List, [], ◌∷◌, slice_get, None, Some, refl}
use Rattle.fb_schema.specs.declared.kinds.TypeId.{TypeId}
use Rattle.fb_schema.specs.declared.kinds.Kind.TheVariants.{Code}
use Rattle.fb_schema.specs.declared.kinds.Shape.{Shape}
use Rattle.fb_schema.specs.declared.kinds.Shape.TheVariants.{One}
use Rattle.fb_schema.specs.Schema.{DeclaredField, DeclaredBody, table_body, DeclaredSchema, slots_in}
use Rattle.fb_schema.specs.WellDeclared.{IsBody}
use Rattle.fb_conform.proofs.laws.SlotsMeanTheCarriedEntries.{is_code}

abbrev pub EndsWhole : List DeclaredField → Type 0
EndsWhole [] = Unit {0}
EndsWhole (f ∷ []) = is_code f.deprecated f.shape ≡ false
EndsWhole (f ∷ g ∷ fs) = EndsWhole (g ∷ fs)

pub code_shape : (gone : Bool) (s : Shape) → is_code gone s ≡ true → (u : TypeId) × (s ≡ One (Code u))
code_shape false (One (Code u)) e = (u, refl)
code_shape _ _ e = absurd cc

abbrev Followed : List DeclaredField → Type 0
Followed fs = (k : ℕ) (f : DeclaredField) (u : TypeId) → slice_get fs k ≡ Some f → f.shape ≡ One (Code u)
    → (g : DeclaredField) × (slice_get fs (suc k) ≡ Some g)

ends_whole : (fs : List DeclaredField) → Followed fs → EndsWhole fs
ends_whole [] followed = tt
ends_whole (f ∷ []) followed = by (is_code f.deprecated f.shape) refl
  where
    by : (x : Bool) → is_code f.deprecated f.shape ≡ x → x ≡ false
    by false e = refl
    by true e =
        let code = code_shape f.deprecated f.shape e in
        let next = followed zero f code.0 refl code.1 in
        let bad : None ≡ Some next.0 = next.1 in absurd cc
ends_whole (f ∷ g ∷ fs) followed = ends_whole (g ∷ fs) (λ k h u e s. followed (suc k) h u e s)

pub slots_end_whole : (S : DeclaredSchema) (t : ℕ) (body : DeclaredBody) → IsBody S t body → EndsWhole (slots_in body)
slots_end_whole S t (table_body fs) is = ends_whole fs (λ k f u e s. let h = is.unions.followed k f u e s in (h.0, h.1))
slots_end_whole S t _ is = tt
