-- The machine value of a `Held`, taken apart and put together. Assumes `Logic`.
use Rattle.std.proofs.Common.{◌≡◌, List, [], ◌∷◌, ◌++◌, refl, ap, ◌∙◌, sym, subst, IsSome}
use lib.Dec.{T}
use seplogic.Ra.Ura.{Ura}
use mir.Val.{Val, vstruct, of_list}
use types.Logic.{Logic}
use types.Kit.{Item, Goal, Seq, Step, step, ‵, ◌$◌, drop, fsplit, fjoin, fpick, fpack, feq_i, feq_l}
use denote.Builtin.{RawPtr}
use denote.RattleType.{RattleType, Valss}
use denote.RawPtr.{Ptr, ptr_val}
use denote.Steps.{nothing}
use denote.Struct.Owning.{shape}
use denote.Struct.Struct.{within}
use Rattle.std.specs.Prelude.{Option, Some, None}
use Rattle.std_alloc.specs.Box.Ownership.{box_owns}
use Rattle.flatc_c.specs.Owned.{owned, freeable}
use Rattle.flatc_c.specs.contracts.held.Held as held
use Rattle.flatc_c.specs.contracts.kept.Kept as kept
use Rattle.flatc_c.proofs.Pointers.{lone}

abbrev pub Kept : RattleType
Kept = kept.the_row

abbrev pub Held : RattleType
Held = held.the_row

module _ {M : Type 1} {𝓤 : Ura M} {𝓛 : Logic 𝓤} {K : Type 0} {Γ : List (Item 𝓤)} {G : Goal 𝓤 𝓛.H} where
  pub held_out : K → (h : Held.Denot) (vs : List Val)
      → (vs ≡ lone h.at ∷ [] → Seq K 𝓛 (‵ (owned Kept h.at h.value) ∷ Γ) G)
      → Seq K 𝓛 (‵ (Held.own_val h vs) ∷ Γ) G
  held_out t h vs k = fsplit t $ fpick t (λ vss. fsplit t $ feq_l t (λ is. fsplit t $ feq_l t (λ one. drop t $
      k (is ∙ ap (λ (ps : List Val). vstruct (of_list (ps ++ [])) ∷ []) one))))

  pub held_in : K → (p : Ptr) (x : Option Kept.Denot)
      → Step K 𝓛 (‵ (Held.own_val (record { at = p; value = x }) (lone p ∷ [])) ∷ Γ) G (‵ (owned Kept p x) ∷ Γ) G
  held_in t p x = step (λ s. nothing t $ feq_i t (List Val) (ptr_val p ∷ []) (ptr_val p ∷ []) refl $ fjoin t $
      feq_i t (List Val) (lone p ∷ []) (lone p ∷ []) refl $ fjoin t $
      fpack t (Valss (RawPtr ∷ [])) (within (shape held.the_type) (p, tt) (lone p ∷ []))
      (ptr_val p ∷ [], tt) $ fjoin t $ s)

  -- a handle that isn't empty owns its value
  pub is_owned : K → (p : Ptr) (o : Option Kept.Denot) → IsSome o
      → ((x : Kept.Denot) → o ≡ Some x → Seq K 𝓛 (‵ (box_owns freeable Kept p x) ∷ Γ) G)
      → Seq K 𝓛 (‵ (owned Kept p o) ∷ Γ) G
  is_owned t p None some k = absurd (subst T (sym some) tt)
  is_owned t p (Some x) some k = k x refl
