-- A box of the heap as its pointer: the machine value of a `Loose`, and what a call over boxes passes for the heap.
-- Assumes `Logic`.
use Rattle.std.proofs.Common.{◌≡◌, ℕ, List, [], ◌∷◌, ◌++◌, refl, ap, ◌∙◌}
use seplogic.Ra.Ura.{Ura}
use mir.Raw.{raw as bare}
use mir.Syntax.{Ty, Dict, impl, ty_struct, ty_unit, tnil, tcons, dnil}
use mir.Val.{Val, vptr, vstruct, vcons, vnil, of_list}
use base.Logic.{never, fst∗}
use types.Logic.{Logic, sem}
use types.Kit.{Item, Goal, Seq, Step, step, ‵, ◌$◌, drop, fsplit, fjoin, fpick, fpack, feq_i, feq_l}
use denote.Builtin.{RawPtr}
use denote.Exit.{no}
use denote.Memory.{lone as lone_ty}
use denote.Param.{layout, arg}
use denote.Param.Laws.{Laws, arg_laws}
use denote.RattleType.{RattleType, Valss}
use denote.RawPtr.{Ptr, block_ptr, null_ptr, ptr_val, in_a_block}
use denote.Steps.{nothing}
use denote.Struct.Owning.{shape}
use denote.Struct.Struct.{within}
use Rattle.std.proofs.alloc.Global.TheLaws as heap_laws
use Rattle.std.specs.contracts.alloc.Global as heap_type
use Rattle.std.specs.contracts.impls.GlobalAllocator.TheImpl.{ghosts, dict}
use Rattle.std_alloc.proofs.BoxSteps.Form.{Bx}
use Rattle.std_alloc.specs.Box.Ownership.{box_owns}
use Rattle.std_alloc.specs.contracts.boxed.Box as box_type
use Rattle.flatc_c.specs.Owned.{freeable}
use Rattle.flatc_c.specs.contracts.loose.Loose as loose

-- a struct of one pointer
abbrev pub lone : Ptr → Val
lone p = vstruct (vcons (ptr_val p) vnil)

abbrev pub heap_layout : Ty
heap_layout = ty_struct [] (tcons (ty_struct [] (tcons ty_unit tnil)) tnil)

-- the heap, as the calls of a box pass it
abbrev pub Heap : RattleType
Heap = arg heap_layout no heap_type.the_row

abbrev pub Heap-laws : Laws Heap
Heap-laws = arg_laws heap_layout no heap_type.the_row heap_laws.the_row_laws refl

abbrev pub heap_drop : Dict
heap_drop = impl ("flatc_c::Destruct++none::drop" ∷ []) (tcons (layout Heap) tnil) dnil

abbrev pub boxed : (T : RattleType) → Laws T → Bx
boxed T L = record {
  row = T;
  laws = L;
  al = record
      { row = Heap; laws = Heap-laws; g = ghosts; d = dict; drops = heap_drop };
}

module _ (R : RattleType) where
  abbrev pub Boxed : RattleType
  Boxed = box_type.the_row R heap_type.the_row ghosts

  abbrev pub Loose : RattleType
  Loose = loose.the_row R

  module _ {M : Type 1} {𝓤 : Ura M} {𝓛 : Logic 𝓤} {K : Type 0} {Γ : List (Item 𝓤)} {G : Goal 𝓤 𝓛.H} where
    -- nothing that a box owns is at null
    pub at_block : K → (p : Ptr) (x : R.Denot)
        → ((b o : ℕ) → p ≡ block_ptr b o → Seq K 𝓛 (‵ (box_owns freeable R (block_ptr b o) x) ∷ Γ) G)
        → Seq K 𝓛 (‵ (box_owns freeable R p x) ∷ Γ) G
    at_block t p x k = in_a_block t p (λ at. box_owns freeable R at x)
        (fst∗ 𝓤 (never 𝓤) (sem 𝓛 (freeable (bare (lone_ty R.mir)) null_ptr))) k

    pub loose_out : K → (l : Loose.Denot) (vs : List Val)
        → (vs ≡ lone l.at ∷ [] → Seq K 𝓛 (‵ (box_owns freeable R l.at l.value) ∷ Γ) G)
        → Seq K 𝓛 (‵ (Loose.own_val l vs) ∷ Γ) G
    loose_out t l vs k = fsplit t $ fpick t (λ vss. fsplit t $ feq_l t (λ is. fsplit t $ feq_l t (λ one. drop t $
        k (is ∙ ap (λ (ps : List Val). vstruct (of_list (ps ++ [])) ∷ []) one))))

    pub loose_in : K → (p : Ptr) (x : R.Denot)
        → Step K 𝓛 (‵ (Loose.own_val (record { at = p; value = x }) (lone p ∷ [])) ∷ Γ) G
        (‵ (box_owns freeable R p x) ∷ Γ) G
    loose_in t p x = step (λ s. nothing t $ feq_i t (List Val) (ptr_val p ∷ []) (ptr_val p ∷ []) refl $ fjoin t $
        feq_i t (List Val) (lone p ∷ []) (lone p ∷ []) refl $ fjoin t $
        fpack t (Valss (RawPtr ∷ [])) (within (shape (loose.the_type R)) (p, tt) (lone p ∷ []))
        (ptr_val p ∷ [], tt) $ fjoin t $ s)
