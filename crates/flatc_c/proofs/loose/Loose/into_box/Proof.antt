-- `into_box` makes the box of its pointer again.
use Rattle.std.proofs.Common.{◌≡◌, List, [], ◌∷◌, ◌++◌, refl, sym, ap, ◌∙◌, subst}
use mir.MapTy.{inst_fn}
use mir.Syntax.{a_type, dcons, dnil}
use mir.Val.{Val, vptr}
use base.Fml.{ftrue, fsep, flft}
use base.Fraction.{full_share}
use base.Logic.{SProp, emp, id⊢}
use prog.Wp.{WpFn}
use types.ByLocal.{alloc_all, pass_all, free_all, look_at, get, get_in, sets, lands_last, env}
use types.Kit.{‵, raw, ◌⊛◌, some, later, at_ret, ◌$◌, ◌∵◌, !, qed, move, keep, drop, split, join, fsplit, fjoin, pick}
use types.Kit.{suffices, use0, use1, await, rewrite, feq_i, done}
use types.Part.{sub, whole}
use types.Run.{stop, fld, of_opd, no_more, and_then, first, blocks, exec, returns, enter}
use contract.BorrowLft.{◌⊑◌, ⊑_refl}
use contract.Monad.{fact, fact_i}
use contract.Running.{tables}
use denote.Exit.{yes, no}
use denote.Param.{param, bounded, layout}
use denote.RawPtr.{Ptr, block_ptr, ptr_val}
use denote.Signature.{plain}
use denote.Steps.{nothing, only, heard}
use denote.Triple.Call.{calls_at_last}
use denote.Triple.Clauses.{Lasts, lasts}
use denote.Triple.Spec.{triple_of}
use denote.Triple.Table.{framed}
use denote.Triple.Walked.{Stays, stay_dropped, walk_of, Goes-dropped, says, ends_at}
use denote.Param.NoDrop as no_drop
use Rattle.core.proofs.alloc.Calls.{Goes-blank, handle_tells}
use Rattle.core.proofs.alloc.Shapes.{after}
use Rattle.core.proofs.cell.Inside.{Good}
use Rattle.std.proofs.impls.GlobalAllocator.TheImpl.Met as heap_met
use Rattle.std.proofs.raw_atomic.Walks.{proved_at}
use Rattle.std.specs.contracts.alloc.Global as heap_type
use Rattle.std.specs.contracts.impls.GlobalAllocator.TheImpl.{ghosts, dict}
use Rattle.std_alloc.proofs.BoxSteps.Form as box
use Rattle.std_alloc.proofs.BoxSteps.Steps.{box_out, box_in}
use Rattle.std_alloc.proofs.boxed.Box.from_raw.Met.{met}
use Rattle.std_alloc.specs.contracts.boxed.Box.from_raw as callee
use Rattle.flatc_c.proofs.Pointers.{lone, Loose, Boxed, Heap, Heap-laws, heap_drop, boxed, at_block, loose_out}
use Rattle.flatc_c.specs.contracts.loose.Loose.into_box as f
use Rattle.flatc_c.proofs.loose.Loose.into_box.Statement.{statement}
use Rattle.flatc_c.proofs.loose.Loose.into_box.Code as code
use Rattle.flatc_c.proofs.Destruct++none.drop.Code as drop_of_none

pub into_box_spec : {M : Type 1} → statement M
unfolding drop_of_none.code
into_box_spec 𝓤 𝓛 𝓜 𝓡 wired T L dx glue =
    let 𝓣 = tables 𝓤 𝓛.H 𝓜 𝓡 𝓡.env in let E = boxed T L in let R = param 0 T in let B = Boxed R in
    let inst = bounded (a_type ∷ []) (T, tt) (dcons dx dnil) in let fn = inst_fn inst code.function in
    let En = f.ended T dx in let c = f.clauses T dx 𝓛 𝓜.mem 𝓡.returns in
    let hs : Stays En.signature.params En.kept = (
      stay_dropped (plain (λ _. Loose R)) no,
      (stay_dropped (plain (λ _. heap_type.the_row)) yes, tt),
    ) in
    let G = triple_of 𝓛 (callee.signature T Heap ghosts dict heap_drop)
    (callee.spec T Heap ghosts dict heap_drop 𝓛 𝓜.mem 𝓡.returns) in
    let end = callee.ended T Heap ghosts dict heap_drop in
    let heap_works = heap_met.passed 𝓡.env (code.calls-std_heap::GlobalAllocator::allocate 𝓡.env wired)
    (code.calls-std_heap::GlobalAllocator::deallocate 𝓡.env wired)
    (code.calls-std_heap::GlobalAllocator::grow 𝓡.env wired)
    (code.calls-std_heap::GlobalAllocator::shrink 𝓡.env wired) _ 𝓤 𝓛 𝓜 𝓡 in
    let heap_drops = no_drop.glues "flatc_c::Destruct++none::drop" 𝓡.env
    (code.calls-flatc_c::Destruct++none::drop 𝓡.env wired) Heap Heap-laws _ 𝓤 𝓛 𝓜 𝓡 in
    let known = met 𝓤 𝓛 𝓜 𝓡 (code.calls-std_alloc::boxed::Box::from_raw 𝓡.env wired) T Heap L Heap-laws ghosts dict
    heap_drop heap_works heap_drops in
    proved_at 𝓛 En hs c 𝓜 𝓡 (
      Goes-blank 𝓛 1 (plain (λ _. Loose R)) no (λ κs x w. tt),
      (Goes-dropped 𝓛 1 (plain (λ _. heap_type.the_row)) yes (λ κs x w. refl), tt),
    )
    (f.Key.name inst) fn (code.unfolded 𝓤 𝓛.H 𝓜 𝓡 wired (T, tt) dx) (λ z are.
    let κ = z.0.0.0 in let q = z.0.1.0 in let v = z.0.3.0 in let a = z.0.3.1.0 in let Post : Val
    → SProp 𝓤 = (walk_of 𝓛 En hs c).post z in
    let Run : List Val → SProp 𝓤 = λ ws. WpFn 𝓤 𝓛.H 𝓣.C 𝓣.Λ fn ws Post in
    qed 𝓛 (((‵ (flft κ q) ⊛ ‵ ftrue) ⊛ ‵ (fsep ((Loose R).own_val v z.0.4.0)
    (fsep (heap_type.the_row.own_val a z.0.4.1.0) ftrue))) ∷ raw (fact 𝓤 (κ ⊑ T.lives)) ∷ ‵ ftrue ∷ []) ∵
    move ! (1 ∷ []) $ heard ! (κ ⊑ T.lives) (λ le.
    split ! $ move ! (1 ∷ []) $ fsplit ! $ loose_out R ! v z.0.4.0 (λ is. at_block R ! v.at v.value (λ b o at_b.
    move ! (1 ∷ []) $ fsplit ! $ handle_tells E.al ! a z.0.4.1.0 (λ h has fits. keep ! (0 ∷ 2 ∷ 3 ∷ []) $
    -- [the heap's handle; what the pointer owns; the tokens]
    let w : Val = lone (block_ptr b o) in
    let y : G.Ghost = (
      (
        (κ, ([], tt)),
        (q, (full_share, tt)),
        tt,
        (a, (block_ptr b o, tt)),
        (h ∷ [], (vptr b o ∷ [], tt)),
      ),
      v.value,
    ) in let toks = ‵ (flft κ q) ⊛ ‵ (flft [] full_share) ⊛ ‵ ftrue in
    suffices ! (Run (w ∷ h ∷ [])) (rw (is ∙ ap (λ (p : Ptr). lone p ∷ []) at_b, has) (id⊢ 𝓤 (Run (w ∷ h ∷ [])))) $
    enter ! 𝓣.C 𝓣.Λ fn (w ∷ h ∷ []) Post $ alloc_all ! (λ l. pass_all ! refl ((tt, (tt, tt)), (fits, tt)) $
    sets ! (of_opd ! (get_in ! (fld ! refl (stop !)) (sub ! 0 refl (whole !)))) refl (tt, tt) $
    move ! (2 ∷ []) $ split ! $ move ! (1 ∷ []) $ use0 𝓛 (‵ (flft [] full_share))
    (𝓛.lfts.lft-nil full_share) $ join ! $ move ! (1 ∷ 0 ∷ []) $ join ! $
    nothing ! $ feq_i ! (List Val) (vptr b o ∷ []) (vptr b o ∷ []) refl $ fjoin ! $ move !
    (2 ∷ 0 ∷ []) $ fjoin ! $ move ! (1 ∷ 0 ∷ []) $ join ! $
    move ! (1 ∷ []) $ use0 𝓛 (raw (fact 𝓤 ([] ⊑ Heap.lives)))
    (fact_i 𝓤 ([] ⊑ Heap.lives) (emp 𝓤) (⊑_refl [])) $ join ! $
    use0 𝓛 (raw (fact 𝓤 (κ ⊑ T.lives))) (fact_i 𝓤 (κ ⊑ T.lives) (emp 𝓤) le) $ join ! $ move !
    (1 ∷ 0 ∷ []) $ join ! $ use1 𝓛 (raw (G.pre y)) (id⊢ 𝓤 _) $
    first ! $ blocks ! $ calls_at_last ! (framed 𝓤 𝓛.H 𝓜 𝓣) G known y
    (and_then ! (get ! refl) (and_then ! (get ! refl) (no_more !))) (λ u.
    use1 𝓛 (later (some (λ (r : B.Denot). (toks ⊛ ‵ (B.own_val r (u ∷ []))) ⊛ some
    (λ (ls : Lasts end y.0.0 y.0.3). ‵ (lasts end y.0.0 y.0.3 ls) ⊛
    (raw (fact 𝓤 (r.value ≡ v.value)) ⊛ raw (fact 𝓤 (r.alloc ≡ a))))))) (id⊢ 𝓤 (G.post y u)) $
    await ! tt $ pick ! (λ r. split ! $ move ! (1 ∷ []) $ pick !
    (λ ls. split ! $ drop ! $ split ! $ heard ! (r.value ≡ v.value) (λ same. drop ! $
    split ! $ split ! $ move ! (2 ∷ []) $ box_out E ! r (u ∷ [])
    (λ b' o' h' at_b' us fits'. box_in E ! r b' o' r.value at_b' refl $ rewrite ! 0
    (λ (xs : List Val). ‵ (B.own_val r xs)) (sym us) refl $
    let good : Good (layout B) u = subst (Good (layout B)) (sym (ap only us)) (box.box_typed E h' b' o' fits') in
    -- [the box; the token; the heap's]
    lands_last ! refl good $ exec ! 𝓣.C 𝓣.Λ (env fn.locals l) (after 2 fn.body) (at_ret _ Post) $ sets !
    (of_opd ! (get ! refl)) refl good $
    returns ! (look_at ! 0 refl) $ free_all ! refl $ keep ! (0 ∷ 1 ∷ []) $
    suffices ! _ (ends_at 𝓛 En hs c z u r (tt, (tt, tt)) (tt, (tt, tt))) $ says ! same $
    nothing ! $ nothing ! $ join ! $ nothing ! $ join ! $ nothing ! $ move ! (3 ∷ 0 ∷ []) $ join ! $ done !)))))))))))
