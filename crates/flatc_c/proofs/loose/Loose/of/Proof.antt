-- `of` takes the box apart, and keeps its pointer.
use Rattle.std.proofs.Common.{List, [], ◌∷◌, ◌++◌, refl, ap, ◌∙◌}
use mir.MapTy.{inst_fn}
use mir.Syntax.{a_type, dcons, dnil}
use mir.Val.{Val, vptr}
use base.Fml.{ftrue, fsep, flft}
use base.Fraction.{full_share}
use base.Logic.{SProp, emp, id⊢}
use prog.Wp.{WpFn}
use types.ByLocal.{alloc_all, pass_all, free_all, look_at, get, sets, lands_as}
use types.Kit.{‵, raw, ◌⊛◌, some, later, ◌$◌, ◌∵◌, !, qed, move, keep, drop, split, join, fsplit, fjoin, pick, suffices}
use types.Kit.{use0, use1, await, feq_l, done}
use types.Part.{agg}
use types.Run.{of_opd, no_more, and_then, returns, enter}
use contract.BorrowLft.{◌⊑◌, ⊑_refl}
use contract.Monad.{fact, fact_i}
use contract.Running.{tables}
use denote.Builtin.{RawPtr}
use denote.Exit.{no}
use denote.Param.{param, bounded}
use denote.RattleType.{RattleType}
use denote.RawPtr.{Ptr, block_ptr, ptr_val}
use denote.Signature.{plain}
use denote.Steps.{nothing, only, heard}
use denote.Triple.Call.{calls_at}
use denote.Triple.Clauses.{Lasts, lasts}
use denote.Triple.Spec.{triple_of}
use denote.Triple.Table.{framed}
use denote.Triple.Walked.{Stays, stay_dropped, walk_of, says, ends_at}
use denote.Param.NoDrop as no_drop
use Rattle.core.proofs.alloc.Calls.{Goes-blank}
use Rattle.std.proofs.impls.GlobalAllocator.TheImpl.Met as heap_met
use Rattle.std.proofs.raw_atomic.Walks.{proved_at}
use Rattle.std.specs.contracts.impls.GlobalAllocator.TheImpl.{ghosts, dict}
use Rattle.std_alloc.proofs.BoxSteps.Form as box
use Rattle.std_alloc.proofs.BoxSteps.Steps.{box_out, box_in}
use Rattle.std_alloc.proofs.boxed.Box.into_raw.Met.{met}
use Rattle.std_alloc.specs.Box.Ownership.{box_owns}
use Rattle.std_alloc.specs.contracts.boxed.Box.into_raw as callee
use Rattle.flatc_c.specs.Owned.{freeable}
use Rattle.flatc_c.proofs.Pointers.{lone, Boxed, Heap, Heap-laws, heap_drop, boxed, at_block, loose_in}
use Rattle.flatc_c.specs.contracts.loose.Loose.of as f
use Rattle.flatc_c.proofs.loose.Loose.of.Statement.{statement}
use Rattle.flatc_c.proofs.loose.Loose.of.Code as code
use Rattle.flatc_c.proofs.Destruct++none.drop.Code as drop_of_none

pub of_spec : {M : Type 1} → statement M
unfolding drop_of_none.code
of_spec 𝓤 𝓛 𝓜 𝓡 wired T L dx glue =
    let 𝓣 = tables 𝓤 𝓛.H 𝓜 𝓡 𝓡.env in let E = boxed T L in let R = param 0 T in let B = Boxed R in
    let inst = bounded (a_type ∷ []) (T, tt) (dcons dx dnil) in let fn = inst_fn inst code.function in
    let En = f.ended T dx in let c = f.clauses T dx 𝓛 𝓜.mem 𝓡.returns in
    let hs : Stays En.signature.params En.kept = (stay_dropped (plain (λ _. B)) no, tt) in
    let G = triple_of 𝓛 (callee.signature T Heap ghosts dict heap_drop dx)
    (callee.spec T Heap ghosts dict heap_drop dx 𝓛 𝓜.mem 𝓡.returns) in
    let end = callee.ended T Heap ghosts dict heap_drop dx in
    let heap_works = heap_met.passed 𝓡.env (code.calls-std_heap::GlobalAllocator::allocate 𝓡.env wired)
    (code.calls-std_heap::GlobalAllocator::deallocate 𝓡.env wired)
    (code.calls-std_heap::GlobalAllocator::grow 𝓡.env wired)
    (code.calls-std_heap::GlobalAllocator::shrink 𝓡.env wired) _ 𝓤 𝓛 𝓜 𝓡 in
    let heap_drops = no_drop.glues "flatc_c::Destruct++none::drop" 𝓡.env
    (code.calls-flatc_c::Destruct++none::drop 𝓡.env wired) Heap Heap-laws _ 𝓤 𝓛 𝓜 𝓡 in
    let known = met 𝓤 𝓛 𝓜 𝓡 (code.calls-std_alloc::boxed::Box::into_raw 𝓡.env wired) T Heap L Heap-laws ghosts dict
    heap_drop dx heap_works heap_drops glue in
    proved_at 𝓛 En hs c 𝓜 𝓡 (Goes-blank 𝓛 1 (plain (λ _. B)) no (λ κs x w. tt), tt) (f.Key.name inst) fn
    (code.unfolded 𝓤 𝓛.H 𝓜 𝓡 wired (T, tt) dx) (λ z are.
    let κ = z.0.0.0 in let q = z.0.1.0 in let v = z.0.3.0 in let Post : Val → SProp 𝓤 = (walk_of 𝓛 En hs c).post z in
    let Run : List Val → SProp 𝓤 = λ ws. WpFn 𝓤 𝓛.H 𝓣.C 𝓣.Λ fn ws Post in
    qed 𝓛 (((‵ (flft κ q) ⊛ ‵ ftrue) ⊛ ‵ (fsep (B.own_val v z.0.4.0) ftrue)) ∷ raw
    (fact 𝓤 (κ ⊑ T.lives)) ∷ ‵ ftrue ∷ []) ∵ move ! (1 ∷ []) $ heard ! (κ ⊑ T.lives) (λ le.
    split ! $ move ! (1 ∷ []) $ fsplit ! $ box_out E ! v z.0.4.0
    (λ b o h at_b ws fits. box_in E ! v b o v.value at_b refl $ keep ! (0 ∷ 2 ∷ []) $
    let w : Val = box.word E h b o in let typed = box.box_typed E h b o fits in
    let y : G.Ghost = (((κ, ([], tt)), (q, (full_share, tt)), tt, (v, tt), (w ∷ [], tt)), tt) in
    let toks = ‵ (flft κ q) ⊛ ‵ (flft [] full_share) ⊛ ‵ ftrue in
    suffices ! (Run (w ∷ [])) (rw ws (id⊢ 𝓤 (Run (w ∷ [])))) $
    enter ! 𝓣.C 𝓣.Λ fn (w ∷ []) Post $ alloc_all !
    (λ l. pass_all ! refl (typed, tt) $ sets ! (of_opd ! (get ! refl)) refl typed $
    -- [the box; the tokens]
    move ! (1 ∷ []) $ split ! $ move ! (1 ∷ []) $ use0 𝓛 (‵ (flft [] full_share))
    (𝓛.lfts.lft-nil full_share) $ join ! $ move ! (1 ∷ 0 ∷ []) $ join ! $
    nothing ! $ move ! (2 ∷ 0 ∷ []) $ fjoin ! $ move ! (1 ∷ 0 ∷ []) $ join ! $
    nothing ! $ use0 𝓛 (raw (fact 𝓤 ([] ⊑ Heap.lives))) (fact_i 𝓤 ([] ⊑ Heap.lives) (emp 𝓤) (⊑_refl [])) $ join ! $
    use0 𝓛 (raw (fact 𝓤 (κ ⊑ T.lives))) (fact_i 𝓤 (κ ⊑ T.lives) (emp 𝓤) le) $ join ! $ move !
    (1 ∷ 0 ∷ []) $ join ! $ use1 𝓛 (raw (G.pre y)) (id⊢ 𝓤 _) $
    calls_at ! (framed 𝓤 𝓛.H 𝓜 𝓣) G known y (and_then ! (get ! refl) (no_more !)) (λ u.
    use1 𝓛 (later (some (λ (r : Ptr). (toks ⊛ ‵ (RawPtr.own_val r (u ∷ []))) ⊛ some
    (λ (ls : Lasts end y.0.0 y.0.3). ‵ (lasts end y.0.0 y.0.3 ls) ⊛ ‵ (box_owns freeable R r v.value)))))
    (id⊢ 𝓤 (G.post y u)) $
    await ! tt $ pick ! (λ r. split ! $ move ! (1 ∷ []) $ pick !
    (λ ls. split ! $ drop ! $ at_block R ! r v.value (λ b' o' at_b'.
    move ! (1 ∷ []) $ split ! $ split ! $ move ! (2 ∷ []) $ feq_l ! (λ is.
    -- [the token; the heap's; what the pointer owns]
    lands_as ! (ap only (is ∙ ap (λ (p : Ptr). ptr_val p ∷ []) at_b')) refl (tt, tt) $
    sets ! (agg ! (and_then ! (get ! refl) (no_more !))) refl (tt, (tt, tt)) $
    returns ! (look_at ! 0 refl) $ free_all ! refl $ keep ! (2 ∷ 0 ∷ []) $ loose_in R ! (block_ptr b' o') v.value $
    suffices ! _ (ends_at 𝓛 En hs c z (lone (block_ptr b' o')) (record { at = block_ptr b' o'; value = v.value })
    (tt, tt) (tt, tt)) $ says ! refl $
    nothing ! $ nothing ! $ join ! $ nothing ! $ move ! (3 ∷ 0 ∷ []) $ join ! $ done !)))))))))
