-- `of` keeps the pointer, and what it owns goes along.
use Rattle.std.proofs.Common.{List, [], ◌∷◌, refl, ap, ◌∙◌}
use mir.Val.{Val, vptr}
use base.Fml.{ftrue, fsep}
use base.Logic.{SProp, id⊢}
use prog.Wp.{WpFn}
use types.ByLocal.{alloc_all, pass_all, free_all, look_at, get, get_in, sets}
use types.Kit.{‵, ◌⊛◌, ◌$◌, ◌∵◌, !, qed, move, keep, done, suffices, split, fsplit, join}
use types.Part.{agg, sub, whole}
use types.Run.{stop, fld, of_opd, no_more, and_then, returns, enter}
use contract.Running.{tables}
use denote.Exit.{yes}
use denote.RawPtr.{Ptr, block_ptr}
use denote.Signature.{plain}
use denote.Steps.{nothing}
use denote.Triple.Walked.{Stays, stay_dropped, walk_of, says, ends_at}
use Rattle.core.proofs.alloc.Calls.{Goes-blank}
use Rattle.std.proofs.raw_atomic.Walks.{proved_at}
use Rattle.std.specs.Prelude.{Some}
use Rattle.flatc_c.proofs.HeldValues.{Kept, held_in}
use Rattle.flatc_c.proofs.Pointers.{lone, Loose, loose_out, at_block}
use Rattle.flatc_c.specs.contracts.held.Held.of as f
use Rattle.flatc_c.proofs.held.Held.of.Statement.{statement}
use Rattle.flatc_c.proofs.held.Held.of.Code as code

abbrev stayed : Stays f.ended.signature.params f.ended.kept
stayed = (stay_dropped (plain (λ _. Loose Kept)) yes, tt)

pub of_spec : {M : Type 1} → statement M
of_spec 𝓤 𝓛 𝓜 𝓡 wired =
    let c = f.clauses 𝓛 𝓜.mem 𝓡.returns in let 𝓣 = tables 𝓤 𝓛.H 𝓜 𝓡 𝓡.env in
    proved_at 𝓛 f.ended stayed c 𝓜 𝓡 (Goes-blank 𝓛 0 (plain (λ _. Loose Kept)) yes (λ κs x w. tt), tt)
    f.Key.name code.function (code.unfolded 𝓤 𝓛.H 𝓜 𝓡 wired) (λ z are.
    let v = z.0.3.0 in let Post : Val → SProp 𝓤 = (walk_of 𝓛 f.ended stayed c).post z in
    let Run : List Val → SProp 𝓤 = λ ws. WpFn 𝓤 𝓛.H 𝓣.C 𝓣.Λ code.function ws Post in
    qed 𝓛 ((‵ ftrue ⊛ ‵ (fsep ((Loose Kept).own_val v z.0.4.0) ftrue)) ∷ ‵ ftrue ∷ []) ∵ split ! $ move !
    (1 ∷ []) $ fsplit ! $
    loose_out Kept ! v z.0.4.0 (λ is. at_block Kept ! v.at v.value
    (λ b o at_b. keep ! (0 ∷ []) $ let w : Val = lone (block_ptr b o) in
    suffices ! (Run (w ∷ [])) (rw (is ∙ ap (λ (p : Ptr). lone p ∷ []) at_b) (id⊢ 𝓤 (Run (w ∷ [])))) $
    enter ! 𝓣.C 𝓣.Λ code.function (w ∷ []) Post $ alloc_all ! (λ l. pass_all ! refl ((tt, (tt, tt)), tt) $
    sets ! (of_opd ! (get_in ! (fld ! refl (stop !)) (sub ! 0 refl (whole !)))) refl (tt, tt) $
    sets ! (of_opd ! (get ! refl)) refl (tt, tt) $
    sets ! (agg ! (and_then ! (get ! refl) (no_more !))) refl (tt, (tt, tt)) $
    returns ! (look_at ! 0 refl) $ free_all ! refl $ held_in ! (block_ptr b o) (Some v.value) $
    suffices ! _ (ends_at 𝓛 f.ended stayed c z (lone (block_ptr b o))
    (record { at = block_ptr b o; value = Some v.value }) (tt, tt) (tt, tt)) $ says ! refl $
    nothing ! $ nothing ! $ join ! $ nothing ! $ done !))))
