-- `none` has a null pointer, and owns nothing.
use Rattle.std.proofs.Common.{[], ◌∷◌, refl, lit<}
use base.Fml.{ftrue}
use types.ByLocal.{alloc_all, pass_all, free_all, look_at, sets}
use types.Kit.{‵, raw, ◌$◌, ◌∵◌, !, qed, keep, done, suffices}
use types.Part.{agg}
use types.Run.{lit, no_more, and_then, returns, enter}
use denote.RawPtr.{null_ptr}
use denote.Steps.{nothing}
use denote.Triple.Entry.{on_entry}
use denote.Triple.Walked.{says, ends_at}
use Rattle.std.proofs.raw_atomic.Walks.{proved}
use Rattle.std.specs.Prelude.{None}
use Rattle.flatc_c.proofs.HeldValues.{held_in}
use Rattle.flatc_c.proofs.Pointers.{lone}
use Rattle.flatc_c.specs.contracts.held.Held.none as f
use Rattle.flatc_c.proofs.held.Held.none.Statement.{statement}
use Rattle.flatc_c.proofs.held.Held.none.Code as code

pub none_spec : {M : Type 1} → statement M
none_spec 𝓤 𝓛 𝓜 𝓡 wired =
    let c = f.clauses 𝓛 𝓜.mem 𝓡.returns in
    proved 𝓛 f.ended tt c 𝓜 𝓡 tt f.Key.name code.function (code.unfolded 𝓤 𝓛.H 𝓜 𝓡 wired) (λ κs. tt) (λ κs. tt)
    (λ κs qs bounds a g are.
    qed 𝓛 (raw (on_entry 𝓛 f.signature κs qs a tt) ∷ ‵ ftrue ∷ []) ∵ keep ! [] $
    enter ! _ _ _ _ _ $ alloc_all ! (λ l. pass_all ! refl tt $
    sets ! (agg ! (and_then ! (lit ! tt) (no_more !))) refl (tt, (record { fits = lit< tt }, tt)) $
    returns ! (look_at ! 0 refl) $ free_all ! refl $
    suffices ! _ (ends_at 𝓛 f.ended tt c ((κs, qs, bounds, a, tt), g) (lone null_ptr)
    (record { at = null_ptr; value = None }) tt tt) $ says ! refl $
    nothing ! $ held_in ! null_ptr None $ nothing ! $ nothing ! $ done !))
