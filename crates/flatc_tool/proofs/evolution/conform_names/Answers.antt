use Rattle.std.proofs.Common.{◌≡◌, List, Some, None, slice_get, option_copied, sym, ap, ◌∙◌}
use Rattle.fb_conform.specs.declared.names.MovedName.{MovedName}
use Rattle.flatc_tool.proofs.evolution.FirstListedIsTheFirstMoved.{first_moved, none_moved}
use Rattle.flatc_tool.proofs.evolution.conform_names.Goals as goal
use Rattle.flatc_tool.proofs.headline.OldTextsMeanTheCarriedValue.{kept_at}

pub returns-in-Some-clause-refused : goal.returns-in-Some-clause-refused
returns-in-Some-clause-refused c =
    let A = c.in-Ok.layouts.0 in
    let B = c.in-Ok.layouts.1 in
    let h = c.in-Ok.ensures.conforms in
    let at : slice_get c.in-Ok-moved_names.moved.items 0 ≡ Some c.in-Some.first.now =
    ap (λ (xs : List MovedName). slice_get xs 0) (sym c.deref.ensures.value) ∙ sym c.first.ensures.value
    ∙ ap option_copied c.in-Some.is in (
      A,
      B,
      h.0,
      h.1,
      h.2,
      first_moved A B c.in-Ok-moved_names.moved.items c.in-Some.first.now
          c.in-Ok-moved_names.ensures.all c.in-Ok-moved_names.ensures.order at,
    )

pub returns-in-Some-clause-exact : goal.returns-in-Some-clause-exact
returns-in-Some-clause-exact c rule texts =
    let A = c.in-Ok.layouts.0 in
    let B = c.in-Ok.layouts.1 in
    let h = c.in-Ok.ensures.conforms in
    let at : slice_get c.in-Ok-moved_names.moved.items 0 ≡ Some c.in-Some.first.now =
    ap (λ (xs : List MovedName). slice_get xs 0) (sym c.deref.ensures.value) ∙ sym c.first.ensures.value
    ∙ ap option_copied c.in-Some.is in
    let first = first_moved A B c.in-Ok-moved_names.moved.items c.in-Some.first.now c.in-Ok-moved_names.ensures.all
    c.in-Ok-moved_names.ensures.order at in
    let laws = c.layer_laws.ensures.laws in
    (laws.kept_unless_moved A B).0 (kept_at laws c.args.old.now c.args.new.now A B h.0 h.1 texts).1 c.in-Some.first.now
    first.moved

pub returns-clause-conforms : goal.returns-clause-conforms
returns-clause-conforms c =
    let A = c.in-Ok.layouts.0 in
    let B = c.in-Ok.layouts.1 in
    let h = c.in-Ok.ensures.conforms in
    let at : slice_get c.in-Ok-moved_names.moved.items 0 ≡ None =
    ap (λ (xs : List MovedName). slice_get xs 0) (sym c.deref.ensures.value) ∙ sym c.first.ensures.value
    ∙ ap option_copied c.in-None.is in
    let laws = c.layer_laws.ensures.laws in (
      A,
      B,
      h.0,
      h.1,
      h.2,
      (laws.kept_unless_moved A B).1
          (none_moved A B c.in-Ok-moved_names.moved.items c.in-Ok-moved_names.ensures.all at),
    )
