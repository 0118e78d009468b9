use Rattle.std.proofs.Common.{◌-◌, arith}
use Rattle.std.proofs.lemmas.Result.{IfOk-weaker}
use Rattle.fb_resolve.specs.Maps.{empty_fork}
use Rattle.fb_resolve.proofs.namespaces.MapsKept.{kept-map}
use Rattle.fb_resolve.proofs.namespaces.MapsMade.{fork-of-map, map-of-fork, overlay-none, none-overlay}
use Rattle.fb_resolve.proofs.namespaces.MapsMade.{overlay-values, overlay-fork, overlay-leaf}
use Rattle.fb_resolve.proofs.namespaces.maps.+overlay_in.Goals as goal
use Rattle.fb_resolve.proofs.namespaces.maps.+overlay_in.Goals.{then-outer-eq0-via-then-outer-eq0}
use Rattle.fb_resolve.proofs.namespaces.maps.+overlay_in.Goals.{then-outer-eq0-via-else-outer-eq0+then-levels-eq0}

pub returns-then-inner-eq0-clause-leaf : goal.returns-then-inner-eq0-clause-leaf
returns-then-inner-eq0-clause-leaf t c = λ k.
    rw c.if-inner-eq0.true (none-overlay c.args.forks.now.items c.requires.empty c.args.levels c.args.outer k)

pub returns-then-outer-eq0-clause-leaf : goal.returns-then-outer-eq0-clause-leaf
returns-then-outer-eq0-clause-leaf t c = λ k.
    let forks = c.args.forks.now.items in
    elim c.then-outer-eq0.branch [
      | then-outer-eq0-via-then-outer-eq0 w ↦
          rw w.if-outer-eq0.true (overlay-none forks c.requires.empty c.args.levels c.args.inner k)
      | then-outer-eq0-via-else-outer-eq0+then-levels-eq0 w ↦
          rw w.if-levels-eq0.true (overlay-values forks c.args.inner c.args.outer k c.if-inner-eq0.false)
    ]

pub overlay_in-requires : goal.overlay_in-requires
overlay_in-requires t c =
    let f = fork-of-map _ _ _ _ c.if-levels-eq0.false c.requires.inner c.index-above.ensures in
    let g = fork-of-map _ _ _ _ c.if-levels-eq0.false c.requires.outer c.index-below.ensures in
    (omega arith, (c.requires.empty, (f.zeros, g.zeros)))

pub overlay_in-requires-2 : goal.overlay_in-requires-2
overlay_in-requires-2 t c =
    let f = fork-of-map _ _ _ _ c.if-levels-eq0.false c.requires.inner c.index-above.ensures in
    let g = fork-of-map _ _ _ _ c.if-levels-eq0.false c.requires.outer c.index-below.ensures in
    let kept = c.overlay_in.ensures.kept in (
      omega arith,
      (
        kept 0 empty_fork c.requires.empty,
        (
          kept-map _ _ kept (c.args.levels - 1) _ f.ones,
          kept-map _ _ kept (c.args.levels - 1) _ g.ones,
        ),
      ),
    )

pub returns-clause-map : goal.returns-clause-map
returns-clause-map t c =
    IfOk-weaker c.add.result _ _
    (λ made there. map-of-fork (overlay-fork c.if-levels-eq0.false _ _ _ c.overlay_in-2.ensures.kept c.add.ensures.kept
    c.in_ok-zero.ensures.map c.in_ok-one.ensures.map there))
    c.add.ensures.added

pub returns-clause-leaf : goal.returns-clause-leaf
returns-clause-leaf t c =
    let f = fork-of-map _ _ _ _ c.if-levels-eq0.false c.requires.inner c.index-above.ensures in
    let g = fork-of-map _ _ _ _ c.if-levels-eq0.false c.requires.outer c.index-below.ensures in
    IfOk-weaker c.add.result _ _
    (λ made there.
    let put = overlay-fork c.if-levels-eq0.false _ _ _ c.overlay_in-2.ensures.kept c.add.ensures.kept
    c.in_ok-zero.ensures.map c.in_ok-one.ensures.map there in
    overlay-leaf f g put _ _ c.overlay_in.ensures.kept c.overlay_in-2.ensures.kept c.add.ensures.kept
    c.in_ok-zero.ensures.map c.in_ok-one.ensures.map c.in_ok-zero.ensures.leaf c.in_ok-one.ensures.leaf)
    c.add.ensures.added
