use Rattle.std.proofs.Common.{◌≡◌, ◌≢◌, ◌<◌, ◌-◌, ◌/◌, ◌^◌, ◌==◌, ◌∙◌, ℕ, if◌then◌else◌, suc, ap, arith}
use Rattle.std.proofs.Math.Nat.{two-pow-succ}
use Rattle.std.proofs.lemmas.Result.{IfOk-weaker}
use Rattle.fb_resolve.specs.Maps.{leaf_in}
use Rattle.fb_resolve.proofs.namespaces.MapsMade.{fork-of-map, map-of-fork, side-of-fork, inserted-fork, inserted-leaf}
use Rattle.fb_resolve.proofs.namespaces.maps.+insert_in.Goals as goal

half-below : (levels key : ℕ) → key < 2 ^ levels → levels ≢ 0 → key / 2 < 2 ^ (levels - 1)
half-below levels key h above =
    let lower : levels ≡ suc (levels - 1) = omega arith in
    let deep : key < 2 ^ suc (levels - 1) = rw (← lower) h in
    omega (arith, two-pow-succ (levels - 1), deep)

pub insert_in-requires : goal.insert_in-requires
insert_in-requires t c =
    let f = fork-of-map _ _ _ c.index-fork.result.now c.if-levels-eq0.false c.requires.map c.index-fork.ensures in
    let half = half-below c.args.levels c.args.key c.requires.key c.if-levels-eq0.false in
    (omega arith, (rw c.side.ensures (side-of-fork f c.args.key), half))

pub returns-clause-map : goal.returns-clause-map
returns-clause-map t c =
    let f = fork-of-map _ _ _ c.index-fork.result.now c.if-levels-eq0.false c.requires.map c.index-fork.ensures in
    IfOk-weaker c.add.result _ _
    (λ made there. map-of-fork (inserted-fork f _ _ c.insert_in.ensures.kept c.add.ensures.kept c.args.key _ made
    c.in_ok-side.ensures.map c.with_side.result c.with_side.ensures there))
    c.add.ensures.added

pub returns-clause-leaf : goal.returns-clause-leaf
returns-clause-leaf t c =
    let old = c.args.forks.now.items in
    let key = c.args.key in
    let leaf = c.args.leaf in
    let f = fork-of-map old _ _ c.index-fork.result.now c.if-levels-eq0.false c.requires.map c.index-fork.ensures in
    IfOk-weaker c.add.result _ _
    (λ made there.
    let put = inserted-fork f _ _ c.insert_in.ensures.kept c.add.ensures.kept key _ made
    c.in_ok-side.ensures.map c.with_side.result c.with_side.ensures there in
    inserted-leaf f put _ c.insert_in.ensures.kept c.add.ensures.kept key _ leaf
    c.in_ok-side.ensures.map c.with_side.ensures
    (λ k. c.in_ok-side.ensures.leaf k
    ∙ ap (λ p. if k == key / 2 then leaf else leaf_in old (c.args.levels - 1) p k) c.side.ensures))
    c.add.ensures.added
