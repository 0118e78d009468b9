use Rattle.std.proofs.Common.{◌≡◌, ◌<◌, ◌+◌, ℕ, List, length, get_or, map, take, fold, arith}
use Rattle.std.proofs.lemmas.Grind.{common_steps}
use Rattle.fb_schema.specs.Keys.{with_name}
use Rattle.fb_schema.proofs.keys.write_names.Goals as goal

folded_more : {X Y Z : Type 0} (f : Z → Y → Z) (g : X → Y) (xs : List X) (i : ℕ) (x : X) (y : Y) (old so_far new : Z)
    → i < length xs → x ≡ get_or xs i x → y ≡ g x → so_far ≡ fold f old (map g (take i xs)) → new ≡ f so_far y
    → new ≡ fold f old (map g (take (i + 1) xs))
folded_more f g xs i x y old so_far new within at is before more = grind (arith, common_steps)

pub loop-item-preserved : goal.loop-item-preserved
loop-item-preserved g c = folded_more with_name g.T.Named.name c.args.items.now c.loop-item.item-index
    c.item-item.result _ _ _ _ c.loop-item-test.true c.item-item.is c.name.ensures c.loop-item.invariant
    c.write_name.ensures
