use Rattle.std.proofs.Common.{length, ◌≡◌, ◌++◌, ◌∷◌, []}
use Rattle.fb_schema.proofs.NamesIndexed.{type_more}
use Rattle.fb_schema.proofs.name_index.push_all_inner_names.Goals as goal

pub loop-number-preserved : goal.loop-number-preserved
loop-number-preserved c =
    let so_far = c.loop-number.invariant in
    let pushed = c.in_ok-push_inner_names.ensures in
    let firsts : c.push.new.self.items ≡ c.loop-number.firsts.items ++ length c.loop-number.digests.keys ∷ [] =
    rw c.len.ensures at c.in_ok-push.ensures.items in
    record {
      inner = type_more c.args.types.now c.loop-number.number c.index-types-number.result c.loop-number.digests.keys
          c.push_inner_names.new.digests.keys c.args.key c.loop-number.firsts.items c.push.new.self.items
          (length c.loop-number.digests.keys) c.loop-number-test.true c.index-types-number.is firsts pushed.kept
          so_far.inner (rw c.inside.ensures at pushed.at);
      kept = λ digest place at. pushed.kept digest place (so_far.kept digest place at);
    }
