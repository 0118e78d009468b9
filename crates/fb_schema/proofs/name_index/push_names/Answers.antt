use Rattle.std.proofs.Common.{length, arith, ◌∙◌}
use Rattle.fb_schema.proofs.NamesIndexed.{item_more}
use Rattle.fb_schema.proofs.name_index.push_names.Goals as goal

pub loop-item-preserved : goal.loop-item-preserved
loop-item-preserved g c =
    let so_far = c.loop-item.invariant in
    let pushed = c.push_reserved.ensures in
    record {
      at = item_more g.T.Named.name c.args.items.now c.loop-item.item-index c.item-item.result c.loop-item.digests.keys
          c.push_reserved.new.self.keys c.args.key (length c.reserve.new.self.keys) (length c.loop-item.digests.keys) _
          c.loop-item-test.true c.item-item.is (c.as_bytes.ensures.value ∙ c.name.ensures) so_far.count pushed.kept
          so_far.at (rw c.digest.ensures at pushed.at);
      kept = λ digest place at. pushed.kept digest place (so_far.kept digest place at);
      count = omega (arith, pushed.one, so_far.count);
      spare = omega (arith, pushed.spare, so_far.spare);
    }
