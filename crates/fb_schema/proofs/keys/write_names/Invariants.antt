use Rattle.std.proofs.Common.{◌≡◌, map, take}
use Rattle.fb_schema.specs.Keys.{with_names}
use Rattle.fb_schema.proofs.keys.write_names.Given as goal

abbrev pub invariant-loop-item : goal.invariant-loop-item
invariant-loop-item g l = l.digest ≡ with_names l.fn.digest (map g.T.Named.name (take l.item-index l.items))
