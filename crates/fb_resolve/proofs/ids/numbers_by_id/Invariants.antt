use Rattle.std.proofs.Common.{◌≡◌, ◌++◌, drop}
use Rattle.fb_resolve.specs.Ids.{numbers_by_id}
use Rattle.fb_resolve.proofs.ids.numbers_by_id.Given as goal

abbrev pub invariant-loop-field : goal.invariant-loop-field
invariant-loop-field l = l.numbers.items ++ numbers_by_id (drop l.field-index l.fields) ≡ numbers_by_id l.fields
