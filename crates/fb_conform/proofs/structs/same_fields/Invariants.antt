use Rattle.std.proofs.Common.{map}
use Rattle.fb_schema.specs.Seen.{field_seen}
use Rattle.fb_conform.proofs.structs.OneFieldMore.{FieldsSame}
use Rattle.fb_conform.proofs.structs.same_fields.Given as goal

abbrev pub invariant-loop-i : goal.invariant-loop-i
invariant-loop-i l = FieldsSame l.old l.new (map field_seen l.was) (map field_seen l.is) l.i
