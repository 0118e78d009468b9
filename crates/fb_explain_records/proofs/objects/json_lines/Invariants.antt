use Rattle.std.proofs.Common.{take}
use Rattle.fb_explain_records.specs.Records.{AreRecords}
use Rattle.fb_explain_records.specs.Objects.{IsObjectLine, index_in}
use Rattle.fb_explain_records.proofs.objects.json_lines.Given as goal

abbrev pub invariant-loop-finding : goal.invariant-loop-finding
invariant-loop-finding l = AreRecords (IsObjectLine l.context.input.path.now (index_in l.context.message))
    (take l.finding-index l.findings) l.text.items
