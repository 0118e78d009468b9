use Rattle.std.proofs.Common.{take, string_bytes}
use Rattle.fb_explain_records.specs.Records.{AreRecords, IsShortLine}
use Rattle.fb_explain_records.proofs.short.short_lines.Given as goal

abbrev pub invariant-loop-finding : goal.invariant-loop-finding
invariant-loop-finding l = AreRecords IsShortLine (take l.finding-index l.findings) (string_bytes l.text)
