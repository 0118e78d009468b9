use Rattle.std.proofs.Common.{string_bytes, ap, ◌∙◌, ◌++◌, List, ℕ}
use Rattle.std.proofs.lemmas.List.{take_all}
use Rattle.fb_explain_records.specs.Records.{IsShortLine}
use Rattle.fb_explain_records.proofs.RecordsGoOn.{one_more}
use Rattle.fb_explain_records.proofs.short.short_lines.Goals as goal

pub loop-finding-preserved : goal.loop-finding-preserved
loop-finding-preserved c =
    one_more IsShortLine _ _ c.finding-item.result _ _
    (string_bytes c.in_ok-short_line.field-0) c.loop-finding-test.true c.finding-item.is
    c.loop-finding.invariant c.in_ok-short_line.ensures
    (c.in_ok-push_str.ensures.bytes ∙ ap (λ (t : List ℕ). string_bytes c.loop-finding.text ++ t) c.as_str.ensures.value)

pub returns : goal.returns
returns c = record {
  lines = rw (take_all c.loop-finding.finding-index c.args.findings.now c.loop-finding-test.false) at
      c.loop-finding.invariant;
}
