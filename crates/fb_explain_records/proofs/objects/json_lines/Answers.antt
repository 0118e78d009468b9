use Rattle.std.proofs.Common.{ap, ◌∙◌, ◌++◌, List, ℕ}
use Rattle.std.proofs.lemmas.List.{take_all}
use Rattle.fb_explain_records.specs.Objects.{IsObjectLine, index_in}
use Rattle.fb_explain_records.proofs.RecordsGoOn.{one_more}
use Rattle.fb_explain_records.proofs.objects.json_lines.Goals as goal

pub loop-finding-preserved : goal.loop-finding-preserved
loop-finding-preserved c =
    one_more (IsObjectLine c.args.context.now.input.path.now (index_in c.args.context.now.message)) _ _
    c.finding-item.result _ _
    c.in_ok-object_line.field-0.items c.loop-finding-test.true c.finding-item.is
    c.loop-finding.invariant c.in_ok-object_line.ensures
    (c.in_ok-extend_from_slice.ensures.items
    ∙ ap (λ (t : List ℕ). c.loop-finding.text.items ++ t) c.as_slice.ensures.value)

pub returns : goal.returns
returns c = record {
  objects = rw (take_all c.loop-finding.finding-index c.args.findings.now c.loop-finding-test.false) at
      c.loop-finding.invariant;
}
