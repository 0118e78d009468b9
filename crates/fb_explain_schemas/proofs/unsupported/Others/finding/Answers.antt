use Rattle.std.proofs.Common.{ap, sym, ◌∙◌}
use Rattle.fb_findings.specs.Findings.{own_offset}
use Rattle.fb_explain_schemas.proofs.Placed.{own_offset_of, line_of}
use Rattle.fb_explain_schemas.proofs.unsupported.Others.finding.Goals as goal

pub returns : goal.returns
returns c =
    let fault = c.of-finding.ensures.fault ∙ c.refusal-fault.ensures in
    record {
      at = λ o is. c.location_of.ensures.offset ∙ sym c.fault.ensures
          ∙ (own_offset_of c.args.self.now.which c.fault.result o (ap own_offset (sym fault) ∙ is)).1;
      line = line_of c.args.self.now.source.bytes.now c.location_of.result c.args.offset c.location_of.ensures.offset
          (c.location_of.ensures.position c.requires);
    }
