-- A job's refusal where one of its schema texts is refused, and what is added to its findings.
use Rattle.std.specs.Prelude.{ℕ, List, All}
use Rattle.fb_declare.specs.declared.schema_layouts.SchemaTextFault.{SchemaTextFault}
use Rattle.fb_faults.specs.declared.faults.ToolFault.{ToolFault}
use Rattle.fb_faults.specs.declared.faults.ToolFault.TheVariants.{Schema}
use Rattle.fb_faults.specs.declared.faults.ToolFault.TheVariants as the_faults
use Rattle.fb_findings.specs.declared.finding.Finding.{Finding}
use Rattle.fb_findings.specs.Findings.{BeginsWith, IsPlacedIn}
use Rattle.fb_explain_schemas.specs.declared.refusals.Which.{Which}
use Rattle.fb_explain_schemas.specs.declared.refusals.Which.TheVariants.{Only, Older, Newer}

abbrev pub refusal : Which → SchemaTextFault → ToolFault
refusal Only f = Schema f
refusal Older f = the_faults.Older f
refusal Newer f = the_faults.Newer f

-- Findings were added that are where their faults are; the first of the list is as it was.
pub record AddsPlaced (text : List ℕ) (before after : List Finding) : Type 0 where
  pub first : (fault : ToolFault) → BeginsWith fault before → BeginsWith fault after
  pub placed : All (IsPlacedIn text) before → All (IsPlacedIn text) after
