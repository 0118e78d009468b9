-- What the findings of a refusal are.
use Rattle.std.specs.Prelude.{ℕ, ⊤, Bool, true, false, List}
use Rattle.fb_layout.specs.Laid.{LaidSchema}
use Rattle.fb_faults.specs.declared.faults.ToolFault.{ToolFault}
use Rattle.fb_faults.specs.declared.faults.ToolFault.TheVariants.{Schema, Older, Breach, NameMoved}
use Rattle.fb_findings.specs.declared.sources.Sources.{Sources}
use Rattle.fb_explain_conform.specs.Listed.{AreBreaches, AreMoved}

-- the text or buffer that a fault is in
abbrev pub text_of : ToolFault → Sources → List ℕ
text_of (Schema f) s = s.schema.bytes.now
text_of (Older f) s = s.schema.bytes.now
text_of _ s = s.input.bytes.now

-- two schemas are compared, so that there may be more findings than one of other numbers
abbrev pub is_comparison : ToolFault → Bool
is_comparison (Breach b) = true
is_comparison (NameMoved m) = true
is_comparison _ = false

-- all breaches where the refusal is one, and all names that moved where it is such a name
abbrev pub AreCompared : ToolFault → LaidSchema → LaidSchema → List ToolFault → Type 0
AreCompared (Breach b) L L' faults = AreBreaches L L' faults
AreCompared (NameMoved m) L L' faults = AreMoved L L' faults
AreCompared _ L L' faults = ⊤
