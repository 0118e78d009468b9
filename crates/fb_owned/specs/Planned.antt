-- What a plan stands for.
use Rattle.fb_layout.specs.Laid.{LaidSchema}
use Rattle.fb_value.specs.declared.values.Value.{Value}

-- the value whose bytes are to be laid, and its layout
pub record Planned : Type 0 where
  pub layout : LaidSchema
  pub value : Value
