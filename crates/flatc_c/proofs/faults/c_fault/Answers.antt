use Rattle.std.proofs.Common.{◌∙◌, ap, is_some, unwrap_or, refl, arith}
use Rattle.flatc_c.specs.Faults.{name_field}
use Rattle.flatc_c.proofs.faults.c_fault.Goals as goal

pub returns : goal.returns
returns c = record {
  number = c.number.ensures;
  name = c.padded.ensures ∙ ap name_field c.name.ensures;
  has_offset = c.is_some.ensures ∙ ap is_some c.offset-offset.ensures;
  offset = c.unwrap_or.ensures ∙ ap (λ o. unwrap_or o 0) c.offset-offset.ensures;
  has_type = grind arith;
  owner = grind arith;
  has_slot = c.is_some-3.ensures ∙ ap is_some c.slot-slot.ensures;
  slot = c.unwrap_or-3.ensures ∙ ap (λ o. unwrap_or o 0) c.slot-slot.ensures;
  reserved = refl;
}
