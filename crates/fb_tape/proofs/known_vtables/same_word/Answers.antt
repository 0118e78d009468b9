use Rattle.std.proofs.Common.{◌∙◌, ap, sym, arith}
use Rattle.std.proofs.lemmas.Bool.{eqb-true, eq-eqb}
use Rattle.byteorder.specs.Endian.{little_number}
use Rattle.fb_tape.proofs.known_vtables.WordsTellBytes.{same_bytes}
use Rattle.fb_tape.proofs.known_vtables.same_word.Goals as goal

pub returns : goal.returns
returns c = (
  λ same. same_bytes 8 c.args.a.now c.args.b.now c.requires.a c.requires.b (λ i. omega (arith, c.type_inv.a i))
      (λ i. omega (arith, c.type_inv.b i))
      (sym c.read_u64.ensures ∙ eqb-true c.read_u64.result c.read_u64-2.result same ∙ c.read_u64-2.ensures),
  λ same. eq-eqb c.read_u64.result c.read_u64-2.result
      (c.read_u64.ensures ∙ ap (little_number 8) same ∙ sym c.read_u64-2.ensures),
)
