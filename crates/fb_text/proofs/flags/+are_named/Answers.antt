use Rattle.std.proofs.Common.{rules, ◌≡◌, is_some, option_copied, true, false, ap, sym, ◌∙◌, arith}
use Rattle.fb_schema.specs.Schema.{body_at}
use Rattle.fb_schema.specs.Found.{name_numbered}
use Rattle.fb_text.specs.Texts.{are_named}
use Rattle.fb_text.proofs.flags.LowestBit.{first_named}
use Rattle.fb_text.proofs.flags.NoBitsHaveNoNames.{none_named}
use Rattle.fb_text.proofs.flags.+are_named.Goals as goal

pub returns-then-bits-eq0 : goal.returns-then-bits-eq0
returns-then-bits-eq0 t c =
    let name = name_numbered (body_at c.args.names.now.schema.now c.args.names.now.enumeration.0) in
    sym (ap (are_named name 64 1) c.if-bits-eq0.true ∙ none_named name 64 1)

pub returns-then-is_none : goal.returns-then-is_none
returns-then-is_none t c =
    let bits = c.args.bits in
    let name = name_numbered (body_at c.args.names.now.schema.now c.args.names.now.enumeration.0) in
    let none : is_some (option_copied c.bit_name.result) ≡ false = search rules in
    first_named name bits (omega arith) c.ranges.bits.fits false (sym (ap is_some c.bit_name.ensures) ∙ none)

pub returns : goal.returns
returns t c =
    let bits = c.args.bits in
    let name = name_numbered (body_at c.args.names.now.schema.now c.args.names.now.enumeration.0) in
    let there : is_some (option_copied c.bit_name.result) ≡ true = search rules in
    c.are_named.ensures ∙ (ap (are_named name 64 1) c.higher_bits.ensures.is
    ∙ first_named name bits (omega arith) c.ranges.bits.fits true (sym (ap is_some c.bit_name.ensures) ∙ there))
