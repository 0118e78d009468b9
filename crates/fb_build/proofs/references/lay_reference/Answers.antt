use Rattle.std.proofs.Common.{◌≡◌, ◌<◌, ◌+◌, ◌-◌, ◌^◌, ◌++◌, ◌∙◌, true, ap, length, arith}
use Rattle.byteorder.specs.Endian.{little_bytes}
use Rattle.fb_value.specs.Num.{num, divides}
use Rattle.fb_build.proofs.fields.FieldHasItsValue.{reference_end, more_divides}
use Rattle.fb_build.proofs.references.lay_reference.Goals as goal
use Rattle.fb_value.proofs.numbers.BytesSumToTheirNumber.{num_first}

pub returns-clause-lies : goal.returns-clause-lies
returns-clause-lies c L X d h =
    let s = c.lay_u32.new.self.bytes in
    let rest = c.args.out.now.bytes in
    let n = c.args.target in
    let is : s ≡ little_bytes 4 ((length rest + 4) - n) ++ rest =
    c.lay_u32.ensures.bytes ∙ ap (λ k. little_bytes 4 ((k + 4) - n) ++ rest) c.count-place.ensures.exact in
    let long : length s ≡ 4 + length rest = (let whole = ap length is in omega (arith, whole)) in
    let whole : divides 4 (length s) ≡ true =
    more_divides 4 (length rest) (length s) c.requires.whole (omega (arith, long)) in
    let short : length rest + 4 < 256 ^ 4 = omega (arith, c.count-place.ensures) in
    rw c.lay_u32.ensures.most (reference_end L c.args.out.now.most X n d s rest is long short whole c.requires.wide h)

pub returns-clause-leads : goal.returns-clause-leads
returns-clause-leads c =
    let s = c.lay_u32.new.self.bytes in
    let rest = c.args.out.now.bytes in
    let n = c.args.target in
    let is : s ≡ little_bytes 4 ((length rest + 4) - n) ++ rest =
    c.lay_u32.ensures.bytes ∙ ap (λ k. little_bytes 4 ((k + 4) - n) ++ rest) c.count-place.ensures.exact in
    let long : length s ≡ 4 + length rest = (let whole = ap length is in omega (arith, whole)) in
    let short : length rest + 4 < 256 ^ 4 = omega (arith, c.count-place.ensures) in
    let first : length s - length s ≡ 0 = omega arith in
    let number : num s 0 4 ≡ (length rest + 4) - n =
    ap (λ b. num b 0 4) is ∙ num_first 4 ((length rest + 4) - n) rest (omega (arith, short)) in
    record {
      from = omega arith;
      to = omega (arith, long, c.requires.inside);
      way = rw (first, number) (omega (arith, long));
    }
