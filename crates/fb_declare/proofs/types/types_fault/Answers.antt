use Rattle.std.proofs.Common.{◌≡◌, ◌∙◌, [], ap, sym, take, arith}
use Rattle.std.proofs.lemmas.List.{take_all}
use Rattle.fb_resolve.specs.StructsRead.{natural_of_type}
use Rattle.fb_declare.specs.NameSet.{is_met}
use Rattle.fb_declare.specs.TypeFaults.{aligns_from, type_behind}
use Rattle.fb_declare.proofs.Least.{least_more}
use Rattle.fb_declare.proofs.StructsKept.{aligns-more, length-before}
use Rattle.fb_declare.proofs.types.types_fault.Goals as goal
use Rattle.fb_declare.proofs.TypesKept.{told_type}

pub bounds-repeats-number : goal.bounds-repeats-number
bounds-repeats-number c =
    let known = c.args.resolved.now in
    (told_type known.outline.now.types known.repeats.now c.as_slice-types.result.now c.loop-number.number
    c.index-types-number.result known.repeated
    (c.as_slice-types.ensures.value ∙ known.meant) c.loop-number-test.true c.index-types-number.is).0

pub loop-number-preserved : goal.loop-number-preserved
loop-number-preserved c =
    let known = c.args.resolved.now in
    let types = known.outline.now.types in
    let rs = c.as_slice-types.result.now in
    let i = c.loop-number.number in
    let r = c.index-types-number.result in
    let lower = aligns_from types [] (take i rs) in
    let h = c.loop-number-test.true in
    let e = c.index-types-number.is in
    let natural : natural_of_type types lower r ≡ c.natural_of_type-natural.result =
    sym (c.natural_of_type-natural.ensures ∙ ap (λ l. natural_of_type types l r)
    (c.as_slice.ensures.value ∙ c.loop-number.invariant.lower)) in
    record {
      room = omega arith;
      least = rw (
        c.earlier_fault-least.ensures,
        c.in_ok-fault.ensures types lower (length-before types rs i h) natural,
        (told_type types known.repeats.now rs i r known.repeated
            (c.as_slice-types.ensures.value ∙ known.meant) h e).1,
        c.loop-number.invariant.least,
      )
          (least_more (type_behind types (is_met c.args.declared.now)) rs i r h e);
      lower = rw (
        c.push_reserved.ensures.items,
        c.align_of_type.ensures types lower natural,
        c.loop-number.invariant.lower,
      )
          (sym (aligns-more types rs i r h e));
    }

pub returns : goal.returns
returns c =
    let types = c.as_slice-types.result.now in
    let all = take_all c.loop-number.number types (omega (arith, c.loop-number-test.false)) in
    rw (← c.as_slice-types.ensures.value, ← all) c.loop-number.invariant.least
