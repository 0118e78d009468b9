use Rattle.std.proofs.Common.{rules, ◌≡◌, sym, subst, map, take}
use Rattle.fb_declare.specs.AttributeFaults.{attribute_behind}
use Rattle.fb_declare.specs.NameSet.{is_met, AreMet}
use Rattle.fb_declare.proofs.Least.{least_more, map-taken}
use Rattle.fb_declare.proofs.attribute_faults.fault_of_many.Goals as goal

pub loop-attribute-preserved : goal.loop-attribute-preserved
loop-attribute-preserved c =
    let attributes = c.args.attributes.now in
    let i = c.loop-attribute.attribute-index in
    let a = c.attribute-item.result in
    let text : c.name.inside.text.now ≡ a.name.bytes = grind rules in
    let met = rw text at (c.in_ok-again.ensures (map (λ b. b.name.bytes) (take i attributes))
    c.loop-attribute.invariant.met) in
    record {
      least = rw (c.earlier_fault-least.ensures, c.attribute_fault.ensures, met.0, c.loop-attribute.invariant.least)
          (least_more (attribute_behind (is_met c.args.declared.now) c.args.host) attributes i a
          c.loop-attribute-test.true c.attribute-item.is);
      met = subst (AreMet c.meet.new.self) (sym (map-taken
          (λ b. b.name.bytes) attributes i a c.loop-attribute-test.true c.attribute-item.is)) met.1;
    }
