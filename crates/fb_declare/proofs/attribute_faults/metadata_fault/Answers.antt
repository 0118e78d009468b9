use Rattle.std.proofs.Common.{rules, ◌≡◌, ◌∙◌, ◌++◌, ◌||◌, List, [], ◌∷◌, Bool, false, true, length, get_or, ap, refl}
use Rattle.std.proofs.Common.{sym, arith}
use Rattle.std.specs.Str.{bytes_eq}
use Rattle.std.proofs.lemmas.List.{append-nil}
use Rattle.fb_syntax.specs.Attributes.{AttributeRead}
use Rattle.fb_schema.specs.Schema.{Name}
use Rattle.fb_declare.specs.AttributeFaults.{attribute_faults, metadata_faults}
use Rattle.fb_declare.specs.Faults.{earlier, least_of}
use Rattle.fb_declare.specs.declared.attribute_faults.AttributeHost.{AttributeHost}
use Rattle.fb_declare.specs.NameSet.{is_met}
use Rattle.fb_declare.proofs.Least.{least_of_append}
use Rattle.fb_declare.proofs.attribute_faults.metadata_fault.Goals as goal
use Rattle.std.proofs.Math.Bool.{or-false}

-- of two attributes
two : (declared : Name → Bool) (host : AttributeHost) (all : List AttributeRead) (a b : AttributeRead) (again : Bool)
    → length all ≡ 2 → a ≡ get_or all 0 a → b ≡ get_or all 1 b → again ≡ bytes_eq b.name.bytes a.name.bytes
    → earlier (least_of (attribute_faults declared host false a))
    (least_of (attribute_faults declared host again b)) ≡ least_of (metadata_faults declared host all)
two declared host [] a b again long at_a at_b e = absurd (omega (arith, long))
two declared host (x ∷ []) a b again long at_a at_b e = absurd (omega (arith, long))
two declared host (x ∷ y ∷ z ∷ zs) a b again long at_a at_b e = absurd (omega (arith, long))
two declared host (x ∷ y ∷ []) a b again long at_a at_b e =
    let rule = attribute_faults declared host in
    let told : again ≡ (bytes_eq y.name.bytes x.name.bytes || false) = e
    ∙ (λ j. bytes_eq (at_b j).name.bytes (at_a j).name.bytes)
    ∙ sym (or-false (bytes_eq y.name.bytes x.name.bytes)) in
    (λ j. earlier (least_of (rule false (at_a j))) (least_of (rule (told j) (at_b j))))
    ∙ sym (least_of_append (rule false x) (rule (bytes_eq y.name.bytes x.name.bytes || false) y))
    ∙ ap (λ fs. least_of (rule false x ++ fs)) (sym (append-nil (rule (bytes_eq y.name.bytes x.name.bytes || false) y)))

pub returns-in-len2 : goal.returns-in-len2
returns-in-len2 c =
    let a = c.one-item-then-attributes-lt3.result in
    let b = c.other-item.result in
    let again : c.eq-again.result ≡ bytes_eq b.name.bytes a.name.bytes = grind rules in
    let long : length c.args.attributes.now ≡ 2 = omega (arith, c.in-len2.len_at_least, c.in-len2.len_below) in
    c.earlier_fault.ensures ∙ (λ j. earlier (c.attribute_fault-first.ensures j) (c.attribute_fault-in-len2.ensures j))
    ∙ two (is_met c.args.declared.now) c.args.host c.args.attributes.now a b c.eq-again.result long
    c.one-item-then-attributes-lt3.is c.other-item.is again
