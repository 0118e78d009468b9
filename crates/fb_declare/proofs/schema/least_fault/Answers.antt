use Rattle.std.proofs.Common.{rules, ◌≡◌, ◌∙◌, ◌++◌, refl, ap, map}
use Rattle.fb_resolve.specs.Resolved.{resolved_types, meaning_of_root}
use Rattle.fb_declare.specs.Faults.{least_of}
use Rattle.fb_declare.specs.FaultRows.{faults_in_turn, is_among, root_faults, identifier_faults}
use Rattle.fb_declare.proofs.Least.{least_of_append}
use Rattle.fb_declare.specs.TypeFaults.{type_behind, declared_in, faults_of_outline}
use Rattle.fb_declare.proofs.schema.least_fault.Goals as goal

pub returns : goal.returns
unfolding faults_of_outline
returns c =
    let r = c.args.resolved.now in
    let o = r.outline.now in
    let names : map (λ n. n.now) c.as_slice.result.now ≡ o.attributes = grind rules in
    let fs = faults_in_turn (type_behind o.types (declared_in o)) (resolved_types o.types) in
    let gs = root_faults o.text_len o.root (meaning_of_root o.types o.root) in
    let hs = identifier_faults o.identifier in
    let told : c.in_ok-in_types.in_types ≡ least_of fs = c.in_ok-in_types.ensures
    ∙ (λ i. least_of (faults_in_turn (type_behind o.types (λ n. (c.in_ok-declared.ensures n ∙ ap (is_among n) names) i))
    (r.meant i))) in
    let root : c.root_fault-root.result ≡ least_of gs = grind rules in
    let identifier : c.identifier_fault-identifier.result ≡ least_of hs = grind rules in
    rw (
      c.earlier_fault-2.ensures,
      c.earlier_fault.ensures,
      told,
      root,
      identifier,
      ← least_of_append fs gs,
      ← least_of_append (fs ++ gs) hs,
    ) refl
