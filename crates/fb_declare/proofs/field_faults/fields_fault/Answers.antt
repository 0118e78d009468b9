use Rattle.std.proofs.Common.{◌∙◌, [], take, ap, sym, subst}
use Rattle.std.specs.List.{flat_map}
use Rattle.std.proofs.lemmas.List.{flat_map_more}
use Rattle.fb_declare.specs.FaultRows.{faults_behind, name_again}
use Rattle.fb_declare.specs.NameSet.{is_met, AreMet}
use Rattle.fb_declare.specs.TypeFaults.{names_of_field, field_faults, field_behind}
use Rattle.fb_declare.proofs.Least.{taken, least_of_append, least_more}
use Rattle.fb_declare.proofs.field_faults.fields_fault.Goals as goal

pub loop-field-preserved : goal.loop-field-preserved
loop-field-preserved c =
    let fields = c.args.fields.now in
    let i = c.loop-field.field-index in
    let r = c.field-item.result in
    let h = c.loop-field-test.true in
    let e = c.field-item.is in
    let declared = is_met c.args.declared.now in
    let host = c.args.host in
    let names = names_of_field host in
    let before = flat_map names (take i fields) in
    let told = c.in_ok-again.ensures before c.loop-field.invariant.met in
    record {
      least = rw (
        c.earlier_fault-least.ensures,
        c.earlier_fault.ensures,
        told.0,
        c.in_ok-fault.ensures,
        c.loop-field.invariant.least,
        ← least_of_append (faults_behind (name_again r.field.name.at) before (names r)) (field_faults declared host r),
      )
          (least_more (field_behind declared host) fields i r h e);
      met = subst (AreMet c.names_fault.new.met) (flat_map_more names [] (take i fields) r
          ∙ ap (flat_map names) (sym (taken fields i r h e))) told.1;
    }
