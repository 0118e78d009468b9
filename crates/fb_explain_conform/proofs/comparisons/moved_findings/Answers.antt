use Rattle.std.proofs.Common.{◌≡◌, IfOk, IfSome, map, subst}
use Rattle.fb_declare.specs.SchemaTexts.{IsAccepted}
use Rattle.fb_faults.specs.declared.faults.ToolFault.TheVariants as the_faults
use Rattle.fb_explain_conform.proofs.AllAreListed.{moved_listed}
use Rattle.fb_explain_conform.proofs.comparisons.moved_findings.Goals as goal

-- a text has no layout
pub returns-in-None : goal.returns-in-None
returns-in-None c = record {
  all = λ L L' old new. absurd (c.in_ok-both.ensures.refused c.in-None.is L L' old new);
}

pub returns-in_ok-names-in-Some : goal.returns-in_ok-names-in-Some
returns-in_ok-names-in-Some c =
    let old = c.args.old.bytes.now in
    let new = c.args.new.bytes.now in
    let accepted = subst (λ o. IfSome o (λ b. IsAccepted old b.old.layout × IsAccepted new b.new.layout)) c.in-Some.is
    c.in_ok-both.ensures.accepted in
    let listed = c.in_ok-names-in-Some.ensures in
    record {
      all = moved_listed (λ list. map (λ f. f.fault) list.items) c.moved_findings.result c.text_has_one_layout.ensures
          old new
          c.in-Some.both.old.layout c.in-Some.both.new.layout c.in_ok-names-in-Some.names.items accepted.0 accepted.1
          listed.all listed.order
          (subst
          (λ xs. IfOk c.moved_findings.result (λ list. map (λ f. f.fault) list.items ≡ map the_faults.NameMoved xs))
          c.as_slice.ensures.value c.moved_findings.ensures);
    }
