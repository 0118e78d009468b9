use Rattle.std.proofs.Common.{◌≡◌, ◌∙◌, ◌||◌, rules, not, ap, sym, cond, true}
use Rattle.std.proofs.lemmas.Cmp.{nat_list_eq_equiv}
use Rattle.std.specs.Str.{bytes_eq}
use Rattle.fb_declare.specs.NameSet.{is_met}
use Rattle.fb_declare.proofs.Least.{list_any-snoc, one_more}
use Rattle.fb_declare.proofs.name_set.NameSet.meet.Goals as goal

pub returns : goal.returns
returns c = λ before met.
    let name = c.args.name.now in
    let again : not c.in_ok-is_new.is_new ≡ is_met c.args.self.now name = search rules in (
      again ∙ met name,
      λ n. let old = is_met c.args.self.now n in
          c.in_ok-is_new.ensures.updates.0 (record { ref_ptr = (0, 0); now = n })
          ∙ ap (λ b. cond b true old) (nat_list_eq_equiv.symm name n)
          ∙ one_more (bytes_eq n name) old ∙ ap (λ b. b || bytes_eq n name) (met n)
          ∙ sym (list_any-snoc (bytes_eq n) before name),
    )
