use Rattle.std.proofs.Common.{◌≡◌, true, false, None, Some, option_copied, sym, ap, ◌∙◌}
use Rattle.fb_conform.proofs.names.MovedNamesAreFound.{apart, no_name, new_slot, moved_to}
use Rattle.fb_conform.proofs.names.is_moved.Goals as goal

pub returns-in_default : goal.returns-in_default
returns-in_default c =
    let none = sym c.name_in.ensures ∙ ap option_copied c.in_default.is in (
      λ test. let bad : false ≡ true = test in cc,
      λ moved. absurd (no_name c.args.old.now c.args.new.now c.requires.declared c.args.place c.args.twin.0
          c.requires.twins none moved),
    )

pub returns-in-None : goal.returns-in-None
returns-in-None c =
    let here = sym c.name_in.ensures ∙ ap option_copied c.in-Some.is in
    let name = c.in-Some.name.now in
    let new = sym c.slot_named.ensures ∙ c.in-None.is in (
      λ test. let bad : false ≡ true = test in cc,
      λ moved. let bad : None ≡ Some moved.slot = sym new ∙ new_slot c.args.old.now c.args.new.now c.requires.declared
          c.args.place c.args.twin.0 c.requires.twins name here moved in cc,
    )

pub returns-in-Some-slot_named : goal.returns-in-Some-slot_named
returns-in-Some-slot_named c =
    let here = sym c.name_in.ensures ∙ ap option_copied c.in-Some.is in
    let k = c.in-Some-slot_named.slot in
    let moved = moved_to c.args.old.now c.args.new.now c.requires.declared c.args.place c.args.twin.0 c.requires.twins
    c.in-Some.name.now here k (sym c.slot_named.ensures ∙ c.in-Some-slot_named.is) in
    let test = apart k c.from.result in (
      λ differs. moved.1 (λ same. test.0 differs (same ∙ sym c.from.ensures)),
      λ is. test.1 (λ same. moved.0 is (same ∙ c.from.ensures)),
    )
