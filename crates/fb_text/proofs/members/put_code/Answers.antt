use Rattle.std.proofs.Common.{◌≡◌, ◌||◌, Bool, true, false, refl, sym, ap, ◌∙◌}
use Rattle.fb_schema.specs.declared.kinds.Shape.TheVariants.{One}
use Rattle.fb_schema.specs.Seen.{field_seen}
use Rattle.fb_text.specs.Indents.{blanks}
use Rattle.fb_text.proofs.members.UnionHasACode.{no_code, union_code}
use Rattle.fb_text.proofs.noted.PiecesAddUp.{added_then, added_as, added_none}
use Rattle.fb_text.proofs.values.MemberIsItsCodeAndValue.{is_some_now}
use Rattle.fb_text.proofs.members.put_code.Goals as goal

still : (some : Bool) → some ≡ (some || false)
still true = refl
still false = refl

pub returns-in_default : goal.returns-in_default
returns-in_default g c =
    let slot = field_seen c.args.slot.now in
    let none = no_code c.args.schema.now (blanks c.args.indent.now) c.args.some slot.name slot.shape c.args.found in
    record {
      text = λ d top. added_as (sym (none d c.in_default.not-Member top).0) (added_none _);
      some = λ d top. rw (none d c.in_default.not-Member top).1 (still c.args.some);
    }

pub returns-in_default-shape-2-clause-text : goal.returns-in_default-shape-2-clause-text
returns-in_default-shape-2-clause-text g c d top = rw c.in_default-shape.is (added_none _)

pub returns-in_default-shape-2-clause-some : goal.returns-in_default-shape-2-clause-some
returns-in_default-shape-2-clause-some g c d top = rw c.in_default-shape.is (still c.args.some)

pub returns-clause-text : goal.returns-clause-text
returns-clause-text g c d top =
    let slot = field_seen c.args.slot.now in
    let shape = c.in-One-Union.is ∙ ap One (rw c.in-One-Union.is at c.in-One-Union.field-0-is) in
    let code = union_code c.args.schema.now (blanks c.args.indent.now) c.args.some slot.name slot.shape
    c.in-One-Union.union c.args.found c.in-Member.code d shape c.in-Member.is top in
    let line = rw c.as_str.ensures.value at c.put_member_line.ensures in
    let member = rw c.member_name.ensures at c.put_name.ensures in
    added_as code.0 (added_then _ _ _ _ _ line member)

pub returns-clause-some : goal.returns-clause-some
returns-clause-some g c d top =
    let slot = field_seen c.args.slot.now in
    let shape = c.in-One-Union.is ∙ ap One (rw c.in-One-Union.is at c.in-One-Union.field-0-is) in
    let code = union_code c.args.schema.now (blanks c.args.indent.now) c.args.some slot.name slot.shape
    c.in-One-Union.union c.args.found c.in-Member.code d shape c.in-Member.is top in
    rw code.1 (is_some_now c.args.some)
