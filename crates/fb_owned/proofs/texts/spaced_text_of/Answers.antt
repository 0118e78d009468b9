use Rattle.std.proofs.Common.{◌≡◌, ℕ, List, [], true, false, Some, Result, Ok, Err, IsUtf8, refl, ap, sym, subst, ◌∙◌}
use Rattle.std.specs.Prelude.{is_err}
use Rattle.fb_schema.specs.Schema.{DeclaredSchema}
use Rattle.fb_value.specs.View.{view}
use Rattle.fb_json.specs.Meant.{type_place}
use Rattle.fb_json.proofs.texts.ValueTextsAreUtf8.{value_utf8}
use Rattle.fb_text.specs.Texts.{spaced_text}
use Rattle.fb_text.specs.Unnamed.{first_unnamed}
use Rattle.fb_text.specs.Writes.{IsWritten}
use Rattle.fb_text.specs.declared.faults.WriteFault.{WriteFault}
use Rattle.fb_text.proofs.texts.TextIsUtf8.{text_utf8}
use Rattle.fb_text.proofs.texts.WholeWhereEachUnionIsNamed.{named_whole, unnamed_part}
use Rattle.fb_owned.proofs.texts.spaced_text_of.Goals as goal

-- what a writer has got that had nothing
written_items : (r : Result (Unit {0}) WriteFault) (old new text : List ℕ) → is_err r ≡ false → old ≡ []
    → IsWritten (Some old) (Some new) text r → new ≡ text
written_items (Ok x) old new text fine none got = rw none at got
written_items (Err f) old new text fine none got = cc

pub returns-in-Some-clause-refused : goal.returns-in-Some-clause-refused
returns-in-Some-clause-refused c =
    let d = view c.args.value.now in
    let root = c.root.result in
    let is : root.0 ≡ c.args.layout.now.schema.root =
    c.root.ensures ∙ ap (λ (s : DeclaredSchema). s.root) c.schema.ensures.schema in
    let P : ℕ → Type 0 = λ r. first_unnamed (type_place r) d ≡ Some c.in-Some.unnamed in
    let found = c.in-Some.ensures c.args.layout.now (Some d) refl in
    (unnamed_part (type_place root.0) c.in-Some.unnamed d found, subst P is (sym found))

pub returns-then-is_err-clause-refused : goal.returns-then-is_err-clause-refused
returns-then-is_err-clause-refused c =
    named_whole (type_place c.root.result.0) (view c.args.value.now)
    (c.in_default.ensures c.args.layout.now (Some (view c.args.value.now)) refl)

pub unreachable-requires : goal.unreachable-requires
unreachable-requires c =
    let L = c.args.layout.now in
    let d = view c.args.value.now in
    let made = written_items c.write_shown.result _ _ (spaced_text c.args.spacing L c.args.defaults d)
    (sym c.is_err.ensures.value ∙ c.if-is_err.false) (rw c.over-out.ensures.same c.new.ensures.items)
    (c.write_shown.ensures.written d refl) in
    let text = text_utf8 L c.names_are_utf8.ensures c.args.defaults c.args.spacing d (value_utf8 c.args.value.now) in
    let utf8 : IsUtf8 c.into_inner.result.items = rw (c.into_inner.ensures, made) text in
    let fine : false ≡ true = rw c.in-Err.is at (c.from_utf8.ensures.succeeds utf8) in
    cc

pub returns-clause-text : goal.returns-clause-text
returns-clause-text c =
    let L = c.args.layout.now in
    let d = view c.args.value.now in
    let made = written_items c.write_shown.result _ _ (spaced_text c.args.spacing L c.args.defaults d)
    (sym c.is_err.ensures.value ∙ c.if-is_err.false) (rw c.over-out.ensures.same c.new.ensures.items)
    (c.write_shown.ensures.written d refl) in
    rw (c.in-Ok.ensures.ok, c.into_inner.ensures) made

pub returns-clause-whole : goal.returns-clause-whole
returns-clause-whole c =
    named_whole (type_place c.root.result.0) (view c.args.value.now)
    (c.in_default.ensures c.args.layout.now (Some (view c.args.value.now)) refl)
