use Rattle.std.proofs.Common.{◌≡◌, ◌∙◌, Ok, Some, ap, option_map, sym}
use Rattle.std.proofs.lemmas.Result.{err_from_is_err_and}
use Rattle.serde_json.specs.Find.{as_object}
use Rattle.serde_json.specs.View.{members_view, view as tree_view}
use Rattle.fb_schema.specs.declared.kinds.Kind.TheVariants.{Struct}
use Rattle.fb_schema.specs.declared.kinds.Shape.TheVariants.{One}
use Rattle.fb_json.proofs.elements.ReadValueFitsItsPlace.{parts_fit, parts_whole}
use Rattle.fb_json.proofs.elements.StructsAreObjects.{no_object, of_object}
use Rattle.fb_json.proofs.elements.struct_parts.Goals as goal

pub returns-in_default-clause-gives : goal.returns-in_default-clause-gives
returns-in_default-clause-gives c =
    no_object c.args.source.layout.now c.args.source.unknown c.args.owner c.args.place c.args.room.levels c.args.room.left
    (tree_view c.args.tree.now)
    (sym c.as_object.ensures ∙ ap (option_map (λ m. members_view m.now.entries)) c.in_default.is)

pub returns-in_err-left-clause-gives : goal.returns-in_err-left-clause-gives
returns-in_err-left-clause-gives c =
    let p = err_from_is_err_and c.from_residual.result c.from_residual.ensures.1 in
    let seen : as_object (tree_view c.args.tree.now) ≡ Some (members_view c.in-Some.members.now.entries) =
    sym c.as_object.ensures ∙ ap (option_map (λ m. members_view m.now.entries)) c.in-Some.is in
    rw (p.1, p.2) (rw (of_object c.args.source.layout.now c.args.source.unknown c.args.owner c.args.place
    c.args.room.levels c.args.room.left (tree_view c.args.tree.now) (members_view c.in-Some.members.now.entries) seen)
    c.in_err-left.ensures.gives)

pub returns-clause-gives : goal.returns-clause-gives
returns-clause-gives c =
    let seen : as_object (tree_view c.args.tree.now) ≡ Some (members_view c.in-Some.members.now.entries) =
    sym c.as_object.ensures ∙ ap (option_map (λ m. members_view m.now.entries)) c.in-Some.is in
    of_object c.args.source.layout.now c.args.source.unknown c.args.owner c.args.place c.args.room.levels c.args.room.left
    (tree_view c.args.tree.now) (members_view c.in-Some.members.now.entries) seen ∙ c.in_ok-left.ensures.gives

pub returns-clause-fits : goal.returns-clause-fits
returns-clause-fits c =
    parts_fit c.args.source.layout.now c.args.source.unknown (tree_view c.args.tree.now) (One (Struct c.args.owner))
    c.args.place c.args.room.levels c.args.room.left c.layout_is_well_made.ensures.declared c.struct_of.new.found
    (Ok c.in_ok-left.left) (returns-clause-gives c)

pub returns-clause-whole : goal.returns-clause-whole
returns-clause-whole c =
    parts_whole c.args.source.layout.now c.args.source.unknown (tree_view c.args.tree.now)
    (One (Struct c.args.owner)) c.args.place c.args.room.levels c.args.room.left c.struct_of.new.found
    (Ok c.in_ok-left.left) (returns-clause-gives c)
