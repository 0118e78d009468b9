use Rattle.serde_json.specs.View.{view as tree_view}
use Rattle.fb_schema.specs.declared.kinds.Kind.TheVariants.{Scalar, Enum}
use Rattle.fb_json.proofs.elements.NumberIsMeant.{enum_front, enum_given, number_fits, scalar_front}
use Rattle.fb_json.proofs.elements.NumberIsMeant.{scalar_given}
use Rattle.fb_json.proofs.elements.number_of.Goals as goal

pub returns-in-Scalar-clause-gives : goal.returns-in-Scalar-clause-gives
returns-in-Scalar-clause-gives c levels left =
    rw c.in-Scalar.is (scalar_given c.args.source.layout.now c.args.source.unknown c.args.place levels left
    c.in-Scalar.base (tree_view c.args.tree.now) c.scalar_of.result c.scalar_of.ensures)

pub returns-in-Scalar-clause-fits : goal.returns-in-Scalar-clause-fits
returns-in-Scalar-clause-fits c =
    rw c.in-Scalar.is (number_fits c.args.source.layout.now c.args.source.unknown c.args.place 0 0
    c.layout_is_well_made.ensures.declared (Scalar c.in-Scalar.base) (tree_view c.args.tree.now) c.scalar_of.result
    (scalar_given c.args.source.layout.now c.args.source.unknown c.args.place 0 0 c.in-Scalar.base
    (tree_view c.args.tree.now) c.scalar_of.result c.scalar_of.ensures))

pub returns-in-Scalar-clause-front : goal.returns-in-Scalar-clause-front
returns-in-Scalar-clause-front c levels left =
    rw c.in-Scalar.is (scalar_front c.args.source.layout.now c.args.source.unknown c.args.place levels left
    c.in-Scalar.base (tree_view c.args.tree.now))

pub returns-in-Enum-clause-gives : goal.returns-in-Enum-clause-gives
returns-in-Enum-clause-gives c levels left =
    rw c.in-Enum.is (enum_given c.args.source.layout.now c.args.source.unknown c.args.place levels left
    c.in-Enum.enumeration (tree_view c.args.tree.now) c.enum_of.result c.enum_of.ensures)

pub returns-in-Enum-clause-fits : goal.returns-in-Enum-clause-fits
returns-in-Enum-clause-fits c =
    rw c.in-Enum.is (number_fits c.args.source.layout.now c.args.source.unknown c.args.place 0 0
    c.layout_is_well_made.ensures.declared (Enum c.in-Enum.enumeration) (tree_view c.args.tree.now) c.enum_of.result
    (enum_given c.args.source.layout.now c.args.source.unknown c.args.place 0 0 c.in-Enum.enumeration
    (tree_view c.args.tree.now) c.enum_of.result c.enum_of.ensures))

pub returns-in-Enum-clause-front : goal.returns-in-Enum-clause-front
returns-in-Enum-clause-front c levels left =
    rw c.in-Enum.is (enum_front c.args.source.layout.now c.args.source.unknown c.args.place levels left
    c.in-Enum.enumeration (tree_view c.args.tree.now))
