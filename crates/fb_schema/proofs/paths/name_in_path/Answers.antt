use Rattle.std.proofs.Common.{◌≡◌, Option, Some, None, false, refl, rules}
use Rattle.std.specs.Prelude.{is_some}
use Rattle.std.specs.Path.{rsplit_once}
use Rattle.fb_schema.specs.Schema.{Name}
use Rattle.fb_schema.specs.Paths.{dot, name_of_split}
use Rattle.fb_schema.proofs.LastDot.{split_at_dot}
use Rattle.fb_schema.proofs.paths.name_in_path.Goals as goal

pub returns-in-None : goal.returns-in-None
returns-in-None c =
    let split = split_at_dot c.args.path.now _ c.rsplit_once.ensures.cases in
    rw (← split) (grind rules)

pub returns-in-Some : goal.returns-in-Some
returns-in-Some c =
    let split = split_at_dot c.args.path.now _ c.rsplit_once.ensures.cases in
    rw (← split) (grind rules)

pub returns-in-Some-2 : goal.returns-in-Some-2
returns-in-Some-2 c =
    let split = split_at_dot c.args.path.now _ c.rsplit_once.ensures.cases in
    rw (← split) (grind rules)

undivided : (full path : Name) (split : Option (Name × Name)) → false ≡ is_some split
    → Some path ≡ name_of_split full path split
undivided full path None h = refl
undivided full path (Some split) h = cc h

pub returns-then-not-has_dot : goal.returns-then-not-has_dot
returns-then-not-has_dot c =
    undivided c.args.full.now c.args.path.now (rsplit_once dot c.args.path.now) c.if-not-has_dot.ensures
