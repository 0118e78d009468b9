use Rattle.std.proofs.Common.{rules}
use Rattle.fb_schema.proofs.Dots.{any_dot}
use Rattle.fb_schema.proofs.paths.has_dot.Goals as goal

pub returns : goal.returns
returns c = rw (← any_dot c.args.text.now) (grind rules)
