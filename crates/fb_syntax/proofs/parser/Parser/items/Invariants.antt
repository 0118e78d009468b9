use Rattle.std.proofs.Common.{[], length, ◌≤◌}
use Rattle.fb_syntax.specs.Rules.{closes, push}
use Rattle.fb_syntax.proofs.Repeat.{Repeats}
use Rattle.fb_syntax.proofs.parser.Parser.items.Given as goal

abbrev pub invariant-loop-close : goal.invariant-loop-close
invariant-loop-close g l = record {
  so_far : Repeats g.T.ListItem.rule.read (closes l.close) push [] l.initial.self l.items.items l.self;
  within : length l.self ≤ length l.initial.self;
}

abbrev pub decreases-loop-close : goal.decreases-loop-close
decreases-loop-close g l = length l.self
