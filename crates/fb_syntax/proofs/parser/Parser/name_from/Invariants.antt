use Rattle.std.proofs.Common.{length, ◌≤◌}
use Rattle.fb_syntax.specs.Rules.{dot_word, no_dot, with_word}
use Rattle.fb_syntax.proofs.Repeat.{Repeats}
use Rattle.fb_syntax.proofs.parser.Parser.name_from.Given as goal

abbrev pub invariant-loop-self : goal.invariant-loop-self
invariant-loop-self l = record {
  so_far : Repeats dot_word.read no_dot with_word l.fn.first l.initial.self l.name l.self;
  within : length l.self ≤ length l.initial.self;
}

abbrev pub decreases-loop-self : goal.decreases-loop-self
decreases-loop-self l = length l.self
