use Rattle.std.proofs.Common.{◌≡◌, length, ◌-◌, ◌≤◌, drop, Option, Result}
use Rattle.fb_syntax.specs.declared.tokens.Token.{Token}
use Rattle.fb_syntax.specs.declared.tokens.BadToken.{BadToken}
use Rattle.fb_syntax.specs.NextToken.{ComesNext}
use Rattle.fb_syntax.proofs.scan.TokensIterator.next.Given as goal

abbrev pub invariant-loop-self : goal.invariant-loop-self
invariant-loop-self l =
    let all = l.initial.self.text.now in
    record {
      text : l.self.text.now ≡ all;
      after : l.initial.self.at ≤ l.self.at;
      gaps : (found : Option (Result Token BadToken)) → ComesNext l.self.at (drop l.self.at all) found
          → ComesNext l.initial.self.at (drop l.initial.self.at all) found;
    }

abbrev pub decreases-loop-self : goal.decreases-loop-self
decreases-loop-self l = length l.self.text.now - l.self.at
