use Rattle.std.proofs.Common.{◌≡◌}
use Rattle.fb_syntax.specs.Spells.{mark_len}
use Rattle.fb_syntax.proofs.FrontPieces.{Scanned}
use Rattle.fb_syntax.proofs.scan.tokens_in.Given as goal

abbrev pub invariant-loop-token : goal.invariant-loop-token
invariant-loop-token l = record {
  text : l.token-iterator.text.now ≡ l.text;
  scanned : Scanned (mark_len l.text) l.text l.token-iterator.at l.found.items;
}
