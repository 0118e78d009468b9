use Rattle.fb_pieces.proofs.laws.LexemesSplitOutsideStrings.{lex-cut}
use Rattle.json.specs.Lex.{between}
use Rattle.fb_pieces.proofs.laws.lexemes_split.Goals as goal

pub returns : goal.returns
returns c = λ text next may. lex-cut text next between may
