use Rattle.std.proofs.Common.{rules}
use Rattle.fb_pieces.proofs.strings.StringIsOneToken.{string_is_one_token}
use Rattle.fb_pieces.proofs.strings.string_of.Goals as goal

-- src/strings.rt:10:1
pub returns : goal.returns
returns c = λ levels. string_is_one_token _ _ (search rules) levels
