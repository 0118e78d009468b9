use Rattle.std.proofs.Common.{◌≡◌, ◌++◌, ◌∷◌, [], codes, arith}
use Rattle.json.specs.Print.{escape_byte}
use Rattle.fb_text.proofs.noted.PiecesAddUp.{then as joined, added_as}
use Rattle.fb_text.proofs.quotes.put_escape.Goals as goal

pub returns-in-34 : goal.returns-in-34
unfolding escape_byte
returns-in-34 g c = rw c.in-34.is c.put.ensures

pub returns-in-92 : goal.returns-in-92
unfolding escape_byte
returns-in-92 g c = rw c.in-92.is c.put-in-92.ensures

pub returns-in-8 : goal.returns-in-8
unfolding escape_byte
returns-in-8 g c = rw c.in-8.is c.put-in-8.ensures

pub returns-in-12 : goal.returns-in-12
unfolding escape_byte
returns-in-12 g c = rw c.in-12.is c.put-in-12.ensures

pub returns-in-10 : goal.returns-in-10
unfolding escape_byte
returns-in-10 g c = rw c.in-10.is c.put-in-10.ensures

pub returns-in-13 : goal.returns-in-13
unfolding escape_byte
returns-in-13 g c = rw c.in-13.is c.put-in-13.ensures

pub returns-in-9 : goal.returns-in-9
unfolding escape_byte
returns-in-9 g c = rw c.in-9.is c.put-in-9.ensures

pub returns-in_default : goal.returns-in_default
unfolding escape_byte
returns-in_default g c =
    let same : codes "\\u00" ++ (c.digit.result ∷ c.digit-in_default.result ∷ []) ≡ escape_byte c.args.byte =
    rw (c.digit.ensures, c.digit-in_default.ensures) (grind arith) in
    added_as same (joined c.put-in_default.ensures c.put-in_default-2.ensures)
