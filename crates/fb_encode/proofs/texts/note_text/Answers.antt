use Rattle.std.proofs.lemmas.Result.{err_from_is_err_and}
use Rattle.fb_encode.proofs.texts.note_text.Goals as goal

pub returns-in_err-check_json-in-Err-Unread-Piece-clause-refused :
    goal.returns-in_err-check_json-in-Err-Unread-Piece-clause-refused
returns-in_err-check_json-in-Err-Unread-Piece-clause-refused c =
    let p = err_from_is_err_and c.from_residual.result c.from_residual.ensures.1 in
    rw (p.1, p.2) (c.in_err-check_json-in-Err-Unread-Piece.ensures.refused c.args.source.layout.now c.args.limits
    c.args.source.unknown)

pub returns-in-Err-Fault-clause-refused : goal.returns-in-Err-Fault-clause-refused
returns-in-Err-Fault-clause-refused c =
    rw c.first_fault.ensures (rw c.in-Err-Fault.field-0-is at c.in-Err-Fault.ensures.refused)
