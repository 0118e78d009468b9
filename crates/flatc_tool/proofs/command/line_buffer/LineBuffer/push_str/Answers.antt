use Rattle.std.proofs.Common.{rules, ◌≡◌, ◌+◌, ◌-◌, ◌++◌, length, take}
use Rattle.std.proofs.lemmas.Slice.{overwrites}
use Rattle.std.proofs.lemmas.Str.{IsUtf8-append, IsUtf8-had}
use borrow.Rule.Slice.PartMut.{put_mid}
use Rattle.flatc_tool.proofs.command.line_buffer.LineBuffer.push_str.Goals as goal

pub invariant_of-self-clause-utf8 : goal.invariant_of-self-clause-utf8
invariant_of-self-clause-utf8 c =
    let end = c.args.self.now.len + length c.args.piece.now in
    let text = take c.args.self.now.len c.args.self.now.bytes in
    let written =
    put_mid c.args.self.now.len (end - c.args.self.now.len) c.args.self.now.bytes c.copy_from_slice.new.self in
    let front : take end written ≡ text ++ c.args.piece.now = search (rules, overwrites) in
    ∣ rw front (IsUtf8-append _ _ (IsUtf8-had _ c.args.self.now.utf8) c.utf8.piece) ∣₁
