use Rattle.std.proofs.Common.{arith}
use Rattle.fb_encode.proofs.parts.TextIsNoted.{text_noted}
use Rattle.fb_encode.proofs.parts.note_text.Goals as goal

pub returns-clause-noted : goal.returns-clause-noted
returns-clause-noted c =
    let pushed = c.in_ok-push_text.ensures in
    text_noted _ c.args.tree.now _ c.args.place c.args.left _ _ _ c.in_ok-text.ensures.gives (record {
      waits = pushed.waits;
      sum = omega (arith, pushed.room);
      layout = pushed.layout;
      whole = pushed.whole;
    })
