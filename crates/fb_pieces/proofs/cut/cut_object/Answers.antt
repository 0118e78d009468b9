use Rattle.std.proofs.Common.{◌+◌, sym, ◌∙◌}
use Rattle.std.proofs.lemmas.List.{take_rest}
use Rattle.fb_pieces.proofs.cut.PiecesFollowOneAnother.{members_before_push, members_with_last}
use Rattle.fb_pieces.proofs.cut.cut_object.Goals.{then-are_blanks, else-are_blanks}
use Rattle.fb_pieces.proofs.cut.cut_object.Goals as goal

pub returns-then-member : goal.returns-then-member
returns-then-member c =
    elim c.if-are_blanks.branch [
      | then-are_blanks w ↦ rw w.result-is (record {
        at = c.in-Some.opening;
        end = c.in-Some-next_member.member.value.end + 1;
        before = c.in-Some.ensures.opens;
        cut = rw c.in_ok-push.ensures.items
            (members_with_last c.args.text.now (c.in-Some.opening + 1) c.loop.from c.loop.members.items
            c.in-Some-next_member.member c.loop.invariant c.in-Some-next_member.ensures.member c.if-member.true);
        after = rw take_rest at (sym c.are_blanks.ensures ∙ w.if-are_blanks.true);
      })
      | else-are_blanks w ↦ rw w.result-is tt
    ]

pub loop-preserved : goal.loop-preserved
loop-preserved c =
    rw c.in_ok-push.ensures.items
    (members_before_push c.args.text.now (c.in-Some.opening + 1) c.loop.from c.loop.members.items
    c.in-Some-next_member.member c.loop.invariant c.in-Some-next_member.ensures.member c.if-member.false)
