use Rattle.std.proofs.Common.{ℕ, ◌≡◌, ◌+◌, ◌<◌, Bool, cond, List, ◌∷◌, [], ◌++◌, length, drop, get_or}
use Rattle.std.proofs.Common.{refl, sym, ap, ◌∙◌, append_assoc, append-nil}
use Rattle.std.proofs.lemmas.List.{at_drop_more, at_drop_all}
use Rattle.fb_findings.specs.Positions.{is_feed, starts_from}
use Rattle.fb_findings.proofs.line_starts.LineStarts.of.Goals as goal
use Rattle.fb_findings.proofs.line_starts.LineStarts.of.Goals.{then-is_feed+in_ok-push, else-is_feed}

byte_read : (begun text : List ℕ) (at : ℕ) (feed : Bool) → at < length text → feed ≡ is_feed (get_or text at 0)
    → let rest = starts_from (at + 1) (drop (at + 1) text) in
    begun ++ starts_from at (drop at text) ≡ begun ++ cond feed ((at + 1) ∷ rest) rest
byte_read begun text at feed low is =
    let rest = starts_from (at + 1) (drop (at + 1) text) in
    ap (λ starts. begun ++ starts) (at_drop_more (starts_from at) text at 0 low)
    ∙ ap (λ b. begun ++ cond b ((at + 1) ∷ rest) rest) (sym is)

pub loop-at-init : goal.loop-at-init
loop-at-init c = rw c.new-starts.ensures.items refl

pub loop-at-preserved : goal.loop-at-preserved
loop-at-preserved c =
    let begun = c.loop-at.starts.items in
    let at = c.loop-at.at in
    let text = c.args.text.now in
    elim c.if-is_feed.branch [
      | then-is_feed+in_ok-push w ↦
          let is = sym w.if-is_feed.true ∙ c.is_feed.ensures in
          rw w.starts-is (rw w.in_ok-push.ensures.items
          (append_assoc begun ((at + 1) ∷ []) _ ∙ sym (byte_read begun text at _ c.loop-at-test.true is)
          ∙ c.loop-at.invariant))
      | else-is_feed w ↦
          let is = sym w.if-is_feed.false ∙ c.is_feed.ensures in
          rw w.starts-is (sym (byte_read begun text at _ c.loop-at-test.true is) ∙ c.loop-at.invariant)
    ]

pub returns : goal.returns
returns c =
    let begun = c.loop-at.starts.items in
    let text = c.args.text.now in
    let read = at_drop_all (starts_from c.loop-at.at) text c.loop-at.at c.loop-at-test.false in
    record {
      entries = sym (ap (λ rest. begun ++ rest) read ∙ append-nil begun) ∙ c.loop-at.invariant;
    }
