use Rattle.std.proofs.Common.{rules, arith, ap, ◌≡◌, ◌∙◌, slice_index_or}
use Rattle.std.proofs.lemmas.List.{get_or_default}
use Rattle.fb_inspect.specs.Listings.{head_of}
use Rattle.fb_inspect.proofs.cover.OneMoreIsKept.{noted_more}
use Rattle.fb_inspect.proofs.cover.without_gaps.Goals as goal

pub loop-i-preserved : goal.loop-i-preserved
loop-i-preserved c =
    record {
      listed = search rules;
      begun = λ j d later within k d' inside.
          let here = c.in_ok-covered.ensures.begun k d' inside in
          let same : head_of c.before_next-piece.result ≡ head_of (slice_index_or c.args.pieces.now c.loop-i.i d) =
          c.before_next-piece.ensures ∙ ap head_of (get_or_default c.args.pieces.now c.loop-i.i _ d (omega arith)) in
          let begin = ap (λ head. head.0) same in
          let order = c.requires.ordered c.loop-i.i j d (omega arith) within in
          omega (arith, begin, here, order);
      kept =
          noted_more c.args.pieces.now c.loop-i.all.items c.push_piece.new.pieces.items c.before_next-piece.result _
          c.loop-i.i (omega arith)
          c.before_next-piece.ensures c.loop-i.invariant.kept c.in_ok-covered.ensures.kept;
    }
