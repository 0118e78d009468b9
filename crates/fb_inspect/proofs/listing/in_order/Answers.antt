use Rattle.std.proofs.Common.{rules}
use Rattle.std.proofs.lemmas.List.Sorted.{IsNonDecreasingBy-from_sort_by_key}
use Rattle.fb_inspect.specs.declared.pieces.BufferPiece.{BufferPiece}
use Rattle.fb_inspect.proofs.listing.in_order.Goals as goal

pub without_gaps-requires : goal.without_gaps-requires
without_gaps-requires c = record {
  ordered =
      rw c.as_slice.ensures.value
      (IsNonDecreasingBy-from_sort_by_key (λ (p : BufferPiece). p.start) _ c.in_ok-sort_by_key.ensures.sorted
      (λ a r q k. search rules));
}
