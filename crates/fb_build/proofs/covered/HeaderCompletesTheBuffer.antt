-- A buffer is made of what its tail is made of, and of the header in front.
use Rattle.std.proofs.Common.{◌≡◌, ◌+◌, ◌-◌, ◌++◌, ◌∷◌, length, map, ap, sym, ◌∙◌, arith}
use Rattle.std.specs.Prelude.{IsPermutation}
use Rattle.std.proofs.lemmas.List.Sorted.{IsPermutation-trans, IsPermutation-cons, IsPermutation-append_right}
use Rattle.std.proofs.lemmas.List.Sorted.{IsPermutation-map}
use Rattle.fb_value.specs.Num.{num}
use Rattle.fb_value.specs.Places.{table_part}
use Rattle.fb_build.specs.Pieces.{reached, reached_parts, each_once, tables_vtables, vtables_of}
use Rattle.fb_build.specs.Pieces.{header_piece, part_piece, vtable_piece}
use Rattle.fb_build.specs.Covered.{pieces_among}
use Rattle.fb_build.specs.CoveredTails.{part_further, piece_further, parts_in_tail}
use Rattle.fb_build.specs.CoveredSteps.{MadeWhole}
use Rattle.fb_build.proofs.covered.ChunksJoin.{runs_under, join_shown, later_pieces}
use Rattle.fb_build.proofs.covered.DistinctNumbersAreListedOnce.{once_shown, once_further}
use Rattle.fb_build.proofs.covered.ReachedVtablesAreInside.{reached_front_shown}

pub whole_shown : MadeWhole
whole_shown L m most front s fs e v qs lies made distinct same_places are header root bound =
    let b = front ++ s in
    let k = length front in
    let X = table_part L.schema.root in
    let xs = parts_in_tail L s X e v in
    let rs = reached_parts L b v in
    let kept = reached_front_shown L m front s X e v lies in
    let at : 0 + num b 0 4 ≡ length b - e = omega (arith, root) in
    let there : rs ≡ parts_in_tail L b X e v = ap (λ q. reached L b X q v) at in
    let parts : rs ≡ map (part_further k) xs = there ∙ kept.parts in
    let same : map (part_piece L b) (map (part_further k) xs) ≡ map (piece_further k) (map (part_piece L s) xs) =
    ap (map (part_piece L b)) (sym kept.parts) ∙ kept.pieces in
    let once : vtables_of b rs ≡ map (λ q. k + q) (each_once (tables_vtables s xs)) =
    ap (λ zs. each_once (tables_vtables b zs)) there ∙ ap each_once kept.vtables
    ∙ once_further k (tables_vtables s xs) in
    let places : IsPermutation (map (λ q. k + q) qs) (vtables_of b rs) =
    rw once (IsPermutation-map (λ q. k + q) _ _ (once_shown qs (tables_vtables s xs) distinct same_places)) in
    let later : IsPermutation (map (piece_further k) (pieces_among 0 made.chunks))
    (map (part_piece L b) rs ++ map (vtable_piece b) (map (λ q. k + q) qs)) =
    rw parts (later_pieces L front s xs qs made.chunks same made.pieces) in
    let all = IsPermutation-trans _ _ _ later
    (IsPermutation-append_right (map (part_piece L b) rs) _ _ (IsPermutation-map (vtable_piece b) _ _ places)) in
    let both = join_shown most front s fs made.chunks are made.are in
    let joined : pieces_among 0 (fs ++ made.chunks)
    ≡ header_piece L ∷ map (piece_further k) (pieces_among 0 made.chunks) =
    both.1 ∙ ap (λ z. z ++ map (piece_further k) (pieces_among 0 made.chunks)) header in
    record {
      chunks = fs ++ made.chunks;
      joined = both.0.joined;
      pieces = rw joined (IsPermutation-cons (header_piece L) _ _ all);
      runs = runs_under most _ (fs ++ made.chunks) bound both.0.runs;
    }
