use Rattle.std.proofs.Common.{rules, ◌≡◌, String, Global, ℤ, List, map, get_or, pos, slice_get, Some, int_cmp, sym}
use Rattle.std.proofs.Common.{◌∙◌, Ok, Err}
use mir.Syntax.{w128}
use Rattle.std.specs.Ordering.{int_eq}
use Rattle.std.specs.List.Sorted.{IsBinarySearchResult}
use Rattle.std.proofs.lemmas.Bool.Decides.{Decides-int_eq}
use Rattle.std.proofs.lemmas.Cmp.{int_cmp_total}
use Rattle.std.proofs.lemmas.Fn.{always_returns_same}
use Rattle.std.proofs.lemmas.Int.{to_z-of_z}
use Rattle.std.proofs.lemmas.Map.Lookups.{exact_signed}
use Rattle.std.proofs.lemmas.Option.{slice_get-get_or}
use Rattle.fb_schema.proofs.Distinct.{found_at}
use Rattle.fb_schema.proofs.Got.{got}
use Rattle.fb_schema.proofs.SearchedByHalves.{searched_ok, searched_err}
use Rattle.fb_schema.proofs.number_index.position_among.Goals as goal

pub returns-then-is_at : goal.returns-then-is_at
returns-then-is_at c =
    let numbers : List ℤ = map (λ (v : String Global × ℤ). v.1) c.args.values.now in
    let there : slice_get numbers c.unwrap_or-counted.result ≡ Some c.args.number =
    rw (← (to_z-of_z w128 c.args.number c.ranges.number)) (c.is_at.ensures c.if-is_at.true) in
    sym (found_at int_eq Decides-int_eq numbers c.unwrap_or-counted.result c.args.number c.requires.distinct there)

pub returns-then-is_at-2 : goal.returns-then-is_at-2
returns-then-is_at-2 c =
    let numbers : List ℤ = map (λ (v : String Global × ℤ). v.1) c.args.values.now in
    let there : slice_get numbers c.trailing_zeros-doubled.result ≡ Some c.args.number =
    rw (← (to_z-of_z w128 c.args.number c.ranges.number)) (c.is_at-2.ensures c.if-is_at-2.true) in
    sym (found_at int_eq Decides-int_eq numbers c.trailing_zeros-doubled.result c.args.number c.requires.distinct there)

pub returns-in-Ok : goal.returns-in-Ok
returns-in-Ok c =
    let numbers : List ℤ = map (λ (v : String Global × ℤ). v.1) c.args.values.now in
    let places = c.args.places.now in
    let ordered = c.requires.indexed in
    let result : IsBinarySearchResult (λ p. int_cmp (get_or numbers p (pos 0)) c.args.number) places (Ok c.in-Ok.at) =
    c.in-Ok.ensures.position (λ p. int_cmp (get_or numbers p (pos 0)) c.args.number)
    (always_returns_same _ _ _ (λ a r q k. (search rules, search rules))) in
    c.copied.ensures
    ∙ (got places c.in-Ok.at c.get.result c.get.ensures.lookup.0 c.get.ensures.lookup.1
    ∙ (slice_get-get_or places c.in-Ok.at 0 c.in-Ok.ensures.bound
    ∙ sym (searched_ok int_cmp_total exact_signed int_eq Decides-int_eq
    (pos 0) numbers places ordered c.args.number c.in-Ok.at result c.requires.distinct 0 c.in-Ok.ensures.bound)))

pub returns-in-Err : goal.returns-in-Err
returns-in-Err c =
    let numbers : List ℤ = map (λ (v : String Global × ℤ). v.1) c.args.values.now in
    let places = c.args.places.now in
    let ordered = c.requires.indexed in
    let result : IsBinarySearchResult (λ p. int_cmp (get_or numbers p (pos 0)) c.args.number) places
    (Err c.in-Err.field-0) = c.in-Err.ensures.position (λ p. int_cmp (get_or numbers p (pos 0)) c.args.number)
    (always_returns_same _ _ _ (λ a r q k. (search rules, search rules))) in
    sym (searched_err int_cmp_total exact_signed int_eq Decides-int_eq
    (pos 0) numbers places ordered c.args.number c.in-Err.field-0 result)
