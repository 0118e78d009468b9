-- Parts of a list that changes outside them.
use Rattle.std.proofs.Common.{◌≡◌, ◌∙◌, ◌+◌, ◌-◌, ◌≤◌, ℕ, List, length, take, drop, min, sym, ap, arith, slice_range}
use Rattle.std.proofs.lemmas.List.{drop-drop, drop-take, drop_min, length-drop, length-take-le, take-take}

pub length-slice_range : (xs : List ℕ) (s e : ℕ) → s ≤ e → e ≤ length xs → length (slice_range xs s e) ≡ e - s
length-slice_range xs s e order within =
    let long : length (drop s xs) ≡ length xs - s = length-drop s xs in
    length-take-le (e - s) (drop s xs) (omega arith)

-- a part that begins later, by at most its length
pub slice_range-drop : (xs : List ℕ) (s e n : ℕ) → s ≤ e → e ≤ length xs
    → slice_range xs (s + min n (e - s)) e ≡ drop n (slice_range xs s e)
slice_range-drop xs s e n order within =
    let m = min n (e - s) in
    let cut : drop (min n (length (slice_range xs s e))) (slice_range xs s e) ≡ drop n (slice_range xs s e)
    = drop_min n (slice_range xs s e) in
    let here : drop m (slice_range xs s e) ≡ drop n (slice_range xs s e)
    = rw (length-slice_range xs s e order within) at cut in
    let rest : e - s ≡ m + (e - (s + m)) = omega arith in
    let later : drop m (take (m + (e - (s + m))) (drop s xs)) ≡ take (e - (s + m)) (drop m (drop s xs))
    = drop-take m (e - (s + m)) (drop s xs) in
    let moved : drop m (drop s xs) ≡ drop (s + m) xs = drop-drop m s xs in
    sym (ap (take (e - (s + m))) moved) ∙ sym later ∙ ap (λ k. drop m (take k (drop s xs))) (sym rest) ∙ here

-- a part of what stays
pub slice_range-kept : (xs ys : List ℕ) (s e : ℕ) → s ≤ e → take e ys ≡ take e xs
    → slice_range ys s e ≡ slice_range xs s e
slice_range-kept xs ys s e order front =
    let whole : e ≡ s + (e - s) = omega arith in
    let same : take (s + (e - s)) ys ≡ take (s + (e - s)) xs = ap (λ k. take k ys) (sym whole) ∙ front
    ∙ ap (λ k. take k xs) whole in
    sym (drop-take s (e - s) ys) ∙ ap (drop s) same ∙ drop-take s (e - s) xs

-- a part that ends later begins as before
pub slice_range-grown : (xs ys : List ℕ) (s e n : ℕ) → s ≤ e → e ≤ length xs → take e ys ≡ take e xs
    → take (length (slice_range xs s e)) (slice_range ys s (e + n)) ≡ slice_range xs s e
slice_range-grown xs ys s e n order within front =
    rw (length-slice_range xs s e order within)
    (take-take (e - s) (e + n - s) (drop s ys) (omega arith) ∙ slice_range-kept xs ys s e order front)
