-- Lists of values that are seen alike.
use Rattle.std.proofs.Common.{◌≡◌, ℕ, ◌<◌, List, [], ◌∷◌, map, length, get_or, Option, Some, None, option_map, refl}
use Rattle.std.proofs.Common.{sym, ap, ◌∙◌}
use Rattle.std.proofs.lemmas.List.{get_or-map, length-map}
use Rattle.fb_value.specs.Datum.{Datum}
use Rattle.fb_value.specs.View.{view, parts_in, entries_in, parts_view, entries_view}
use Rattle.fb_value.specs.declared.values.Value.{Value}

parts_in_same : (xs ys : List Datum) → parts_in xs ≡ parts_in ys → xs ≡ ys
parts_in_same [] [] e = refl
parts_in_same [] (y ∷ ys) e = cc
parts_in_same (x ∷ xs) [] e = cc
parts_in_same (x ∷ xs) (y ∷ ys) e = let rest = parts_in_same xs ys cc in cc

entries_in_same : (xs ys : List (Option Datum)) → entries_in xs ≡ entries_in ys → xs ≡ ys
entries_in_same [] [] e = refl
entries_in_same [] (None ∷ ys) e = cc
entries_in_same [] (Some y ∷ ys) e = cc
entries_in_same (None ∷ xs) [] e = cc
entries_in_same (Some x ∷ xs) [] e = cc
entries_in_same (None ∷ xs) (None ∷ ys) e = let rest = entries_in_same xs ys cc in cc
entries_in_same (None ∷ xs) (Some y ∷ ys) e = cc
entries_in_same (Some x ∷ xs) (None ∷ ys) e = cc
entries_in_same (Some x ∷ xs) (Some y ∷ ys) e = let rest = entries_in_same xs ys cc in cc

-- parts at one place are seen alike
pub parts_alike : (xs ys : List Value) (i : ℕ) (x y : Value) → parts_view xs ≡ parts_view ys → i < length xs
    → i < length ys → view (get_or xs i x) ≡ view (get_or ys i y)
parts_alike xs ys i x y e h k =
    sym (get_or-map view xs i x (view x) h) ∙ ap (λ l. get_or l i (view x))
    (parts_in_same (map view xs) (map view ys) e) ∙ get_or-map view ys i y (view x) k

-- entries at one place are seen alike
pub entries_alike : (xs ys : List (Option Value)) (i : ℕ) (x y : Option Value) → entries_view xs ≡ entries_view ys
    → i < length xs → i < length ys → option_map view (get_or xs i x) ≡ option_map view (get_or ys i y)
entries_alike xs ys i x y e h k =
    sym (get_or-map (option_map view) xs i x (option_map view x) h) ∙ ap (λ l. get_or l i (option_map view x))
    (entries_in_same (map (option_map view) xs) (map (option_map view) ys) e) ∙ get_or-map (option_map view) ys i y
    (option_map view x) k

-- there are as many
pub parts_long : (xs ys : List Value) → parts_view xs ≡ parts_view ys → length xs ≡ length ys
parts_long xs ys e = simp length-map at (ap length (parts_in_same (map view xs) (map view ys) e))

pub entries_long : (xs ys : List (Option Value)) → entries_view xs ≡ entries_view ys → length xs ≡ length ys
entries_long xs ys e =
    simp length-map at (ap length (entries_in_same (map (option_map view) xs) (map (option_map view) ys) e))
