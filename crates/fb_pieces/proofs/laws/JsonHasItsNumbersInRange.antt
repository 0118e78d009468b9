-- A value is read exactly where all its numbers are in range.
use Rattle.std.proofs.Common.{◌≡◌, ◌&&◌, Bool, true, false, Option, Some, None, is_some, refl, ap, ◌∙◌}
use Rattle.std.proofs.Common.{option_map, option_and_then}
use Rattle.std.proofs.lemmas.List.Folds.{list_all-append}
use Rattle.json.specs.Json as json
use Rattle.json.specs.Tree.{json_tokens, items_tokens, members_tokens}
use Rattle.serde_json.specs.Data.{Members, array, object, number, put, item, no_members}
use Rattle.serde_json.specs.Read.{number_of, of_json, of_items, of_members}
use Rattle.fb_pieces.specs.JsonTexts.{is_in_range, are_in_range}
use Rattle.std.proofs.Math.Bool.{and-true}

some_of_map : {A B : Type 0} (f : A → B) (o : Option A) → is_some o ≡ is_some (option_map f o)
some_of_map f None = refl
some_of_map f (Some a) = refl

some_of_two : {A B : Type 0} (o : Option A) (more : A → Option B) (b : Bool) → ((a : A) → b ≡ is_some (more a))
    → (is_some o && b) ≡ is_some (option_and_then more o)
some_of_two None more b e = refl
some_of_two (Some a) more b e = e a

mutual
  pub value_in_range : (j : json.Json) → are_in_range (json_tokens j) ≡ is_some (of_json j)
  value_in_range json.null = refl
  value_in_range (json.boolean b) = refl
  value_in_range (json.number s) = and-true (is_some (number_of s)) ∙ some_of_map number (number_of s)
  value_in_range (json.string s) = refl
  value_in_range (json.array js) = items_in_range js ∙ some_of_map array (of_items js)
  value_in_range (json.object ms) =
      members_in_range ms no_members ∙ some_of_map object (of_members ms no_members)

  items_in_range : (js : json.Items) → are_in_range (items_tokens js) ≡ is_some (of_items js)
  items_in_range json.no_items = refl
  items_in_range (json.item j js) =
      list_all-append is_in_range (json_tokens j) (items_tokens js)
      ∙ ap (λ b. b && are_in_range (items_tokens js)) (value_in_range j)
      ∙ some_of_two (of_json j) (λ d. option_map (item d) (of_items js)) (are_in_range (items_tokens js))
      (λ d. items_in_range js ∙ some_of_map (item d) (of_items js))

  members_in_range : (ms : json.Members) (found : Members)
      → are_in_range (members_tokens ms) ≡ is_some (of_members ms found)
  members_in_range json.no_members found = refl
  members_in_range (json.member k j ms) found =
      list_all-append is_in_range (json_tokens j) (members_tokens ms)
      ∙ ap (λ b. b && are_in_range (members_tokens ms)) (value_in_range j)
      ∙ some_of_two (of_json j) (λ d. of_members ms (put k d found)) (are_in_range (members_tokens ms))
      (λ d. members_in_range ms (put k d found))
