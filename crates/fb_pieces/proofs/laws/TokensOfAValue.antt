-- The tokens of a value are good; the first begins a value, and the last ends one.
use Rattle.std.proofs.Common.{◌≡◌, Bool, true, List, [], ◌∷◌, ◌++◌, refl, ◌∙◌}
use Rattle.json.specs.Token.{Token}
use Rattle.json.specs.Json as json
use Rattle.json.specs.Tree.{json_tokens, items_tokens, members_tokens}
use Rattle.fb_pieces.specs.TokensSplit.{AreGood, ends_value_after, opens, AreValues}

pub AreGood-append : (ts us : List Token) → AreGood ts → AreGood us → AreGood (ts ++ us)
AreGood-append [] us g h = h
AreGood-append (t ∷ ts) us g h = (g.0, AreGood-append ts us g.1 h)

pub opens-append : (ts us : List Token) → opens ts ≡ true → opens (ts ++ us) ≡ true
opens-append [] us h = absurd cc
opens-append (t ∷ ts) us h = h

pub ends-append : (c : Bool) (ts us : List Token)
    → ends_value_after c (ts ++ us) ≡ ends_value_after (ends_value_after c ts) us
ends-append c [] us = refl
ends-append c (t ∷ ts) us = ends-append _ ts us

mutual
  pub value_good : (j : json.Json) → AreGood (json_tokens j)
  value_good json.null = (refl, tt)
  value_good (json.boolean b) = (refl, tt)
  value_good (json.number s) = (refl, tt)
  value_good (json.string s) = (refl, tt)
  value_good (json.array js) = (refl, items_good js)
  value_good (json.object ms) = (refl, members_good ms)

  items_good : (js : json.Items) → AreGood (items_tokens js)
  items_good json.no_items = (refl, tt)
  items_good (json.item j js) = AreGood-append _ _ (value_good j) (items_good js)

  members_good : (ms : json.Members) → AreGood (members_tokens ms)
  members_good json.no_members = (refl, tt)
  members_good (json.member k j ms) = (refl, AreGood-append _ _ (value_good j) (members_good ms))

mutual
  pub value_ends : (c : Bool) (j : json.Json) → ends_value_after c (json_tokens j) ≡ true
  value_ends c json.null = refl
  value_ends c (json.boolean b) = refl
  value_ends c (json.number s) = refl
  value_ends c (json.string s) = refl
  value_ends c (json.array js) = items_end _ js
  value_ends c (json.object ms) = members_end _ ms

  items_end : (c : Bool) (js : json.Items) → ends_value_after c (items_tokens js) ≡ true
  items_end c json.no_items = refl
  items_end c (json.item j js) = ends-append c (json_tokens j) (items_tokens js) ∙ items_end _ js

  members_end : (c : Bool) (ms : json.Members) → ends_value_after c (members_tokens ms) ≡ true
  members_end c json.no_members = refl
  members_end c (json.member k j ms) = ends-append _ (json_tokens j) (members_tokens ms) ∙ members_end _ ms

pub value_opens : (j : json.Json) → opens (json_tokens j) ≡ true
value_opens json.null = refl
value_opens (json.boolean b) = refl
value_opens (json.number s) = refl
value_opens (json.string s) = refl
value_opens (json.array js) = refl
value_opens (json.object ms) = refl

pub one_value : (j : json.Json) → AreValues (json_tokens j)
one_value j = record { good = value_good j; first = value_opens j; last = value_ends _ j }
