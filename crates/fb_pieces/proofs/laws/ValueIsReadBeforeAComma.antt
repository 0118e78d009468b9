-- Where a value stands before a comma of an array, its tokens are those of its text alone.
use Rattle.std.proofs.Common.{◌≡◌, ℕ, suc, Bool, true, false, cond, List, [], ◌∷◌, ◌++◌, refl, sym, ap, ◌∙◌}
use Rattle.std.proofs.Common.{append_assoc}
use Rattle.std.specs.Prelude.{⊤}
use Rattle.std.proofs.lemmas.Bool.{true≢false, false≢true}
use Rattle.json.specs.Token.{Token, begin_object, end_object, begin_array, end_array, key, string, number, boolean}
use Rattle.json.specs.Token.{null, bad}
use Rattle.json.specs.Lex.{Lexeme, token, comma, colon, Place, fresh, after_value, after_comma, after_key, begins_colon}
use Rattle.json.specs.Lex.{may_begin, may_close, if_allowed, place_token, punctuate}
use Rattle.json.specs.Align.{is_good}
use Rattle.json.specs.Print.{begins}
use Rattle.json.specs.Json as json
use Rattle.json.specs.Tree.{json_tokens, items_tokens, members_tokens}
use Rattle.fb_pieces.specs.ArrayRefused.{is_opening, LevelAt, Level}
use Rattle.fb_pieces.proofs.laws.TokensSplitAtAComma.{begins_colon-append}

abbrev pub allowed : Place → Token → Bool
allowed p u = cond (begins u) (may_begin p) (may_close p)

abbrev pub next_of : Token → Place
next_of begin_object = fresh
next_of end_object = after_value
next_of begin_array = fresh
next_of end_array = after_value
next_of (key s) = after_key
next_of (string s) = after_value
next_of (number s) = after_value
next_of (boolean v) = after_value
next_of null = after_value
next_of bad = after_value

pub no_bad : {P : Type 0} (u : Token) (us ts : List Token) → is_good u ≡ true → bad ∷ us ≡ u ∷ ts → P
no_bad u us ts g e = let h : bad ≡ u = cc in absurd (false≢true (ap is_good h ∙ g))

if_inv : (b : Bool) (t : Token) (k : Place → List Token) (n : Place) (u : Token) (ts : List Token) → is_good u ≡ true
    → if_allowed b t k n ≡ u ∷ ts → (b ≡ true) × (t ≡ u) × (k n ≡ ts)
if_inv true t k n u ts g e = (refl, cc, cc)
if_inv false t k n u ts g e = no_bad u [] ts g e

pub record Placed (p : Place) (t : Token) (b : Bool) (k : Place → List Token) (u : Token)
    (ts : List Token) : Type 0 where
  pub same : (l : Place → List Token) → place_token p t b l ≡ u ∷ l (next_of u)
  pub after : k (next_of u) ≡ ts
  pub opens_too : is_opening t ≡ is_opening u
  pub begins_too : begins t ≡ begins u
  pub may : allowed p u ≡ true

made : (B : Bool) (T : Token) (N p : Place) (t : Token) (b : Bool) (k : Place → List Token) (u : Token)
    (ts : List Token) → ((l : Place → List Token) → place_token p t b l ≡ if_allowed B T l N) → next_of T ≡ N
    → is_opening t ≡ is_opening T
    → begins t ≡ begins T → allowed p T ≡ B → is_good u ≡ true → place_token p t b k ≡ u ∷ ts → Placed p t b k u ts
made B T N p t b k u ts pl nx op be al g e =
    let i = if_inv B T k N u ts g (sym (pl k) ∙ e) in
    rw (← i.1) (record {
      same = λ l. pl l ∙ ap (λ x. if_allowed x T l N) i.0 ∙ ap (λ q. T ∷ l q) (sym nx);
      after = ap k nx
          ∙ i.2;
      opens_too = op;
      begins_too = be;
      may = al ∙ i.0;
    })

pub token_inv : (p : Place) (t : Token) (b : Bool) (k : Place → List Token) (u : Token) (ts : List Token)
    → is_good u ≡ true → place_token p t b k ≡ u ∷ ts → Placed p t b k u ts
token_inv p begin_object b k u ts g e =
    made (may_begin p) begin_object fresh p begin_object b k u ts (λ l. refl) refl refl refl refl g e
token_inv p end_object b k u ts g e =
    made (may_close p) end_object after_value p end_object b k u ts (λ l. refl) refl refl refl refl g e
token_inv p begin_array b k u ts g e =
    made (may_begin p) begin_array fresh p begin_array b k u ts (λ l. refl) refl refl refl refl g e
token_inv p end_array b k u ts g e =
    made (may_close p) end_array after_value p end_array b k u ts (λ l. refl) refl refl refl refl g e
token_inv p (key s) b k u ts g e = no_bad u [] ts g e
token_inv p (string s) true k u ts g e =
    made (may_begin p) (key s) after_key p (string s) true k u ts (λ l. refl) refl refl refl refl g e
token_inv p (string s) false k u ts g e =
    made (may_begin p) (string s) after_value p (string s) false k u ts (λ l. refl) refl refl refl refl g e
token_inv p (number s) b k u ts g e =
    made (may_begin p) (number s) after_value p (number s) b k u ts (λ l. refl) refl refl refl refl g e
token_inv p (boolean v) b k u ts g e =
    made (may_begin p) (boolean v) after_value p (boolean v) b k u ts (λ l. refl) refl refl refl refl g e
token_inv p null b k u ts g e = made (may_begin p) null after_value p null b k u ts (λ l. refl) refl refl refl refl g e
token_inv p bad b k u ts g e = no_bad u [] ts g e

-- ms stands where no value begins
pub record Stops (ms : List Lexeme) : Type 0 where
  pub no_colon : begins_colon ms ≡ false
  pub stop : (p : Place) (u : Token) (ts : List Token) → may_begin p ≡ true → is_good u ≡ true → begins u ≡ true
      → punctuate p ms ≡ u ∷ ts → ⊥

module _ (ms : List Lexeme) (stops : Stops ms) where
  pub record First (n : ℕ) (ls : List Lexeme) (p : Place) (u : Token) (ts : List Token) : Type 0 where
    rest : List Lexeme
    pub level : LevelAt n (is_opening u) (begins u) (λ m. Level m rest)
    alone : punctuate p ls ≡ u ∷ punctuate (next_of u) rest
    after : punctuate (next_of u) (rest ++ ms) ≡ ts
    may : allowed p u ≡ true

  pub first_token : (n : ℕ) (t : Token) (ls : List Lexeme) (p : Place) (u : Token) (ts : List Token)
      → Level n (token t ∷ ls) → is_good u ≡ true → punctuate p (token t ∷ (ls ++ ms)) ≡ u ∷ ts
      → First n (token t ∷ ls) p u ts
  unfolding punctuate
  first_token n t ls p u ts level g e =
      let i = token_inv p t (begins_colon (ls ++ ms)) (λ q. punctuate q (ls ++ ms)) u ts g e in
      record {
        rest = ls;
        level = rw (← i.begins_too) (rw (← i.opens_too) level);
        alone =
            ap (λ b. place_token p t b (λ q. punctuate q ls)) (sym (begins_colon-append ls ms stops.no_colon))
            ∙ i.same (λ q. punctuate q ls);
        after = i.after;
        may = i.may;
      }

  first_value : (n : ℕ) (ls : List Lexeme) (p : Place) (u : Token) (ts : List Token) → Level n ls → may_begin p ≡ true
      → is_good u ≡ true → begins u ≡ true → punctuate p (ls ++ ms) ≡ u ∷ ts → First n ls p u ts
  unfolding punctuate
  first_value n [] p u ts level may g b e = absurd (stops.stop p u ts may g b e)
  first_value n (token t ∷ ls) p u ts level may g b e = first_token n t ls p u ts level g e
  first_value n (comma ∷ ls) fresh u ts level may g b e = no_bad u [] ts g e
  first_value n (comma ∷ ls) after_value u ts level may g b e = absurd (false≢true may)
  first_value n (comma ∷ ls) after_comma u ts level may g b e = no_bad u [] ts g e
  first_value n (comma ∷ ls) after_key u ts level may g b e = absurd (false≢true may)
  first_value n (colon ∷ ls) fresh u ts level may g b e = no_bad u [] ts g e
  first_value n (colon ∷ ls) after_value u ts level may g b e = absurd (false≢true may)
  first_value n (colon ∷ ls) after_comma u ts level may g b e = no_bad u [] ts g e
  first_value n (colon ∷ ls) after_key u ts level may g b e = absurd (false≢true may)

  -- a comma before the next item is passed
  record Entered (n : ℕ) (ls : List Lexeme) (p : Place) (ts : List Token) : Type 0 where
    place : Place
    rest : List Lexeme
    may : may_begin place ≡ true
    level : Level (suc n) rest
    alone : punctuate p ls ≡ punctuate place rest
    after : punctuate place (rest ++ ms) ≡ ts

  abbrev Inside : Place → Type 0
  Inside fresh = ⊤
  Inside after_value = ⊤
  Inside after_comma = ⊥
  Inside after_key = ⊥

  abbrev pub Opens : List Token → Type 0
  Opens [] = ⊥
  Opens (u ∷ us) = (begins u ≡ true) × (is_good u ≡ true)

  pub no_bad_list : {P : Type 0} (us ts : List Token) → Opens ts → bad ∷ us ≡ ts → P
  no_bad_list us [] o e = absurd o
  no_bad_list us (u ∷ ts) o e = no_bad u us ts o.1 e

  -- no value begins after a value or a key
  pub not_there : {P : Type 0} (p : Place) (t : Token) (b : Bool) (k : Place → List Token) (ts : List Token)
      → may_begin p ≡ false → Opens ts → place_token p t b k ≡ ts → P
  not_there p t b k [] refused o e = absurd o
  not_there p t b k (u ∷ ts) refused o e =
      let i = token_inv p t b k u ts o.1 e in
      absurd (true≢false (sym i.may ∙ ap (λ x. cond x (may_begin p) (may_close p)) o.0 ∙ refused))

  enter : (n : ℕ) (ls : List Lexeme) (p : Place) (ts : List Token) → Inside p → Level (suc n) ls → Opens ts
      → punctuate p (ls ++ ms) ≡ ts → Entered n ls p ts
  unfolding punctuate
  enter n [] p ts inside level o e = absurd level
  enter n (token t ∷ ls) fresh ts inside level o e =
      record { place = fresh; rest = token t ∷ ls; may = refl; level = level; alone = refl; after = e }
  enter n (token t ∷ ls) after_value ts inside level o e = not_there after_value t _ _ ts refl o e
  enter n (token t ∷ ls) after_comma ts inside level o e = absurd inside
  enter n (token t ∷ ls) after_key ts inside level o e = absurd inside
  enter n (comma ∷ ls) fresh ts inside level o e = no_bad_list [] ts o e
  enter n (comma ∷ ls) after_value ts inside level o e =
      record { place = after_comma; rest = ls; may = refl; level = level; alone = refl; after = e }
  enter n (comma ∷ ls) after_comma ts inside level o e = absurd inside
  enter n (comma ∷ ls) after_key ts inside level o e = absurd inside
  enter n (colon ∷ ls) fresh ts inside level o e = no_bad_list [] ts o e
  enter n (colon ∷ ls) after_value ts inside level o e = no_bad_list [] ts o e
  enter n (colon ∷ ls) after_comma ts inside level o e = absurd inside
  enter n (colon ∷ ls) after_key ts inside level o e = absurd inside

  pub no_close : {P : Type 0} (ls : List Lexeme) (u : Token) (ts : List Token) → is_good u ≡ true → begins u ≡ false
      → punctuate after_comma ls ≡ u ∷ ts → P
  unfolding punctuate
  no_close [] u ts g c e = no_bad u [] ts g e
  no_close (token t ∷ ls) u ts g c e =
      let i = token_inv after_comma t _ _ u ts g e in
      absurd (true≢false (sym i.may ∙ ap (λ x. cond x true false) c))
  no_close (comma ∷ ls) u ts g c e = no_bad u [] ts g e
  no_close (colon ∷ ls) u ts g c e = no_bad u [] ts g e

  first_close : (n : ℕ) (ls : List Lexeme) (p : Place) (u : Token) (ts : List Token) → Inside p → Level (suc n) ls
      → is_good u ≡ true → begins u ≡ false → punctuate p (ls ++ ms) ≡ u ∷ ts → First (suc n) ls p u ts
  unfolding punctuate
  first_close n [] p u ts inside level g c e = absurd level
  first_close n (token t ∷ ls) p u ts inside level g c e = first_token (suc n) t ls p u ts level g e
  first_close n (comma ∷ ls) fresh u ts inside level g c e = no_bad u [] ts g e
  first_close n (comma ∷ ls) after_value u ts inside level g c e = no_close (ls ++ ms) u ts g c e
  first_close n (comma ∷ ls) after_comma u ts inside level g c e = absurd inside
  first_close n (comma ∷ ls) after_key u ts inside level g c e = absurd inside
  first_close n (colon ∷ ls) fresh u ts inside level g c e = no_bad u [] ts g e
  first_close n (colon ∷ ls) after_value u ts inside level g c e = no_bad u [] ts g e
  first_close n (colon ∷ ls) after_comma u ts inside level g c e = absurd inside
  first_close n (colon ∷ ls) after_key u ts inside level g c e = absurd inside

  -- the colon after a key
  record Named (n : ℕ) (ls : List Lexeme) (ts : List Token) : Type 0 where
    rest : List Lexeme
    level : Level (suc n) rest
    alone : punctuate after_key ls ≡ punctuate fresh rest
    after : punctuate fresh (rest ++ ms) ≡ ts

  named : (n : ℕ) (ls : List Lexeme) (ts : List Token) → Level (suc n) ls → Opens ts
      → punctuate after_key (ls ++ ms) ≡ ts → Named n ls ts
  unfolding punctuate
  named n [] ts level o e = absurd level
  named n (token t ∷ ls) ts level o e = not_there after_key t _ _ ts refl o e
  named n (comma ∷ ls) ts level o e = no_bad_list [] ts o e
  named n (colon ∷ ls) ts level o e = record { rest = ls; level = level; alone = refl; after = e }

  pub value_opens : (j : json.Json) (us : List Token) → Opens (json_tokens j ++ us)
  value_opens json.null us = (refl, refl)
  value_opens (json.boolean b) us = (refl, refl)
  value_opens (json.number s) us = (refl, refl)
  value_opens (json.string s) us = (refl, refl)
  value_opens (json.array js) us = (refl, refl)
  value_opens (json.object ks) us = (refl, refl)

  pub record Taken (n : ℕ) (ls : List Lexeme) (p : Place) (ts us : List Token) : Type 0 where
    pub rest : List Lexeme
    pub level : Level n rest
    pub alone : punctuate p ls ≡ ts ++ punctuate after_value rest
    pub after : punctuate after_value (rest ++ ms) ≡ us

  two_taken : (ts us xs : List Token) {vs ws : List Token} → vs ≡ ts ++ ws → ws ≡ us ++ xs → vs ≡ (ts ++ us) ++ xs
  two_taken ts us xs {vs} {ws} first second =
      first ∙ ap (λ l. ts ++ l) second ∙ sym (append_assoc ts us xs)

  item_taken : (j : json.Json) (js : json.Items) (n : ℕ) (ls : List Lexeme) (p : Place) (ts us : List Token)
      (i : Entered n ls p ts) (t : Taken (suc n) i.rest i.place (json_tokens j) (items_tokens js ++ us))
      → Taken n t.rest after_value (items_tokens js) us → Taken n ls p (items_tokens (json.item j js)) us
  item_taken j js n ls p ts us i t r = record {
    rest = r.rest;
    level = r.level;
    alone = i.alone ∙ two_taken (json_tokens j) (items_tokens js) _ t.alone r.alone;
    after = r.after;
  }

  member_taken : (k : List ℕ) (j : json.Json) (ks : json.Members) (n : ℕ) (ls : List Lexeme) (p : Place)
      (ts us vs ws : List Token) (i : Entered n ls p ts) (f : First (suc n) i.rest i.place (key k) vs)
      (c : Named n f.rest ws) (t : Taken (suc n) c.rest fresh (json_tokens j) (members_tokens ks ++ us))
      → Taken n t.rest after_value (members_tokens ks) us → Taken n ls p (members_tokens (json.member k j ks)) us
  member_taken k j ks n ls p ts us vs ws i f c t r = record {
    rest = r.rest;
    level = r.level;
    alone = i.alone ∙ f.alone
        ∙ ap (λ l. key k ∷ l) (c.alone ∙ two_taken (json_tokens j) (members_tokens ks) _ t.alone r.alone);
    after = r.after;
  }

  mutual
    pub take_value : (j : json.Json) (n : ℕ) (ls : List Lexeme) (p : Place) (us : List Token) → Level n ls
        → may_begin p ≡ true → punctuate p (ls ++ ms) ≡ json_tokens j ++ us → Taken n ls p (json_tokens j) us
    take_value json.null n ls p us level may e =
        let f = first_value n ls p null us level may refl refl e in
        record { rest = f.rest; level = f.level; alone = f.alone; after = f.after }
    take_value (json.boolean b) n ls p us level may e =
        let f = first_value n ls p (boolean b) us level may refl refl e in
        record { rest = f.rest; level = f.level; alone = f.alone; after = f.after }
    take_value (json.number s) n ls p us level may e =
        let f = first_value n ls p (number s) us level may refl refl e in
        record { rest = f.rest; level = f.level; alone = f.alone; after = f.after }
    take_value (json.string s) n ls p us level may e =
        let f = first_value n ls p (string s) us level may refl refl e in
        record { rest = f.rest; level = f.level; alone = f.alone; after = f.after }
    take_value (json.array js) n ls p us level may e =
        let f = first_value n ls p begin_array (items_tokens js ++ us) level may refl refl e in
        let t = take_items js n f.rest fresh us tt f.level f.after in
        record { rest = t.rest; level = t.level; alone = f.alone ∙ ap (λ l. begin_array ∷ l) t.alone; after = t.after }
    take_value (json.object ks) n ls p us level may e =
        let f = first_value n ls p begin_object (members_tokens ks ++ us) level may refl refl e in
        let t = take_members ks n f.rest fresh us tt f.level f.after in
        record { rest = t.rest; level = t.level; alone = f.alone ∙ ap (λ l. begin_object ∷ l) t.alone; after = t.after }

    take_items : (js : json.Items) (n : ℕ) (ls : List Lexeme) (p : Place) (us : List Token) → Inside p
        → Level (suc n) ls → punctuate p (ls ++ ms) ≡ items_tokens js ++ us → Taken n ls p (items_tokens js) us
    take_items json.no_items n ls p us inside level e =
        let f = first_close n ls p end_array us inside level refl refl e in
        record { rest = f.rest; level = f.level; alone = f.alone; after = f.after }
    take_items (json.item j js) n ls p us inside level e =
        let more = items_tokens js ++ us in
        let i = enter n ls p (json_tokens j ++ more) inside level (value_opens j more)
        (e ∙ append_assoc (json_tokens j) (items_tokens js) us) in
        let t = take_value j (suc n) i.rest i.place more i.level i.may i.after in
        let r = take_items js n t.rest after_value us tt t.level t.after in
        item_taken j js n ls p _ us i t r

    take_members : (ks : json.Members) (n : ℕ) (ls : List Lexeme) (p : Place) (us : List Token) → Inside p
        → Level (suc n) ls → punctuate p (ls ++ ms) ≡ members_tokens ks ++ us → Taken n ls p (members_tokens ks) us
    take_members json.no_members n ls p us inside level e =
        let f = first_close n ls p end_object us inside level refl refl e in
        record { rest = f.rest; level = f.level; alone = f.alone; after = f.after }
    take_members (json.member k j ks) n ls p us inside level e =
        let more = members_tokens ks ++ us in
        let i = enter n ls p (key k ∷ (json_tokens j ++ more)) inside level (refl, refl)
        (e ∙ ap (λ l. key k ∷ l) (append_assoc (json_tokens j) (members_tokens ks) us)) in
        let f = first_value (suc n) i.rest i.place (key k) (json_tokens j ++ more) i.level i.may refl refl i.after in
        let c = named n f.rest (json_tokens j ++ more) f.level (value_opens j more) f.after in
        let t = take_value j (suc n) c.rest fresh more c.level refl c.after in
        let r = take_members ks n t.rest after_value us tt t.level t.after in
        member_taken k j ks n ls p _ us _ _ i f c t r
