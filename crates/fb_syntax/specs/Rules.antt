-- Rules of the grammar: what stands at the front of the tokens, and which are left after it. `Is` says it, and `read`
-- finds it.
use Rattle.std.specs.Prelude.{ℕ, zero, suc, ◌≡◌, ◌==◌, Bool, true, false, ◌||◌, ◌⊎◌, not, List, [], ◌∷◌, ◌++◌, length}
use Rattle.std.specs.Prelude.{Option, Some, None, if◌then◌else◌}
use Rattle.std.specs.List.{fold}
use Rattle.fb_syntax.specs.Located.{Located, joined}
use Rattle.fb_syntax.specs.Lexemes.{Lexeme}
use Rattle.fb_syntax.specs.Signs.{dot, byte}
use Rattle.fb_syntax.specs.declared.tokens.TokenKind.{TokenKind}
use Rattle.fb_syntax.specs.declared.tokens.TokenKind.TheVariants.{Word, Integer, Quoted, Punct}

-- what was found at the front, and the tokens after it
abbrev pub Front : Type 0 → Type 0
Front A = Option (A × List Lexeme)

pub record Rule (X : Type 0) : Type 1 where
  pub Is : List Lexeme → X → List Lexeme → Type 0
  pub read : List Lexeme → Front X

abbrev pub and_then : {A B : Type 0} → Option A → (A → Option B) → Option B
and_then (Some x) f = f x
and_then None f = None

-- one way where it was found, another where it wasn't
abbrev pub behind : {A B : Type 0} → Front A → (A → List Lexeme → B) → B → B
behind None f other = other
behind (Some found) f other = f found.0 found.1

abbrev pub is_kind : TokenKind → TokenKind → Bool
is_kind Word Word = true
is_kind Integer Integer = true
is_kind Quoted Quoted = true
is_kind (Punct c) (Punct d) = c == d
is_kind _ _ = false

unfoldable pub token_at : TokenKind → List Lexeme → Front Located
token_at kind [] = None
token_at kind (t ∷ rest) = if is_kind t.kind kind then Some (t.text, rest) else None

-- what the first token says; nothing at 0 where there is none
abbrev pub front_text : List Lexeme → Located
front_text [] = record { bytes = []; at = 0 }
front_text (t ∷ rest) = t.text

abbrev pub IsToken : TokenKind → List Lexeme → Located → List Lexeme → Type 0
IsToken kind ts text rest = ts ≡ record { kind = kind; text = text } ∷ rest

-- a token of a kind, with its text
abbrev pub token : TokenKind → Rule Located
token kind = record { Is = IsToken kind; read = token_at kind }

abbrev pub sign : ℕ → Rule Located
sign c = token (Punct c)

-- no token
abbrev pub give : {X : Type 0} → X → Rule X
give x = record { Is = λ ts y rest. (y ≡ x) × (ts ≡ rest); read = λ ts. Some (x, ts) }

-- one rule after another
infixl 10 ◌>>=◌
abbrev pub ◌>>=◌ : {A B : Type 0} → Rule A → (A → Rule B) → Rule B
◌>>=◌ {A} first next = record {
  Is = λ ts y rest. (x : A) × (mid : List Lexeme) × first.Is ts x mid × (next x).Is mid y rest;
  read = λ ts. and_then (first.read ts) (λ x. (next x.0).read x.1);
}

-- a rule, and a sign after it
abbrev pub rule_before : {X : Type 0} → Rule X → ℕ → Rule X
rule_before rule c = do
  x ← rule
  _ ← sign c
  give x

-- one rule after a token of a kind, or another where no such token stands
abbrev pub with_token : {X : Type 0} → TokenKind → (Located → Rule X) → Rule X → Rule X
with_token kind next other = record {
  Is = λ ts x rest. ((t : Located) × (after : List Lexeme) × IsToken kind ts t after × (next t).Is after x rest) ⊎
      other.Is ts x rest;
  read = λ ts. behind (token_at kind ts) (λ t after. (next t).read after) (other.read ts);
}

-- no token, where a test of those that are left holds
abbrev pub ahead : (List Lexeme → Bool) → Rule (Unit {0})
ahead test = record {
  Is = λ ts x rest. (ts ≡ rest)
      × (test ts ≡ true);
  read = λ ts. if test ts then Some (tt, ts) else None;
}

abbrev pub is_sign : ℕ → List Lexeme → Bool
is_sign c [] = false
is_sign c (t ∷ rest) = is_kind t.kind (Punct c)

pub data Repeated {X : Type 0} (Item : List Lexeme → X → List Lexeme → Type 0) : List Lexeme → List X → List Lexeme
    → Type 0 where
  no_more : {ts : List Lexeme} → Repeated Item ts [] ts
  one_more : {ts rest : List Lexeme} {x : X} {xs : List X} (mid : List Lexeme) → Item ts x mid
      → Repeated Item mid xs rest → Repeated Item ts (x ∷ xs) rest

abbrev pub is_empty : List Lexeme → Bool
is_empty [] = true
is_empty (t ∷ rest) = false

-- a closing sign stands next or, with none, no token is left
abbrev pub closes : Option ℕ → List Lexeme → Bool
closes (Some c) = is_sign c
closes None = is_empty

-- items to where they stop, n of them at most, each added to what those before it made
unfoldable pub many : {X B : Type 0} → (List Lexeme → Front X) → (List Lexeme → Bool) → (B → X → B) → ℕ → B
    → List Lexeme → Front B
many item stop add zero made ts = None
many item stop add (suc n) made ts =
    if stop ts then Some (made, ts) else and_then (item ts) (λ x. many item stop add n (add made x.0) x.1)

unfoldable pub until : {X B : Type 0} → (List Lexeme → Front X) → (List Lexeme → Bool) → (B → X → B) → B
    → List Lexeme → Front B
until item stop add made ts = many item stop add (suc (length ts)) made ts

-- "." Word
abbrev pub dot_word : Rule Located
dot_word = do
  _ ← sign dot
  token Word

abbrev pub no_dot : List Lexeme → Bool
no_dot ts = not (is_sign dot ts)

-- a name, and a further word after it
abbrev pub with_word : Located → Located → Located
with_word name word = joined name word.bytes

-- { "." Word } after a name whose words so far are s
abbrev pub more : Located → Rule Located
more s = record {
  Is = λ ts name rest. (words : List Located) × Repeated dot_word.Is ts words rest × (name ≡ fold with_word s words);
  read = until dot_word.read no_dot with_word s;
}

abbrev pub push : {X : Type 0} → List X → X → List X
push xs x = xs ++ x ∷ []

-- items until a test of the tokens that are left holds
abbrev pub repeated : {X : Type 0} → Rule X → (List Lexeme → Bool) → Rule (List X)
repeated item stop = record {
  Is = λ ts xs rest. Repeated item.Is ts xs rest × (stop rest ≡ true);
  read = until item.read stop push [];
}

-- { item } and a closing sign
abbrev pub block : {X : Type 0} → Rule X → ℕ → Rule (List X)
block item close = rule_before (repeated item (is_sign close)) close

-- item { item } and a closing sign
abbrev pub some_block : {X : Type 0} → Rule X → ℕ → Rule (List X)
some_block item close = do
  _ ← ahead (λ ts. not (is_sign close ts))
  block item close

-- what divides an item from the next, or ends a list: a comma, right before the closing sign only where `trailing` is
-- true; or nothing, before that sign
unfoldable pub divider : Bool → ℕ → Rule (Unit {0})
divider trailing close =
    with_token (Punct (byte ",")) (λ _. ahead (λ ts. trailing || not (is_sign close ts))) (ahead (is_sign close))

-- an item of a list, and what stands after it
unfoldable pub listed_item : {X : Type 0} → Rule X → Bool → ℕ → Rule X
listed_item item trailing close = do
  x ← item
  _ ← divider trailing close
  give x

-- item { "," item } and a closing sign; a comma before that where `trailing` is true
abbrev pub listed : {X : Type 0} → Rule X → Bool → ℕ → Rule (List X)
listed item trailing close = some_block (listed_item item trailing close) close
