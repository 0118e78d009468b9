-- Rules of the grammar and their parts: what is read is what they say, and what they say is read.
use Rattle.std.proofs.Common.{◌≡◌, ℕ, List, [], ◌∷◌, Some, None, Bool, true, false, not, drop, refl, ap, eq-eqb, Option}
use Rattle.std.proofs.Common.{◌<◌, ◌≤◌, inl, inr, ◌&&◌, ◌||◌, ◌++◌, length, sym, arith, zero, suc, ◌∙◌, append_assoc}
use Rattle.std.proofs.lemmas.Bool.{eqb-true, not-true, false_from_ne_true, and_parts, and_from, and_cases, cases_Bool}
use Rattle.std.proofs.lemmas.Option.{cond_some, some_pair_parts}
use Rattle.fb_syntax.specs.Located.{Located}
use Rattle.fb_syntax.specs.Lexemes.{Lexeme}
use Rattle.fb_syntax.specs.Grammar.{dotted_name}
use Rattle.fb_syntax.specs.Rules.{IsToken, front_text, is_kind, is_sign, token_at, Front, and_then, Rule, behind, token}
use Rattle.fb_syntax.specs.Rules.{give, ◌>>=◌, rule_before, with_token, ahead, Repeated, no_more, one_more, many, until}
use Rattle.fb_syntax.specs.Rules.{push, repeated, block, divider, listed_item, listed, dot_word, no_dot, with_word}
use Rattle.fb_syntax.specs.Rules.{more}
use Rattle.fb_syntax.specs.declared.tokens.TokenKind.{TokenKind}
use Rattle.fb_syntax.specs.declared.tokens.TokenKind.TheVariants.{Word, Integer, Quoted, Punct}
use Rattle.std.specs.List.{list_all, fold}
use Rattle.std.proofs.lemmas.List.{append-nil}
use Rattle.fb_syntax.specs.Signs.{byte, dot}

-- the kinds that a token of this kind is not of
abbrev pub but : TokenKind → TokenKind → Bool
but kind k = not (is_kind kind k)

own_kind : (kind : TokenKind) → is_kind kind kind ≡ true
own_kind (Punct c) = eq-eqb c c refl
own_kind _ = refl

same_kind : (a b : TokenKind) → is_kind a b ≡ true → a ≡ b
same_kind Word Word e = refl
same_kind Integer Integer e = refl
same_kind Quoted Quoted e = refl
same_kind (Punct c) (Punct d) e = ap Punct (eqb-true c d e)
same_kind _ _ e = absurd cc

built : (k j : TokenKind) (t u : Located) (r q : List Lexeme) → k ≡ j → t ≡ u → r ≡ q
    → ◌≡◌ {A = List Lexeme} (record { kind = k; text = t } ∷ r) (record { kind = j; text = u } ∷ q)
built k j t u r q a b c = rw (a, b, c) refl

pub token_found : (kind : TokenKind) (ts rest : List Lexeme) (t : Located) → token_at kind ts ≡ Some (t, rest)
    → IsToken kind ts t rest
unfolding token_at
token_found kind [] rest t e = absurd cc
token_found kind (l ∷ ls) rest t e =
    let p = cond_some (is_kind l.kind kind) (l.text, ls) (t, rest) e in
    built l.kind kind l.text t ls rest (same_kind l.kind kind p.0) (ap (λ (f : Located × List Lexeme). f.0) p.1)
    (ap (λ (f : Located × List Lexeme). f.1) p.1)

pub front_found : (kind : TokenKind) (ts rest : List Lexeme) (t : Located) → token_at kind ts ≡ Some (t, rest)
    → t ≡ front_text ts
front_found kind ts rest t e = rw (token_found kind ts rest t e) refl

pub token_read : (kind : TokenKind) (ts rest : List Lexeme) (t : Located) → IsToken kind ts t rest
    → token_at kind ts ≡ Some (t, rest)
unfolding token_at
token_read kind ts rest t e = rw e (rw (own_kind kind) refl)

pub other_token : (kind k : TokenKind) (ts rest : List Lexeme) (t : Located) → but kind k ≡ true
    → IsToken kind ts t rest → token_at k ts ≡ None
unfolding token_at
other_token kind k ts rest t other e = rw e (rw (not-true (is_kind kind k) other) refl)

pub sign_stands : (c : ℕ) (ts rest : List Lexeme) (t : Located) → IsToken (Punct c) ts t rest → is_sign c ts ≡ true
sign_stands c ts rest t e = rw e (own_kind (Punct c))

pub sign_of : (c : ℕ) (ts : List Lexeme) → is_sign c ts ≡ true → (t : Located) × IsToken (Punct c) ts t (drop 1 ts)
sign_of c [] e = absurd cc
sign_of c (t ∷ ts) e = (t.text, built t.kind (Punct c) t.text t.text ts ts (same_kind t.kind (Punct c) e) refl refl)

pub sign_lacks : (c : ℕ) (ts : List Lexeme) → token_at (Punct c) ts ≡ None → is_sign c ts ≡ false
unfolding token_at
sign_lacks c [] e = refl
sign_lacks c (t ∷ rest) e = false_from_ne_true (is_kind t.kind (Punct c)) (λ b. let some = rw b at e in cc)

-- A sign is no name.
pub sign_no_name : (c : ℕ) (ts : List Lexeme) → is_sign c ts ≡ true → dotted_name.read ts ≡ None
unfolding dotted_name
sign_no_name c ts e = let s = sign_of c ts e in rw (other_token (Punct c) Word ts (drop 1 ts) s.0 refl s.1) refl

-- A step that was read, and what was read after it.
pub bind-some : {A B : Type 0} {m : Option A} {f : A → Option B} {y : B} → and_then m f ≡ Some y
    → (x : A) × (m ≡ Some x) × (f x ≡ Some y)
bind-some {m = Some x} e = (x, refl, e)
bind-some {m = None} e = absurd cc

-- What holds of what was read holds of what it is said to be.
pub lands : {A : Type 0} (R : A → List Lexeme → Type 0) {a c : A} {b d : List Lexeme}
    → ◌≡◌ {A = Front A} (Some (a, b)) (Some (c, d)) → R a b → R c d
lands R {a} {c} {b} {d} e h = let p = some_pair_parts a c b d e in rw (← p.0, ← p.1) h

-- no token of these kinds stands next
abbrev pub Lacks : List TokenKind → List Lexeme → Type 0
Lacks [] ts = Unit {0}
Lacks (k ∷ ks) ts = (token_at k ts ≡ None) × Lacks ks ts

-- `empty`: the rule may take no token. `avoids`: it begins with no token of these kinds. `goes_on`: it would read on
-- where such a token follows.
pub record Agrees {X : Type 0} (rule : Rule X) (empty : Bool) (avoids : TokenKind → Bool)
    (goes_on : List TokenKind) : Type 0 where
  pub found : (x : X) (ts rest : List Lexeme) → rule.read ts ≡ Some (x, rest) → rule.Is ts x rest
  pub read : (x : X) (ts rest : List Lexeme) → rule.Is ts x rest → Lacks goes_on rest → rule.read ts ≡ Some (x, rest)
  pub starts : (kind : TokenKind) (x : X) (ts rest : List Lexeme) → rule.Is ts x rest → avoids kind ≡ true
      → (empty ≡ true → token_at kind rest ≡ None) → token_at kind ts ≡ None
  pub shorter : (x : X) (ts rest : List Lexeme) → rule.Is ts x rest
      → (length rest ≤ length ts) × (empty ≡ false → length rest < length ts)

abbrev pub all_kinds : TokenKind → Bool
all_kinds k = true

abbrev pub besides : TokenKind → (TokenKind → Bool) → TokenKind → Bool
besides kind avoids k = but kind k && avoids k

pub lacks_parts : (xs ys : List TokenKind) (ts : List Lexeme) → Lacks (xs ++ ys) ts → Lacks xs ts × Lacks ys ts
lacks_parts [] ys ts l = (tt, l)
lacks_parts (x ∷ xs) ys ts l = let p = lacks_parts xs ys ts l.1 in ((l.0, p.0), p.1)

pub token_lacks : (kind : TokenKind) (ks : List TokenKind) (ts rest : List Lexeme) (t : Located)
    → list_all (but kind) ks ≡ true → IsToken kind ts t rest → Lacks ks ts
token_lacks kind [] ts rest t all e = tt
token_lacks kind (k ∷ ks) ts rest t all e =
    let both = and_parts (but kind k) (list_all (but kind) ks) all in
    (other_token kind k ts rest t both.0 e, token_lacks kind ks ts rest t both.1 e)

pub token-agrees : (kind : TokenKind) → Agrees (token kind) false (but kind) []
token-agrees kind = record {
  found = λ x ts rest e. token_found kind ts rest x e;
  read = λ x ts rest h l. token_read kind ts rest x h;
  starts = λ k x ts rest h other e. other_token kind k ts rest x other h;
  shorter = λ x ts rest h. (omega (arith, ap length h), λ e. omega (arith, ap length h));
}

pub give-agrees : {X : Type 0} (x : X) → Agrees (give x) true all_kinds []
give-agrees x = record {
  found = λ y ts rest e. let p = some_pair_parts x y ts rest e in (sym p.0, p.1);
  read = λ y ts rest h l. rw (h.0, h.1) refl;
  starts = λ k y ts rest h other e. rw h.1 (e refl);
  shorter = λ y ts rest h. (omega (arith, ap length h.1), λ e. absurd cc);
}

pub ahead-agrees : (test : List Lexeme → Bool) → Agrees (ahead test) true all_kinds []
ahead-agrees test = record {
  found = λ x ts rest e. let p = cond_some (test ts) (tt, ts) (x, rest) e in
      (ap (λ (f : Unit {0} × List Lexeme). f.1) p.1, p.0);
  read = λ x ts rest h l. rw (h.1, h.0) refl;
  starts = λ k x ts rest h other e. rw h.0 (e refl);
  shorter = λ x ts rest h. (omega (arith, ap length h.0), λ e. absurd cc);
}

-- what may stand behind a rule whose next may be empty
abbrev pub where_empty : Bool → List TokenKind → List TokenKind
where_empty true ks = ks
where_empty false ks = []

kept : (e : Bool) (ks : List TokenKind) (rest : List Lexeme) → Lacks (where_empty e ks) rest → e ≡ true → Lacks ks rest
kept true ks rest l e = l
kept false ks rest l e = absurd cc

abbrev pub begins : Bool → (TokenKind → Bool) → (TokenKind → Bool) → TokenKind → Bool
begins empty first next k = (not empty || next k) && first k

module _ {A B : Type 0} {first : Rule A} {next : A → Rule B} {e1 e2 : Bool} {a1 a2 : TokenKind → Bool}
    {g1 g2 : List TokenKind} (here : Agrees first e1 a1 g1) (there : (x : A) → Agrees (next x) e2 a2 g2) where
  lacks_first : (ks : List TokenKind) (x : A) (y : B) (mid rest : List Lexeme) → list_all a2 ks ≡ true
      → (next x).Is mid y rest → (e2 ≡ true → Lacks ks rest) → Lacks ks mid
  lacks_first [] x y mid rest all h l = tt
  lacks_first (k ∷ ks) x y mid rest all h l =
      let both = and_parts (a2 k) (list_all a2 ks) all in
      ((there x).starts k y mid rest h both.0 (λ e. (l e).0), lacks_first ks x y mid rest both.1 h (λ e. (l e).1))

  -- one rule behind another, where what stands behind both lacks what the first would read on at
  pub sequence-agrees : (g : List TokenKind) → ((x : A) (y : B) (mid rest : List Lexeme) → (next x).Is mid y rest
      → Lacks g rest → Lacks g1 mid × Lacks g2 rest) → Agrees (first >>= next) (e1 && e2) (begins e1 a1 a2) g
  sequence-agrees g apart = record {
    found = λ y ts rest e. let x = bind-some {m = first.read ts} e in
        (x.0.0, x.0.1, here.found x.0.0 ts x.0.1 x.1, (there x.0.0).found y x.0.1 rest x.2);
    read = λ y ts rest h l.
        let lacks = apart h.0 y h.1 rest h.3 l in
        let one = here.read h.0 ts h.1 h.2 lacks.0 in
        rw one ((there h.0).read y h.1 rest h.3 lacks.1);
    starts = λ k y ts rest h other e.
        let both = and_parts (not e1 || a2 k) (a1 k) other in
        here.starts k h.0 ts h.1 h.2 both.1 (λ f. (there h.0).starts k y h.1 rest h.3 (rw f at both.0)
        (λ g. e (and_from e1 e2 f g)));
    shorter = λ y ts rest h.
        let a = here.shorter h.0 ts h.1 h.2 in
        let b = (there h.0).shorter y h.1 rest h.3 in (
          omega (arith, a.0, b.0),
          λ f. elim (and_cases e1 e2 f)
              [ inl g ↦ omega (arith, a.1 g, b.0) | inr g ↦ omega (arith, a.0, b.1 g) ],
        );
  }

  pub then-agrees : list_all a2 g1 ≡ true → Agrees (first >>= next) (e1 && e2) (begins e1 a1 a2)
      (g2 ++ where_empty e2 g1)
  then-agrees all = sequence-agrees (g2 ++ where_empty e2 g1) (λ x y mid rest h l.
      (let parts = lacks_parts g2 (where_empty e2 g1) rest l in
      (lacks_first g1 x y mid rest all h (kept e2 g1 rest parts.1), parts.0)))

module _ {X : Type 0} {kind : TokenKind} {next : Located → Rule X} {other : Rule X} {e1 e2 : Bool}
    {a1 a2 : TokenKind → Bool} {g1 g2 : List TokenKind} (there : (t : Located) → Agrees (next t) e1 a1 g1)
    (instead : Agrees other e2 a2 g2) where
  with_found : (front : Front Located) (x : X) (ts rest : List Lexeme) → token_at kind ts ≡ front
      → behind front (λ t after. (next t).read after) (other.read ts) ≡ Some (x, rest)
      → (with_token kind next other).Is ts x rest
  with_found (Some t) x ts rest stands e = inl (
    t.0,
    t.1,
    token_found kind ts t.1 t.0 stands,
    (there t.0).found x t.1 rest e,
  )
  with_found None x ts rest none e = inr (instead.found x ts rest e)

  -- where what stands behind the other rule begins with no token of that kind
  pub choice-agrees : (g : List TokenKind) → ((x : X) (ts rest : List Lexeme) → other.Is ts x rest → Lacks g rest
      → (token_at kind ts ≡ None) × Lacks g2 rest) → ((rest : List Lexeme) → Lacks g rest → Lacks g1 rest)
      → Agrees (with_token kind next other) e2 (besides kind a2) g
  choice-agrees g apart follows = record {
    found = λ x ts rest e. with_found (token_at kind ts) x ts rest refl e;
    read = λ x ts rest h l.
        elim h [
          | inl i ↦ rw (token_read kind ts i.1 i.0 i.2) ((there i.0).read x i.1 rest i.3 (follows rest l))
          | inr i ↦ (let none = apart x ts rest i l in rw none.0 (instead.read x ts rest i none.1))
        ];
    starts = λ k x ts rest h other e.
        let both = and_parts (but kind k) (a2 k) other in
        elim h [ inl i ↦ other_token kind k ts i.1 i.0 both.0 i.2 | inr i ↦ instead.starts k x ts rest i both.1 e ];
    shorter = λ x ts rest h.
        elim h [
          | inl i ↦ (let a = ((there i.0).shorter x i.1 rest i.3).0 in
              (omega (arith, a, ap length i.2), λ e. omega (arith, a, ap length i.2)))
          | inr i ↦ instead.shorter x ts rest i
        ];
  }

  pub with_token-agrees : a2 kind ≡ true → Agrees (with_token kind next other) e2 (besides kind a2)
      (g1 ++ (g2 ++ where_empty e2 (kind ∷ [])))
  with_token-agrees apart = choice-agrees _ (λ x ts rest i l.
      (let parts = lacks_parts g2 (where_empty e2 (kind ∷ [])) rest (lacks_parts g1 _ rest l).1 in
      (instead.starts kind x ts rest i apart (λ e. (kept e2 (kind ∷ []) rest parts.1 e).0), parts.0)))
      (λ rest l. (lacks_parts g1 _ rest l).0)

pushed : {X : Type 0} (front xs : List X) → fold push front xs ≡ front ++ xs
pushed front [] = sym (append-nil front)
pushed front (x ∷ xs) = pushed (push front x) xs ∙ simp append_assoc

-- items one after another
module _ {X : Type 0} {item : Rule X} {a : TokenKind → Bool} (agrees : Agrees item false a [])
    (stop : List Lexeme → Bool) (opens : (x : X) (ts rest : List Lexeme) → item.Is ts x rest → stop ts ≡ false) where
  pub many_found : {B : Type 0} (add : B → X → B) (n : ℕ) (start made : B) (ts rest : List Lexeme)
      → many item.read stop add n start ts ≡ Some (made, rest)
      → (xs : List X) × Repeated item.Is ts xs rest × (made ≡ fold add start xs) × (stop rest ≡ true)
  unfolding many
  many_found add zero start made ts rest e = absurd cc
  many_found add (suc n) start made ts rest e =
      elim (cases_Bool (stop ts)) [
        | inl b ↦ lands (λ m left. (xs : List X) × Repeated item.Is ts xs left × (m ≡ fold add start xs)
            × (stop left ≡ true)) (rw b at e) ([], no_more, refl, b)
        | inr b ↦
            (let x = bind-some {m = item.read ts} (rw b at e) in
            let others = many_found add n (add start x.0.0) made x.0.1 rest x.2 in
            (x.0.0 ∷ others.0, one_more x.0.1 (agrees.found x.0.0 ts x.0.1 x.1) others.1, others.2, others.3))
      ]

  pub many_read : {B : Type 0} (add : B → X → B) (n : ℕ) (start : B) (xs : List X) (ts rest : List Lexeme)
      → Repeated item.Is ts xs rest → stop rest ≡ true → length ts ≤ n
      → many item.read stop add (suc n) start ts ≡ Some (fold add start xs, rest)
  unfolding many
  many_read add n start xs ts rest no_more b enough = rw b refl
  many_read add zero start xs ts rest (one_more {x = x} mid here more) b enough =
      absurd (omega (arith, (agrees.shorter x ts mid here).1 refl))
  many_read add (suc n) start xs ts rest (one_more {x = x} {xs = ys} mid here more) b enough =
      rw (opens x ts mid here, agrees.read x ts mid here tt)
      (many_read add n (add start x) ys mid rest more b (omega (arith, (agrees.shorter x ts mid here).1 refl)))

  pub repeated_shorter : {xs : List X} {ts rest : List Lexeme} → Repeated item.Is ts xs rest → length rest ≤ length ts
  repeated_shorter no_more = omega arith
  repeated_shorter (one_more {ts = ts} {x = x} mid here more) =
      omega (arith, (agrees.shorter x ts mid here).0, repeated_shorter more)

  pub repeated_starts : {xs : List X} {ts mid : List Lexeme} (k : TokenKind) → Repeated item.Is ts xs mid → a k ≡ true
      → token_at k mid ≡ None → token_at k ts ≡ None
  repeated_starts k no_more other e = e
  repeated_starts k (one_more {ts = ts} {x = x} mid here more) other e =
      agrees.starts k x ts mid here other (λ e. absurd cc)

  pub repeated-agrees : Agrees (repeated item stop) true a []
  unfolding until
  repeated-agrees = record {
    found = λ xs ts rest e. let f = many_found push _ [] xs ts rest e in rw (f.2 ∙ pushed [] f.0) (f.1, f.3);
    read = λ xs ts rest h l. many_read push (length ts) [] xs ts rest h.0 h.1 (omega arith)
        ∙ ap (λ ys. Some (ys, rest)) (pushed [] xs);
    starts = λ k xs ts rest h other e. repeated_starts k h.0 other (e refl);
    shorter = λ xs ts rest h. (repeated_shorter h.0, λ e. absurd cc);
  }

pub rule_before-agrees : {X : Type 0} {rule : Rule X} {e : Bool} {a : TokenKind → Bool} {g : List TokenKind}
    → Agrees rule e a g → (c : ℕ) → list_all (but (Punct c)) g ≡ true
    → Agrees (rule_before rule c) (e && false) (begins e a (but (Punct c))) []
rule_before-agrees agrees c apart = then-agrees agrees
    (λ x. then-agrees (token-agrees (Punct c)) (λ _. give-agrees x) refl) apart

pub block-agrees : {X : Type 0} {item : Rule X} {a : TokenKind → Bool} → Agrees item false a [] → (close : ℕ)
    → a (Punct close) ≡ true → Agrees (block item close) false (begins true a (but (Punct close))) []
block-agrees agrees close apart =
    rule_before-agrees (repeated-agrees agrees (is_sign close)
    (λ x ts rest h. sign_lacks close ts (agrees.starts (Punct close) x ts rest h apart (λ e. absurd cc)))) close
    refl

module _ (trailing : Bool) (close : ℕ) (apart : but (Punct close) (Punct (byte ",")) ≡ true) where
  divider-agrees : Agrees (divider trailing close) true (besides (Punct (byte ",")) all_kinds) []
  unfolding divider
  divider-agrees =
      choice-agrees (λ t. ahead-agrees (λ ts. trailing || not (is_sign close ts))) (ahead-agrees (is_sign close)) []
      (λ u ts rest h l. let s = sign_of close ts h.1 in
      (other_token (Punct close) (Punct (byte ",")) ts (drop 1 ts) s.0 apart s.1, tt)) (λ rest l. tt)

  divided : (g : List TokenKind) (u : Unit {0}) (ts rest : List Lexeme) → list_all (but (Punct (byte ","))) g ≡ true
      → list_all (but (Punct close)) g ≡ true → (divider trailing close).Is ts u rest → Lacks g ts
  unfolding divider
  divided g u ts rest by_comma by_close (inl i) = token_lacks (Punct (byte ",")) g ts i.1 i.0 by_comma i.2
  divided g u ts rest by_comma by_close (inr i) = let s = sign_of close ts i.1 in
      token_lacks (Punct close) g ts (drop 1 ts) s.0 by_close s.1

-- items with commas between
module _ {X : Type 0} {item : Rule X} {a : TokenKind → Bool} {g : List TokenKind} (agrees : Agrees item false a g)
    (trailing : Bool) (close : ℕ) (opens : a (Punct close) ≡ true) (apart : but (Punct close) (Punct (byte ",")) ≡ true)
    (by_comma : list_all (but (Punct (byte ","))) g ≡ true) (by_close : list_all (but (Punct close)) g ≡ true) where
  listed_item-agrees : Agrees (listed_item item trailing close) false a []
  unfolding listed_item
  listed_item-agrees =
      sequence-agrees agrees (λ x. then-agrees (divider-agrees trailing close apart) (λ _. give-agrees x) refl) []
      (λ x y mid rest h l. (divided trailing close apart g h.0 mid h.1 by_comma by_close h.2, tt))

  some_start : {xs : List X} {ts mid : List Lexeme} (k : TokenKind)
      → Repeated (listed_item item trailing close).Is ts xs mid → is_sign close mid ≡ true → is_sign close ts ≡ false
      → a k ≡ true → token_at k ts ≡ None
  some_start k no_more at_close goes_on other = absurd cc
  some_start k (one_more {ts = ts} {x = x} mid here more) at_close goes_on other =
      listed_item-agrees.starts k x ts mid here other (λ e. absurd cc)

  pub listed-agrees : Agrees (listed item trailing close) false a []
  listed-agrees =
      let all = then-agrees (ahead-agrees (λ ts. not (is_sign close ts)))
      (λ _. block-agrees listed_item-agrees close opens) refl in
      record {
        found = all.found;
        read = all.read;
        starts = λ k xs ts rest h other e. rw (h.2).0
            (some_start k ((h.3).2).0 ((h.3).2).1 (not-true _ (rw (h.2).0 at (h.2).1)) other);
        shorter = all.shorter;
      }

dot_word-agrees : Agrees dot_word false (but (Punct dot)) []
dot_word-agrees = then-agrees (token-agrees (Punct dot)) (λ _. token-agrees Word) refl

dot_first : (w : Located) (ts rest : List Lexeme) → dot_word.Is ts w rest → no_dot ts ≡ false
dot_first w ts rest h = rw (sign_stands dot ts h.1 h.0 h.2) refl

pub dot_lacks : (ts : List Lexeme) → token_at (Punct dot) ts ≡ None → no_dot ts ≡ true
dot_lacks ts e = rw (sign_lacks dot ts e) refl

pub more-agrees : (s : Located) → Agrees (more s) true (but (Punct dot)) (Punct dot ∷ [])
unfolding until
more-agrees s = record {
  found = λ n ts rest e. let f = many_found dot_word-agrees no_dot dot_first with_word _ s n ts rest e in
      (f.0, f.1, f.2);
  read = λ n ts rest h l. rw h.2 (many_read dot_word-agrees no_dot dot_first with_word (length ts) s h.0 ts rest h.1
      (dot_lacks rest l.0) (omega arith));
  starts = λ k n ts rest h other e. repeated_starts dot_word-agrees no_dot dot_first k h.1 other (e refl);
  shorter = λ n ts rest h. (repeated_shorter dot_word-agrees no_dot dot_first h.1, λ e. absurd cc);
}

-- Behind a dot, a word is read.
pub dot_read : (d : Located) (ts inside : List Lexeme) → token_at (Punct dot) ts ≡ Some (d, inside)
    → (no_dot ts ≡ false) × (dot_word.read ts ≡ token_at Word inside)
dot_read d ts inside e = (rw (sign_stands dot ts inside d (token_found (Punct dot) ts inside d e)) refl, rw e refl)
