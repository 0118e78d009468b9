-- The grammar's rules read what they say.
use Rattle.std.proofs.Common.{◌++◌, ◌≡◌, ℕ, inl, inr, true, false, List, [], ◌∷◌, Some, refl, ap, ◌∙◌, arith, length}
use Rattle.std.proofs.Common.{Bool}
use Rattle.std.specs.List.{find}
use Rattle.std.specs.Str.{bytes_eq}
use Rattle.std.proofs.lemmas.Bool.{cases_Bool}
use Rattle.std.proofs.lemmas.Option.{same_Some}
use Rattle.std.proofs.lemmas.Slice.Eq.{bytes_eq-Decides}
use Rattle.fb_syntax.specs.Located.{Located}
use Rattle.fb_syntax.specs.Lexemes.{Lexeme}
use Rattle.fb_syntax.specs.Signs.{dot, byte}
use Rattle.fb_syntax.specs.Keywords.{spelling, keywords as all_keywords, keyword_of}
use Rattle.fb_syntax.specs.Rules.{Rule, IsToken, token_at, token, ◌>>=◌}
use Rattle.fb_syntax.specs.Grammar.{dotted_name, attribute_value, attribute, metadata, field_type, default_value}
use Rattle.fb_syntax.specs.Grammar.{default_part, field, table, enum_value, enumeration, union_member, union}
use Rattle.fb_syntax.specs.GrammarSchema.{keyword_at, keyword, namespace, attribute_decl, declared, declaration}
use Rattle.fb_syntax.specs.declared.tokens.TokenKind.{TokenKind}
use Rattle.fb_syntax.specs.declared.tokens.TokenKind.TheVariants.{Word, Integer, Quoted, Punct}
use Rattle.fb_syntax.specs.declared.parser.schema.Keyword.{Keyword}
use Rattle.fb_syntax.specs.declared.parser.schema.Keyword.TheVariants as keywords
use Rattle.fb_syntax.proofs.Agrees.{bind-some, lands, but, token_found, token_read, other_token, Agrees, where_empty}
use Rattle.fb_syntax.proofs.Agrees.{all_kinds, besides, token-agrees, give-agrees, then-agrees, with_token-agrees}
use Rattle.fb_syntax.proofs.Agrees.{rule_before-agrees, more-agrees, block-agrees, listed-agrees}

-- a token, and what stands behind it
after : {X : Type 0} (kind : TokenKind) {next : Located → Rule X} {empty : Bool} {avoids : TokenKind → Bool}
    {goes_on : List TokenKind} → ((t : Located) → Agrees (next t) empty avoids goes_on)
    → Agrees (token kind >>= next) false (but kind) (goes_on ++ where_empty empty [])
after kind rest = then-agrees (token-agrees kind) rest refl

name-agrees : Agrees dotted_name false (but Word) (Punct dot ∷ [])
unfolding dotted_name
name-agrees = after Word more-agrees

metadata-agrees : Agrees metadata true (besides (Punct (byte "(")) all_kinds) (Punct (byte "(") ∷ [])
unfolding metadata attribute attribute_value
metadata-agrees =
    let value : Agrees attribute_value _ _ _ =
    with_token-agrees (λ digits. give-agrees _) (with_token-agrees (λ text. give-agrees _)
    (after Word (λ word. give-agrees _)) refl) refl in
    let item : Agrees attribute _ _ _ =
    after Word (λ name. with_token-agrees (λ _. then-agrees value (λ value. give-agrees _) refl) (give-agrees _) refl)
    in
    with_token-agrees (λ _. with_token-agrees (λ _. give-agrees _)
    (listed-agrees item false (byte ")") refl refl refl refl) refl) (give-agrees _) refl

table-agrees : Agrees table false (but Word) []
unfolding table field field_type default_part default_value
table-agrees =
    let type : Agrees field_type _ _ _ =
    with_token-agrees (λ bracket. then-agrees (rule_before-agrees name-agrees (byte "]") refl)
    (λ name. give-agrees _) refl)
    (then-agrees name-agrees (λ name. give-agrees _) refl) refl in
    let value : Agrees default_value _ _ _ =
    with_token-agrees (λ digits. give-agrees _) (then-agrees name-agrees (λ name. give-agrees _) refl) refl in
    let part : Agrees default_part _ _ _ =
    with_token-agrees (λ _. then-agrees value (λ value. give-agrees _) refl) (give-agrees _) refl in
    let item : Agrees field _ _ _ =
    then-agrees (rule_before-agrees (token-agrees Word) (byte ":") refl) (λ name.
    then-agrees type (λ kind.
    then-agrees part (λ default.
    then-agrees (rule_before-agrees metadata-agrees (byte ";") refl) (λ attributes. give-agrees _) refl) refl) refl)
    refl in
    after Word (λ name.
    then-agrees (rule_before-agrees metadata-agrees (byte "{") refl) (λ attributes.
    then-agrees (block-agrees item (byte "}") refl) (λ fields. give-agrees _) refl) refl)

enumeration-agrees : Agrees enumeration false (but Word) []
unfolding enumeration enum_value
enumeration-agrees =
    let item : Agrees enum_value _ _ _ =
    after Word (λ name. with_token-agrees (λ _. after Integer (λ digits. give-agrees _)) (give-agrees _) refl) in
    then-agrees (rule_before-agrees (token-agrees Word) (byte ":") refl) (λ name.
    then-agrees name-agrees (λ underlying.
    then-agrees (rule_before-agrees metadata-agrees (byte "{") refl) (λ attributes.
    then-agrees (listed-agrees item true (byte "}") refl refl refl refl) (λ values. give-agrees _) refl) refl) refl)
    refl

union-agrees : Agrees union false (but Word) []
unfolding union union_member
union-agrees =
    let item : Agrees union_member _ _ _ =
    after Word (λ word.
    with_token-agrees (λ _. then-agrees name-agrees (λ table. give-agrees _) refl)
    (then-agrees (more-agrees word) (λ table. give-agrees _) refl) refl) in
    after Word (λ name.
    then-agrees (rule_before-agrees metadata-agrees (byte "{") refl) (λ attributes.
    then-agrees (listed-agrees item true (byte "}") refl refl refl refl) (λ members. give-agrees _) refl) refl)

first_found : (ks : List Keyword) (word : List ℕ) (k : Keyword) → find (λ j. bytes_eq word (spelling j)) ks ≡ Some k
    → word ≡ spelling k
first_found [] word k e = absurd cc
first_found (j ∷ ks) word k e =
    elim (cases_Bool (bytes_eq word (spelling j))) [
      | inl b ↦ (bytes_eq-Decides word (spelling j)).0 b ∙ ap spelling (same_Some j k (rw b at e))
      | inr b ↦ first_found ks word k (rw b at e)
    ]

own_spelling : (k : Keyword) → keyword_of (spelling k) ≡ Some k
unfolding keyword_of
own_spelling keywords.Namespace = refl
own_spelling _ = refl

keyword-agrees : Agrees keyword false (but Word) []
unfolding keyword_at keyword_of
keyword-agrees = record {
  found = λ k ts rest e.
      let word = bind-some {m = token_at Word ts} e in
      let found = bind-some {m = keyword_of (word.0.0).bytes} word.2 in
      lands (λ (j : Keyword) (r : List Lexeme). (at : ℕ) × IsToken Word ts (record { bytes = spelling j; at = at }) r)
      found.2 (
        (word.0.0).at,
        rw (← first_found all_keywords (word.0.0).bytes found.0 found.1)
            (token_found Word ts word.0.1 word.0.0 word.1),
      );
  read = λ k ts rest h l. rw (token_read Word ts rest (record { bytes = spelling k; at = h.0 }) h.1, own_spelling k)
      refl;
  starts = λ j k ts rest h other e. other_token Word j ts rest (record { bytes = spelling k; at = h.0 }) other h.1;
  shorter = λ k ts rest h. (omega (arith, ap length h.1), λ e. omega (arith, ap length h.1));
}

-- Behind a keyword, it doesn't matter what a declaration begins with.
no_kinds : TokenKind → Bool
no_kinds k = false

any_start : {X : Type 0} {rule : Rule X} {avoids : TokenKind → Bool} → Agrees rule false avoids []
    → Agrees rule false no_kinds []
unfolding no_kinds
any_start agrees = record {
  found = agrees.found;
  read = agrees.read;
  starts =
      λ k x ts rest h other e. absurd cc;
  shorter = agrees.shorter;
}

declared-agrees : (k : Keyword) → Agrees (declared k) false no_kinds []
unfolding declared namespace attribute_decl
declared-agrees keywords.Namespace =
    let name = then-agrees (rule_before-agrees name-agrees (byte ";") refl) (λ name. give-agrees _) refl in
    any_start (then-agrees (with_token-agrees (λ _. give-agrees _) name refl) (λ n. give-agrees _) refl)
declared-agrees keywords.Attribute =
    let name = with_token-agrees (λ text. give-agrees text) (token-agrees Word) refl in
    any_start (then-agrees (rule_before-agrees name (byte ";") refl) (λ a. give-agrees _) refl)
declared-agrees keywords.Table = any_start (then-agrees table-agrees (λ t. give-agrees _) refl)
declared-agrees keywords.Struct = any_start (then-agrees table-agrees (λ t. give-agrees _) refl)
declared-agrees keywords.Enum = any_start (then-agrees enumeration-agrees (λ e. give-agrees _) refl)
declared-agrees keywords.Union = any_start (then-agrees union-agrees (λ u. give-agrees _) refl)
declared-agrees keywords.Root = any_start (then-agrees (rule_before-agrees name-agrees (byte ";") refl)
    (λ n. give-agrees _) refl)
declared-agrees keywords.Extension = any_start
    (then-agrees (rule_before-agrees (token-agrees Quoted) (byte ";") refl) (λ t. give-agrees _) refl)
declared-agrees keywords.Identifier = any_start
    (then-agrees (rule_before-agrees (token-agrees Quoted) (byte ";") refl) (λ t. give-agrees _) refl)

pub declaration-agrees : Agrees declaration false (but Word) []
unfolding declaration
declaration-agrees = then-agrees keyword-agrees declared-agrees refl
