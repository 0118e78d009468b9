-- Blanks have no lexemes.
use Rattle.std.proofs.Common.{◌≡◌, ℕ, true, ◌||◌, List, [], ◌∷◌, ◌++◌, option_and_then, refl, sym, ap, ◌∙◌, append-nil}
use Rattle.std.specs.List.{list_all}
use Rattle.std.proofs.lemmas.Bool.{and_parts}
use Rattle.json.specs.Word.{is_operator, is_space, ends_word}
use Rattle.json.specs.Json as json
use Rattle.json.specs.Lex.{space, class, between, lex_byte, lex, fresh, punctuate}
use Rattle.serde_json.specs.Read.{of_json}
use Rattle.fb_pieces.specs.Modes.{mode_after}
use Rattle.fb_pieces.specs.Blanks.{AreBlanks, BlanksChangeNothing}
use Rattle.fb_pieces.proofs.laws.LexemesSplitOutsideStrings.{lex-cut, may_cut}
use Rattle.fb_pieces.proofs.laws.WordEndsAtADelimiter.{of_space}

pub blanks-before : (blanks text : List ℕ) → AreBlanks blanks → lex between (blanks ++ text) ≡ lex between text
unfolding lex
blanks-before [] text h = refl
blanks-before (x ∷ blanks) text h =
    let p = and_parts (is_space x) (list_all is_space blanks) h in
    ap (λ c. lex_byte between c x (blanks ++ text) (λ m. lex m (blanks ++ text)))
    (of_space (λ y. class y ≡ space) refl refl refl refl x p.0)
    ∙ blanks-before blanks text p.1

blanks-lexed : (blanks : List ℕ) → AreBlanks blanks → lex between blanks ≡ []
unfolding lex
blanks-lexed blanks h = ap (lex between) (sym (append-nil blanks)) ∙ blanks-before blanks [] h

blanks_end : (blanks : List ℕ) → AreBlanks blanks → ends_word blanks ≡ true
blanks_end [] h = refl
blanks_end (x ∷ blanks) h =
    of_space (λ y. (is_operator y || is_space y) ≡ true) refl refl refl refl x
    (and_parts (is_space x) (list_all is_space blanks) h).0

pub blanks_change_nothing_shown : BlanksChangeNothing
blanks_change_nothing_shown levels before text after first last closed =
    let m = mode_after between text in
    let lexed = blanks-before before (text ++ after) first
    ∙ lex-cut text after between (may_cut m after closed (blanks_end after last))
    ∙ ap (λ l. lex between text ++ l) (blanks-lexed after last) ∙ append-nil (lex between text) in
    ap (λ l. option_and_then of_json
    (option_and_then (λ p. json.if_last p.0 p.1) (json.value levels (punctuate fresh l)))) lexed
