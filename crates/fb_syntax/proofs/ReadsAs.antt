-- What the tokens of a text read as.
use Rattle.std.proofs.Common.{◌≡◌, ◌<◌, ℕ, List, [], ◌∷◌, Some, true, false, length, refl, sym, ◌∙◌, arith}
use Rattle.fb_syntax.specs.DeclsRead.{DeclsRead}
use Rattle.std.proofs.lemmas.Option.{some_pair_parts}
use Rattle.fb_syntax.specs.Lexemes.{Lexeme, lexemes}
use Rattle.fb_syntax.specs.Stops.{Fails, fault_at}
use Rattle.fb_syntax.specs.Rules.{is_empty, repeated}
use Rattle.fb_syntax.specs.GrammarSchema.{declaration, Reads}
use Rattle.fb_syntax.specs.OneReading.{OneReading}
use Rattle.fb_syntax.specs.declared.faults.SyntaxFault.TheVariants as faults
use Rattle.fb_syntax.specs.declared.parser.Stop.{Stop}
use Rattle.fb_syntax.specs.declared.parser.Stop.TheVariants.{Memory}
use Rattle.fb_syntax.specs.declared.tokens.Token.{Token}
use Rattle.fb_syntax.specs.declared.declarations.Declaration.{Declaration}
use Rattle.fb_syntax.specs.declared.tokens.TokenKind.TheVariants.{Word}
use Rattle.fb_syntax.proofs.Agrees.{but, Agrees, repeated-agrees}
use Rattle.fb_syntax.proofs.GrammarAgrees.{declaration-agrees}

empty_list : (ts : List Lexeme) → is_empty ts ≡ true → ts ≡ []
empty_list [] e = refl
empty_list (t ∷ ts) e = absurd cc

some_left : (ts rest : List Lexeme) → length rest < length ts → is_empty ts ≡ false
some_left [] rest h = absurd (omega arith)
some_left (t ∷ ts) rest h = refl

declarations-agree : Agrees (repeated declaration is_empty) true (but Word) []
declarations-agree = repeated-agrees declaration-agrees is_empty
    (λ x ts rest h. some_left ts rest ((declaration-agrees.shorter x ts rest h).1 refl))

-- What is read to the end is what the tokens read as.
pub reads_found : (text : List ℕ) (tokens : List Token) (ds : List Declaration) (rest : List Lexeme)
    → (repeated declaration is_empty).read (lexemes text tokens) ≡ Some (ds, rest)
    → Reads text tokens (record { declarations = ds; text_len = length text })
reads_found text tokens ds rest e =
    let found = declarations-agree.found ds (lexemes text tokens) rest e in
    record { whole = rw (empty_list rest found.1) at found.0; len = refl }

until_declarations : (text : List ℕ) (tokens : List Token) (d : DeclsRead) → Reads text tokens d
    → (repeated declaration is_empty).read (lexemes text tokens) ≡ Some (d.declarations, [])
until_declarations text tokens d h = declarations-agree.read d.declarations (lexemes text tokens) [] (h.whole, refl) tt

-- Where tokens read as declarations, only memory fails.
pub memory_alone : (text : List ℕ) (tokens : List Token) (d : DeclsRead) (stop : Stop) (offset : ℕ)
    → Reads text tokens d → Fails stop ((repeated declaration is_empty).read (lexemes text tokens))
    → fault_at stop offset ≡ faults.Memory
memory_alone text tokens d Memory offset h e = refl
memory_alone text tokens d _ offset h e = (let read = until_declarations text tokens d h in absurd cc)

pub one_reading_shown : OneReading
one_reading_shown text tokens d e h k =
    let same = some_pair_parts d.declarations e.declarations [] []
    (sym (until_declarations text tokens d h) ∙ until_declarations text tokens e k) in
    let len = h.len ∙ sym k.len in
    λ i. record { declarations = same.0 i; text_len = len i }
