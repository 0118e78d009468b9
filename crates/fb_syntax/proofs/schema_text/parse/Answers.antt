use Rattle.std.proofs.Common.{◌≡◌, ℕ, List, arith}
use Rattle.std.proofs.lemmas.Result.{err_from_is_err_and}
use Rattle.std.proofs.lemmas.Str.{utf8_valid_len_le}
use Rattle.fb_syntax.specs.declared.tokens.Token.{Token}
use Rattle.fb_syntax.specs.declared.faults.SyntaxFault.{SyntaxFault}
use Rattle.fb_syntax.specs.declared.faults.SyntaxFault.TheVariants.{BadByte, Unterminated, NumberTooBig, Memory}
use Rattle.fb_syntax.specs.Spells.{SpellsText}
use Rattle.fb_syntax.specs.Refusals.{IsToldOfNoTokens}
use Rattle.fb_syntax.proofs.ReadableTokens.{all_readable}
use Rattle.fb_syntax.proofs.schema_text.parse.Goals as goal

-- Where tokens that spell a text are found unless memory runs out, a fault of tokens says that none do.
told_of_no_tokens : (text : List ℕ) (fault : SyntaxFault)
    → ((tokens : List Token) → SpellsText text tokens → fault ≡ Memory) → IsToldOfNoTokens text fault
told_of_no_tokens text (BadByte at) only = λ tokens s. (let e = only tokens s in cc)
told_of_no_tokens text (Unterminated at) only = λ tokens s. (let e = only tokens s in cc)
told_of_no_tokens text (NumberTooBig at) only = λ tokens s. (let e = only tokens s in cc)
told_of_no_tokens text _ only = tt

pub returns-in_err-readable-clause-within : goal.returns-in_err-readable-clause-within
returns-in_err-readable-clause-within c = grind (arith, utf8_valid_len_le)

pub returns-in_err-tokens-clause-spelled_by_none : goal.returns-in_err-tokens-clause-spelled_by_none
returns-in_err-tokens-clause-spelled_by_none c =
    let p = err_from_is_err_and c.from_residual-in_err-tokens.result c.from_residual-in_err-tokens.ensures.1 in
    rw (p.1, p.2) (told_of_no_tokens _ _ (λ tokens spells. c.in_err-tokens.ensures.only tokens
    (rw c.in_ok-readable.ensures.text.0 spells)))

pub declarations_of-requires : goal.declarations_of-requires
declarations_of-requires c = rw c.as_slice.ensures.value
    (all_readable c.in_ok-readable.readable.now c.in_ok-tokens.tokens.items c.in_ok-tokens.ensures.found)
