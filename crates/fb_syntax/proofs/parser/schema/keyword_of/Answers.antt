use Rattle.std.proofs.Common.{◌≡◌, ℕ, false, List, refl}
use Rattle.std.specs.Str.{bytes_eq}
use Rattle.std.proofs.lemmas.Bool.{false_from_ne_true}
use Rattle.std.proofs.lemmas.Slice.Eq.{bytes_eq-Decides}
use Rattle.fb_syntax.specs.Keywords.{keyword_of}
use Rattle.fb_syntax.proofs.parser.schema.keyword_of.Goals as goal

not_word : (name word : List ℕ) → (name ≡ word → ⊥) → bytes_eq name word ≡ false
not_word name word other = false_from_ne_true _ (λ e. other ((bytes_eq-Decides name word).0 e))

pub returns-in-namespace : goal.returns-in-namespace
unfolding keyword_of
returns-in-namespace c = rw c.in-namespace.is refl

pub returns-in-attribute : goal.returns-in-attribute
unfolding keyword_of
returns-in-attribute c = rw c.in-attribute.is refl

pub returns-in-table : goal.returns-in-table
unfolding keyword_of
returns-in-table c = rw c.in-table.is refl

pub returns-in-struct : goal.returns-in-struct
unfolding keyword_of
returns-in-struct c = rw c.in-struct.is refl

pub returns-in-enum : goal.returns-in-enum
unfolding keyword_of
returns-in-enum c = rw c.in-enum.is refl

pub returns-in-union : goal.returns-in-union
unfolding keyword_of
returns-in-union c = rw c.in-union.is refl

pub returns-in-root_type : goal.returns-in-root_type
unfolding keyword_of
returns-in-root_type c = rw c.in-root_type.is refl

pub returns-in-file_extension : goal.returns-in-file_extension
unfolding keyword_of
returns-in-file_extension c = rw c.in-file_extension.is refl

pub returns-in-file_identifier : goal.returns-in-file_identifier
unfolding keyword_of
returns-in-file_identifier c = rw c.in-file_identifier.is refl

pub returns-in_default : goal.returns-in_default
unfolding keyword_of
returns-in_default c = rw (
  not_word _ _ c.in_default.not-namespace,
  not_word _ _ c.in_default.not-attribute,
  not_word _ _ c.in_default.not-table,
  not_word _ _ c.in_default.not-struct,
  not_word _ _ c.in_default.not-enum,
  not_word _ _ c.in_default.not-union,
  not_word _ _ c.in_default.not-root_type,
  not_word _ _ c.in_default.not-file_extension,
  not_word _ _ c.in_default.not-file_identifier,
)
    refl
