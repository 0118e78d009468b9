-- The words that a declaration begins with.
use Rattle.std.specs.Prelude.{ℕ, List, [], ◌∷◌, Option, codes}
use Rattle.std.specs.List.{find}
use Rattle.std.specs.Str.{bytes_eq}
use Rattle.fb_syntax.specs.declared.parser.schema.Keyword.{Keyword}
use Rattle.fb_syntax.specs.declared.parser.schema.Keyword.TheVariants.{Namespace, Attribute, Table, Struct, Enum, Union}
use Rattle.fb_syntax.specs.declared.parser.schema.Keyword.TheVariants.{Root, Extension, Identifier}

abbrev pub spelling : Keyword → List ℕ
spelling Namespace = codes "namespace"
spelling Attribute = codes "attribute"
spelling Table = codes "table"
spelling Struct = codes "struct"
spelling Enum = codes "enum"
spelling Union = codes "union"
spelling Root = codes "root_type"
spelling Extension = codes "file_extension"
spelling Identifier = codes "file_identifier"

abbrev pub keywords : List Keyword
keywords = Namespace ∷ Attribute ∷ Table ∷ Struct ∷ Enum ∷ Union ∷ Root ∷ Extension ∷ Identifier ∷ []

unfoldable pub keyword_of : List ℕ → Option Keyword
keyword_of word = find (λ k. bytes_eq word (spelling k)) keywords
