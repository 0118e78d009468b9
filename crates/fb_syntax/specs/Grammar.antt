-- The grammar of names, fields and types (Grammar).
use Rattle.std.specs.Prelude.{true, false, List, [], Option, Some, None}
use Rattle.fb_syntax.specs.Located.{Located}
use Rattle.fb_syntax.specs.Integers.{number_of}
use Rattle.fb_syntax.specs.FieldRead.{FieldRead}
use Rattle.fb_syntax.specs.TypesRead.{TableRead, EnumRead, UnionRead}
use Rattle.fb_syntax.specs.Signs.{byte}
use Rattle.fb_syntax.specs.Rules.{Rule, token, give, ◌>>=◌, rule_before, with_token, more, block, listed}
use Rattle.fb_syntax.specs.declared.tokens.TokenKind.TheVariants.{Word, Integer, Quoted, Punct}
use Rattle.fb_syntax.specs.Attributes.{AttributeRead}
use Rattle.fb_syntax.specs.declared.declarations.AttributeValue.{AttributeValue}
use Rattle.fb_syntax.specs.declared.declarations.AttributeValue.TheVariants as values
use Rattle.fb_syntax.specs.declared.declarations.FieldType.{FieldType}
use Rattle.fb_syntax.specs.declared.declarations.FieldType.TheVariants as types
use Rattle.fb_syntax.specs.declared.declarations.DefaultValue.{DefaultValue}
use Rattle.fb_syntax.specs.declared.declarations.DefaultValue.TheVariants as defaults
use Rattle.fb_syntax.specs.declared.declarations.EnumValue.{EnumValue}
use Rattle.fb_syntax.specs.declared.declarations.UnionMember.{UnionMember}

-- Word { "." Word }
unfoldable pub dotted_name : Rule Located
dotted_name = do
  word ← token Word
  more word

-- Integer | Quoted | Word
unfoldable pub attribute_value : Rule AttributeValue
attribute_value = with_token Integer (λ digits. give (values.Integer (number_of digits)))
    (with_token Quoted (λ text. give (values.Quoted text)) (do word ← token Word; give (values.Word word)))

-- Word [ ":" value ]
unfoldable pub attribute : Rule AttributeRead
attribute = do
  name ← token Word
  with_token (Punct (byte ":"))
      (λ _. do value ← attribute_value; give (record { name = name; value = Some value }))
      (give (record { name = name; value = None }))

-- [ "(" [ attribute { "," attribute } ] ")" ]
unfoldable pub metadata : Rule (List AttributeRead)
metadata = with_token (Punct (byte "("))
    (λ _. with_token (Punct (byte ")")) (λ _. give []) (listed attribute false (byte ")")))
    (give [])

-- "[" name "]" | name
unfoldable pub field_type : Rule FieldType
field_type = with_token (Punct (byte "["))
    (λ bracket. do name ← rule_before dotted_name (byte "]"); give (types.Many bracket.at name))
    (do name ← dotted_name; give (types.One name))

-- Integer | name
unfoldable pub default_value : Rule DefaultValue
default_value = with_token Integer (λ digits. give (defaults.Integer (number_of digits)))
    (do name ← dotted_name; give (defaults.Name name))

-- [ "=" default_value ]
unfoldable pub default_part : Rule (Option DefaultValue)
default_part = with_token (Punct (byte "=")) (λ _. do value ← default_value; give (Some value)) (give None)

-- Word ":" type [ "=" default_value ] metadata ";"
unfoldable pub field : Rule FieldRead
field = do
  name ← rule_before (token Word) (byte ":")
  kind ← field_type
  default ← default_part
  attributes ← rule_before metadata (byte ";")
  give (record { name = name; kind = kind; default = default; attributes = attributes })

-- Word metadata "{" { field } "}", of a table or a struct
unfoldable pub table : Rule TableRead
table = do
  name ← token Word
  attributes ← rule_before metadata (byte "{")
  fields ← block field (byte "}")
  give (record { name = name; attributes = attributes; fields = fields })

-- Word [ "=" Integer ]
unfoldable pub enum_value : Rule EnumValue
enum_value = do
  name ← token Word
  with_token (Punct (byte "="))
      (λ _. do digits ← token Integer; give (record { name = name; number = Some (number_of digits) }))
      (give (record { name = name; number = None }))

-- Word ":" name metadata "{" value { "," value } [ "," ] "}"
unfoldable pub enumeration : Rule EnumRead
enumeration = do
  name ← rule_before (token Word) (byte ":")
  underlying ← dotted_name
  attributes ← rule_before metadata (byte "{")
  values ← listed enum_value true (byte "}")
  give (record { name = name; underlying = underlying; attributes = attributes; values = values })

-- Word ":" name | name
unfoldable pub union_member : Rule UnionMember
union_member = do
  word ← token Word
  with_token (Punct (byte ":"))
      (λ _. do table ← dotted_name; give (record { alias = Some word; table = table }))
      (do table ← more word; give (record { alias = None; table = table }))

-- Word metadata "{" member { "," member } [ "," ] "}"
unfoldable pub union : Rule UnionRead
union = do
  name ← token Word
  attributes ← rule_before metadata (byte "{")
  members ← listed union_member true (byte "}")
  give (record { name = name; attributes = attributes; members = members })
