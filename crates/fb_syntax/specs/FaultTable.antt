-- The faults of a schema text: number, name and offset.
use Rattle.std.specs.Prelude.{ℕ, List, Option, None, Some, codes}
use Rattle.fb_syntax.specs.declared.faults.SyntaxFault.{SyntaxFault}
use Rattle.fb_syntax.specs.declared.faults.SyntaxFault.TheVariants.{NotUtf8, BadByte, Unterminated, NumberTooBig}
use Rattle.fb_syntax.specs.declared.faults.SyntaxFault.TheVariants.{Unexpected, NestedVector, Memory}

-- the number of the rule, which no other fault has, and the name of the variant
abbrev pub row_of : SyntaxFault → ℕ × List ℕ
row_of (NotUtf8 at) = (1, codes "NotUtf8")
row_of (BadByte at) = (2, codes "BadByte")
row_of (Unterminated at) = (3, codes "Unterminated")
row_of (NumberTooBig at) = (4, codes "NumberTooBig")
row_of (Unexpected at) = (5, codes "Unexpected")
row_of (NestedVector at) = (6, codes "NestedVector")
row_of Memory = (7, codes "Memory")

abbrev pub number_of : SyntaxFault → ℕ
number_of f = (row_of f).0

abbrev pub name_of : SyntaxFault → List ℕ
name_of f = (row_of f).1

-- where the rule fails, in bytes from the start; what isn't bound to a place has none
abbrev pub offset_of : SyntaxFault → Option ℕ
offset_of (NotUtf8 at) = Some at
offset_of (BadByte at) = Some at
offset_of (Unterminated at) = Some at
offset_of (NumberTooBig at) = Some at
offset_of (Unexpected at) = Some at
offset_of (NestedVector at) = Some at
offset_of Memory = None
